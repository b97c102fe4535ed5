-- Refusals 1 and 2: the geometry and the sizes of what is lent. The route count is no matter of sizes.
use Rattle.std.specs.Prelude.{Bool, ◌&&◌, cond, ◌≡◌, ℕ, ◌*◌, ◌%◌, ◌^◌, ◌≤◌, eqb, leb, length}
use Rattle.sail.specs.Geometry.{bits2, bits3, valid_geo, Valid}
use Rattle.sail.specs.Lent.{Lent, Cells}
use Rattle.sail.specs.declared.geometry.Geometry.{Geometry}

-- "the list, 0 to 4,096 records of room; 2^p1 first cells; a second pool of 0 to 4,096 chunks of 2^(p2 - p1) cells; a third pool of
-- 0 to 4,096 chunks of 2^(32 - p2) cells; for each pool an owner number for each chunk"; a count "for each first cell" and "for each cell of
-- the second pool"
unfoldable pub sizes_fit : Geometry → ℕ → ℕ → ℕ → ℕ → ℕ → ℕ → ℕ → ℕ → Bool
sizes_fit g list first second third own2 own3 long1 long2 =
    eqb (list % 8) 0
    && (leb list (4096 * 8)
    && (eqb first (2 ^ g.p1)
    && (leb own2 4096
    && (eqb second (own2 * 2 ^ bits2 g)
    && (leb own3 4096
    && (eqb third (own3 * 2 ^ bits3 g)
    && (eqb long1 (2 ^ g.p1)
    && eqb long2 second)))))))

-- so have the arrays that are lent
abbrev pub lengths_fit : Geometry → Lent → Bool
lengths_fit g l =
    sizes_fit g (length l.list) (length l.first) (length l.second) (length l.third) (length l.own2) (length l.own3) (length l.long1)
    (length l.long2)

-- 1: the geometry is outside the limits; else 2: a size is wrong; else 0
unfoldable pub sizes_fault : Geometry → Lent → ℕ
sizes_fault g l = cond (valid_geo g) (cond (lengths_fit g l) 0 2) 1

-- neither, as facts
pub record Sized (g : Geometry) (l : Lent) : Type 0 where
  pub valid : Valid g
  pub whole : length l.list % 8 ≡ 0
  pub room : length l.list ≤ 4096 * 8
  pub cells1 : length l.first ≡ 2 ^ g.p1
  pub few2 : length l.own2 ≤ 4096
  pub cells2 : length l.second ≡ length l.own2 * 2 ^ bits2 g
  pub few3 : length l.own3 ≤ 4096
  pub cells3 : length l.third ≡ length l.own3 * 2 ^ bits3 g
  pub counts1 : length l.long1 ≡ 2 ^ g.p1
  pub counts2 : length l.long2 ≡ length l.second

-- of these, what painting and the test of the levels need
pub record Celled (g : Geometry) (l : Cells) : Type 0 where
  pub valid : Valid g
  pub cells1 : length l.first ≡ 2 ^ g.p1
  pub few2 : length l.own2 ≤ 4096
  pub cells2 : length l.second ≡ length l.own2 * 2 ^ bits2 g
  pub few3 : length l.own3 ≤ 4096
  pub cells3 : length l.third ≡ length l.own3 * 2 ^ bits3 g

-- what the check of the sizes answers: the number, and where it is 0, the facts
pub record SizesTold (r : ℕ) (g : Geometry) (l : Lent) : Type 0 where
  pub number : r ≡ sizes_fault g l
  pub facts : r ≡ 0 → Sized g l
