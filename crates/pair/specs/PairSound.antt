-- The state of a box of two, its sizes, and when it is sound: of both together.
use Rattle.std.specs.Prelude.{Bool, false, ◌&&◌, ◌||◌, not, cond, List, ◌≡◌, ℕ, ◌+◌, ◌≤◌, ◌<◌, eqb, leb, get_or, length}
use Rattle.bits.specs.Tab.{every}
use Rattle.routes.specs.declared.Route.{Route}
use Rattle.standing.specs.Cells.{need}
use Rattle.sail.specs.Geometry.{bits2, bits3}
use Rattle.sail.specs.Sizes.{sizes_fault, Sized}
use Rattle.sail.specs.Sound.{Sound, standing}
use Rattle.sail.specs.declared.geometry.Geometry.{Geometry}
use Rattle.sail.specs.declared.table.Table.{Table}
use Rattle.sail_theory.specs.SoundTest.{sound?}
use Rattle.pair.specs.Party.{Party, one, two, seen}
use Rattle.pair.specs.PairLent.{PairLent, side, mine, sees}
use Rattle.pair.specs.declared.Share.{Share}
use Rattle.pair.specs.declared.Pair.{Pair}

abbrev pub share_of : Party → Pair → Share
share_of one t = t.one
share_of two t = t.two

-- the state of a share for each
abbrev pub pair_of : Geometry → (Party → Share) → Pair
pair_of g s = record { geometry = g; one = s one; two = s two }

-- the state of a party's own table
abbrev pub table_for : Party → Pair → Table
table_for w t = record { geometry = t.geometry; count = (share_of w t).count }

-- the party's standing routes
abbrev pub standing_for : Party → Pair → PairLent → List Route
standing_for w t b = standing (table_for w t) (side w b)

-- 1: the geometry is outside the limits; else 2: a size is wrong, of what is lent to the first party or to the second; else 0. Every call, lookup too,
-- is lent all eleven arrays and asks for all their sizes
unfoldable pub pair_sizes_fault : Geometry → PairLent → ℕ
pair_sizes_fault g b = cond (eqb (sizes_fault g (side one b)) 0) (sizes_fault g (side two b)) (sizes_fault g (side one b))

-- what the check of the sizes answers: the number, and if it is 0, the facts
pub record PairSizesTold (r : ℕ) (g : Geometry) (b : PairLent) : Type 0 where
  pub number : r ≡ pair_sizes_fault g b
  pub facts : r ≡ 0 → (w : Party) → Sized g (side w b)

-- "owner 0 is nobody's", and nothing else is: if neither party sees a chunk as its own, the owner is 0
pub record Nobodys (own : List ℕ) : Type 0 where
  pub zero : (c : ℕ) → c < length own → seen one (get_or own c 0) ≡ 0 → seen two (get_or own c 0) ≡ 0 → get_or own c 0 ≡ 0

-- and an array over the pool is 0 there
pub record Spare (own : List ℕ) (d : ℕ) (xs : List ℕ) : Type 0 where
  pub blank : (q : ℕ) → q < length xs → mine one own d q ≡ false → mine two own d q ≡ false → get_or xs q 0 ≡ 0

-- "Soundness is of both together, with needs within limits and limits that fit the pools". (`PairSound` holds exactly if `BoxReads` does, which says it
-- of the cells and owners as they are: specs/PairReading.antt.)
pub record PairSound (t : Pair) (b : PairLent) : Type 0 where
  -- "of both together": the table that each party sees is sound, with all of document 01's sentences and true counts
  pub each : (w : Party) → Sound (table_for w t) (sees t.geometry w b)
  -- what is neither's has owner 0, cells 0 and counts 0
  pub nobodys2 : Nobodys b.own2
  pub nobodys3 : Nobodys b.own3
  pub spare2 : Spare b.own2 (bits2 t.geometry) b.second
  pub spare3 : Spare b.own3 (bits3 t.geometry) b.third
  pub uncounted : Spare b.own2 (bits2 t.geometry) b.long2
  -- needs within limits
  pub within2 : (w : Party) → need (standing_for w t b) t.geometry.p1 ≤ (share_of w t).most2
  pub within3 : (w : Party) → need (standing_for w t b) t.geometry.p2 ≤ (share_of w t).most3
  -- limits that fit the pools
  pub fit2 : t.one.most2 + t.two.most2 ≤ length b.own2
  pub fit3 : t.one.most3 + t.two.most3 ≤ length b.own3

-- The same as a test. It decides refusal 5 in the definitions of the calls, and is computed on no box.
unfoldable pub nobodys? : List ℕ → Bool
nobodys? own = every (λ c. not (eqb (seen one (get_or own c 0)) 0 && eqb (seen two (get_or own c 0)) 0) || eqb (get_or own c 0) 0) (length own)

unfoldable pub spare? : List ℕ → ℕ → List ℕ → Bool
spare? own d xs = every (λ q. (mine one own d q || mine two own d q) || eqb (get_or xs q 0) 0) (length xs)

unfoldable pub within? : Party → Pair → PairLent → Bool
within? w t b =
    leb (need (standing_for w t b) t.geometry.p1) (share_of w t).most2 && leb (need (standing_for w t b) t.geometry.p2) (share_of w t).most3

-- the limits fit the pools
unfoldable pub limits_fit : Pair → PairLent → Bool
limits_fit t b = leb (t.one.most2 + t.two.most2) (length b.own2) && leb (t.one.most3 + t.two.most3) (length b.own3)

unfoldable pub pair_sound? : Pair → PairLent → Bool
pair_sound? t b =
    sound? (table_for one t) (sees t.geometry one b)
    && (sound? (table_for two t) (sees t.geometry two b)
    && (nobodys? b.own2
    && (nobodys? b.own3
    && (spare? b.own2 (bits2 t.geometry) b.second
    && (spare? b.own3 (bits3 t.geometry) b.third
    && (spare? b.own2 (bits2 t.geometry) b.long2
    && (within? one t b
    && (within? two t b && limits_fit t b))))))))
