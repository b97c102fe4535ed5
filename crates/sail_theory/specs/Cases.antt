-- What the calls that make, change and report a table can say, case by case and in document 01's order, each case with all that then holds. The
-- cases exclude each other, and a call says what stands beside the one that holds (`refused-number-CALL`).
use Rattle.std.specs.Prelude.{true, false, List, [], ◌∷◌, ◌≡◌, ℕ, ◌*◌, ◌/◌, ◌≤◌, ◌<◌, length}
use Rattle.routes.specs.Route.{key_of, key, Prefix, Fine}
use Rattle.routes.specs.Record.{Records}
use Rattle.routes.specs.Cases.{WrongRoute, BadInput}
use Rattle.routes.specs.Said.{Said, accepted, refused}
use Rattle.routes.specs.declared.Route.{Route}
use Rattle.standing.specs.Cells.{need}
use Rattle.standing.specs.Standing.{stands, insert}
use Rattle.sail.specs.Cases.{Sizing}
use Rattle.sail.specs.Lent.{Lent}
use Rattle.sail.specs.Sizes.{Sized}
use Rattle.sail.specs.Sound.{Sound, standing}
use Rattle.sail.specs.declared.table.Table.{Table}
use Rattle.sail_theory.specs.Render.{room_of}
use Rattle.sail_theory.specs.Calls.{input_routes}
use Rattle.sail_theory.specs.Facts.{Withdrawable, Loadable}

-- make: 1, 2
pub data Make (t : Table) (l : Lent) : Said → Type 0 where
  sizing : (n : ℕ) → Sizing t l n → Make t l (refused n)
  done : Sized t.geometry l → Make t l (accepted [])

-- announce: 1, 2; what is wrong with the route by itself (3, 4, 10); 5, 6, 7, 8. A replacement never meets 6 to 8. This and withdraw are of the
-- prefix that is meant: the calls clear the bits after the length (proofs/calls/Cleared.antt)
module _ (t : Table) (l : Lent) (r : Route) where
  abbrev rs : List Route
  rs = standing t l

  -- the routes that would then stand
  abbrev next : List Route
  next = insert r rs

  -- the route is fine, and the table sound
  pub record Proper : Type 0 where
    pub fine : Fine r
    pub sound : Sound t l

  -- and the prefix does not stand, and the list has room
  pub record Roomy : Type 0 where
    pub proper : Proper
    pub new : stands (key r) rs ≡ false
    pub room : length rs < room_of l

  pub data Announce : Said → Type 0 where
    sizing : (n : ℕ) → Sizing t l n → Announce (refused n)
    wrong : (n : ℕ) → Sized t.geometry l → WrongRoute r n → Announce (refused n)
    unsound : Sized t.geometry l → Fine r → (Sound t l → ⊥) → Announce (refused 5)
    replaced : Proper → stands (key r) rs ≡ true → Announce (accepted (1 ∷ []))
    full : Proper → stands (key r) rs ≡ false → room_of l ≤ length rs → Announce (refused 6)
    second : Roomy → length l.own2 < need next t.geometry.p1 → Announce (refused 7)
    third : Roomy → need next t.geometry.p1 ≤ length l.own2 → length l.own3 < need next t.geometry.p2 → Announce (refused 8)
    added : Roomy → need next t.geometry.p1 ≤ length l.own2 → need next t.geometry.p2 ≤ length l.own3 → Announce (accepted (0 ∷ []))

-- withdraw: 1, 2, 3, 5, 9
pub data Withdraw (t : Table) (l : Lent) (a len : ℕ) : Said → Type 0 where
  sizing : (n : ℕ) → Sizing t l n → Withdraw t l a len (refused n)
  bad_prefix : Sized t.geometry l → (Prefix a len → ⊥) → Withdraw t l a len (refused 3)
  unsound : Sized t.geometry l → Prefix a len → (Sound t l → ⊥) → Withdraw t l a len (refused 5)
  absent : Prefix a len → Sound t l → stands (key_of a len) (standing t l) ≡ false → Withdraw t l a len (refused 9)
  removed : Withdrawable t l a len → Withdraw t l a len (accepted [])

-- load: 1, 2, the input's with its index, 6, 7, 8
module _ (t : Table) (l : Lent) (input : List ℕ) where
  -- right sizes and a good input; what is wrong with one that is not good is `BadInput`
  pub record Readable : Type 0 where
    pub sized : Sized t.geometry l
    pub whole : length input ≡ length input / 8 * 8
    pub records : Records input (length input / 8)

  pub data Load : Said → Type 0 where
    sizing : (n : ℕ) → Sizing t l n → Load (refused n)
    bad_input : (s : Said) → Sized t.geometry l → BadInput input s → Load s
    full : Readable → room_of l < length input / 8 → Load (refused 6)
    second : Readable → length input / 8 ≤ room_of l → length l.own2 < need (input_routes input) t.geometry.p1 → Load (refused 7)
    third : Readable → length input / 8 ≤ room_of l → need (input_routes input) t.geometry.p1 ≤ length l.own2 → length l.own3 < need
        (input_routes input) t.geometry.p2 → Load (refused 8)
    done : Readable → Loadable t l (input_routes input) → Load (accepted [])

-- report: 1, 2, 5
pub data Report (t : Table) (l : Lent) : Said → Type 0 where
  sizing : (n : ℕ) → Sizing t l n → Report t l (refused n)
  unsound : Sized t.geometry l → (Sound t l → ⊥) → Report t l (refused 5)
  counts : Sound t l → Report t l (accepted (t.count ∷ need (standing t l) t.geometry.p1 ∷ need (standing t l) t.geometry.p2 ∷ []))
