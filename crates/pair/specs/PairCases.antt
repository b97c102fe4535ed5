-- What the calls on a box can return, case by case and in order, each case with all that then holds. The cases exclude each other, and a call returns
-- what is next to the one that holds (`refused-number-pair-CALL`, crate demands).
use Rattle.std.specs.Prelude.{true, false, List, [], ◌∷◌, ◌⊎◌, ◌≡◌, ℕ, ◌+◌, ◌-◌, ◌*◌, ◌/◌, ◌≤◌, ◌<◌, length, get_or}
use Rattle.routes.specs.Route.{key_of, key, Prefix, Fine}
use Rattle.routes.specs.Record.{Records}
use Rattle.routes.specs.Cases.{WrongRoute, BadInput}
use Rattle.routes.specs.Said.{Said, accepted, refused}
use Rattle.routes.specs.declared.Route.{Route}
use Rattle.standing.specs.Cells.{need}
use Rattle.standing.specs.Standing.{stands, insert}
use Rattle.sail.specs.Cases.{Stray}
use Rattle.sail.specs.Geometry.{Valid}
use Rattle.sail.specs.Reads.{Leads}
use Rattle.sail.specs.Sizes.{Sized}
use Rattle.sail.specs.Walk.{cell1, cell2, cell3, leaf_said}
use Rattle.sail_theory.specs.Calls.{input_routes}
use Rattle.pair.specs.Party.{Party, foreign}
use Rattle.pair.specs.PairLent.{PairLent, side, room_for, seen_by}
use Rattle.pair.specs.PairSound.{share_of, standing_for, PairSound}
use Rattle.pair.specs.declared.Pair.{Pair}

-- the sizes of what is lent to either party are right
abbrev pub AllSized : Pair → PairLent → Type 0
AllSized t b = (w : Party) → Sized t.geometry (side w b)

-- 1 and 2
pub data PairSizing (t : Pair) (b : PairLent) : ℕ → Type 0 where
  limits : (Valid t.geometry → ⊥) → PairSizing t b 1
  size : Valid t.geometry → (AllSized t b → ⊥) → PairSizing t b 2

-- make: 1, 2, 24
pub data PairMake (t : Pair) (b : PairLent) : Said → Type 0 where
  sizing : (n : ℕ) → PairSizing t b n → PairMake t b (refused n)
  over : AllSized t b → (length b.own2 < t.one.most2 + t.two.most2) ⊎ (length b.own3 < t.one.most3 + t.two.most3)
      → PairMake t b (refused 24)
  done : AllSized t b → t.one.most2 + t.two.most2 ≤ length b.own2 → t.one.most3 + t.two.most3 ≤ length b.own3 → PairMake t b (accepted [])

module _ (w : Party) (t : Pair) (b : PairLent) where
  -- the party's routes, and its limits
  abbrev rs : List Route
  rs = standing_for w t b

  abbrev limit2 : ℕ
  limit2 = (share_of w t).most2

  abbrev limit3 : ℕ
  limit3 = (share_of w t).most3

  -- announce: 1, 2; what is wrong with the route alone (3, 4, 10); 5, 6, 7, 8. A replacement never meets 6 to 8. This and withdraw are of the prefix
  -- that is meant: the calls clear the bits after the length
  module _ (r : Route) where
    -- the routes that would then stand
    abbrev next : List Route
    next = insert r rs

    -- the route is fine, and the box sound
    pub record PairProper : Type 0 where
      pub fine : Fine r
      pub sound : PairSound t b

    -- and the prefix does not stand, and the party's list has room
    pub record PairRoomy : Type 0 where
      pub proper : PairProper
      pub new : stands (key r) rs ≡ false
      pub room : length rs < room_for w b

    pub data PairAnnounce : Said → Type 0 where
      sizing : (n : ℕ) → PairSizing t b n → PairAnnounce (refused n)
      wrong : (n : ℕ) → AllSized t b → WrongRoute r n → PairAnnounce (refused n)
      unsound : AllSized t b → Fine r → (PairSound t b → ⊥) → PairAnnounce (refused 5)
      replaced : PairProper → stands (key r) rs ≡ true → PairAnnounce (accepted (1 ∷ []))
      full : PairProper → stands (key r) rs ≡ false → room_for w b ≤ length rs → PairAnnounce (refused 6)
      second : PairRoomy → limit2 < need next t.geometry.p1 → PairAnnounce (refused 7)
      third : PairRoomy → need next t.geometry.p1 ≤ limit2 → limit3 < need next t.geometry.p2 → PairAnnounce (refused 8)
      added : PairRoomy → need next t.geometry.p1 ≤ limit2 → need next t.geometry.p2 ≤ limit3 → PairAnnounce (accepted (0 ∷ []))

  -- withdraw: 1, 2, 3, 5, 9
  pub data PairWithdraw (a len : ℕ) : Said → Type 0 where
    sizing : (n : ℕ) → PairSizing t b n → PairWithdraw a len (refused n)
    bad_prefix : AllSized t b → (Prefix a len → ⊥) → PairWithdraw a len (refused 3)
    unsound : AllSized t b → Prefix a len → (PairSound t b → ⊥) → PairWithdraw a len (refused 5)
    absent : Prefix a len → PairSound t b → stands (key_of a len) rs ≡ false → PairWithdraw a len (refused 9)
    removed : Prefix a len → PairSound t b → stands (key_of a len) rs ≡ true → PairWithdraw a len (accepted [])

  -- load: 1, 2, 5, the input's with its index, 6, 7, 8
  module _ (input : List ℕ) where
    -- a sound box and a good input; what is wrong with one that is not good is `BadInput`
    pub record PairReadable : Type 0 where
      pub sound : PairSound t b
      pub whole : length input ≡ length input / 8 * 8
      pub records : Records input (length input / 8)

    abbrev need2 : ℕ
    need2 = need (input_routes input) t.geometry.p1

    abbrev need3 : ℕ
    need3 = need (input_routes input) t.geometry.p2

    pub data PairLoad : Said → Type 0 where
      sizing : (n : ℕ) → PairSizing t b n → PairLoad (refused n)
      unsound : AllSized t b → (PairSound t b → ⊥) → PairLoad (refused 5)
      bad_input : (s : Said) → PairSound t b → BadInput input s → PairLoad s
      full : PairReadable → room_for w b < length input / 8 → PairLoad (refused 6)
      second : PairReadable → length input / 8 ≤ room_for w b → limit2 < need2 → PairLoad (refused 7)
      third : PairReadable → length input / 8 ≤ room_for w b → need2 ≤ limit2 → limit3 < need3 → PairLoad (refused 8)
      done : PairReadable → length input / 8 ≤ room_for w b → need2 ≤ limit2 → need3 ≤ limit3 → PairLoad (accepted [])

  -- report: 1, 2, 5
  pub data PairReport : Said → Type 0 where
    sizing : (n : ℕ) → PairSizing t b n → PairReport (refused n)
    unsound : AllSized t b → (PairSound t b → ⊥) → PairReport (refused 5)
    counts : PairSound t b → PairReport (accepted ((share_of w t).count ∷ need rs t.geometry.p1 ∷ need rs t.geometry.p2 ∷ []))

  -- lookup: 1, 2, 5; a leaf returns its hop and how many cells were read
  module _ (a : ℕ) where
    abbrev pub v1 : ℕ
    v1 = cell1 t.geometry (seen_by w b) a

    abbrev pub v2 : ℕ
    v2 = cell2 t.geometry (seen_by w b) a

    abbrev pub v3 : ℕ
    v3 = cell3 t.geometry (seen_by w b) a

    -- the cell v leads to a chunk of a pool with these owners, which is not the other party's, or is
    pub record Enters (own : List ℕ) (v : ℕ) : Type 0 where
      pub leads : Leads v (length own)
      pub open_to : foreign w (get_or own (v - 1) 0) ≡ false

    pub record Theirs (own : List ℕ) (v : ℕ) : Type 0 where
      pub leads : Leads v (length own)
      pub theirs : foreign w (get_or own (v - 1) 0) ≡ true

    pub data PairLookup : Said → Type 0 where
      sizing : (n : ℕ) → PairSizing t b n → PairLookup (refused n)
      first_leaf : AllSized t b → 32768 ≤ v1 → PairLookup (leaf_said 1 v1)
      first_stray : AllSized t b → Stray v1 (length b.own2) → PairLookup (refused 5)
      first_theirs : AllSized t b → Theirs b.own2 v1 → PairLookup (refused 5)
      second_leaf : AllSized t b → Enters b.own2 v1 → 32768 ≤ v2 → PairLookup (leaf_said 2 v2)
      second_stray : AllSized t b → Enters b.own2 v1 → Stray v2 (length b.own3) → PairLookup (refused 5)
      second_theirs : AllSized t b → Enters b.own2 v1 → Theirs b.own3 v2 → PairLookup (refused 5)
      third_is_leaf : AllSized t b → Enters b.own2 v1 → Enters b.own3 v2 → 32768 ≤ v3 → PairLookup (leaf_said 3 v3)
      third_no_leaf : AllSized t b → Enters b.own2 v1 → Enters b.own3 v2 → v3 < 32768 → PairLookup (refused 5)
