-- What a party's call leaves of the other's.
use Rattle.std.specs.Prelude.{true, List, ◌≡◌, ℕ, ◌/◌, ◌^◌, ◌<◌, get_or, length}
use Rattle.sail.specs.Geometry.{bits2, bits3}
use Rattle.sail.specs.declared.geometry.Geometry.{Geometry}
use Rattle.pair.specs.Party.{Party, other, foreign}
use Rattle.pair.specs.PairLent.{PairLent, side}

-- from the owners `own` to `own'`: a chunk that is the other's stays so, with its owner, and none becomes the other's
pub record OwnersKept (w : Party) (own own' : List ℕ) : Type 0 where
  pub many : length own' ≡ length own
  pub stay : (c : ℕ) → c < length own → foreign w (get_or own c 0) ≡ true → get_or own' c 0 ≡ get_or own c 0
  pub none_new : (c : ℕ) → c < length own → foreign w (get_or own' c 0) ≡ true → get_or own' c 0 ≡ get_or own c 0

-- and from xs to xs', arrays over that pool, of chunks of 2 ^ d cells: what is in a chunk of the other's stays
pub record CellsKept (w : Party) (own : List ℕ) (d : ℕ) (xs xs' : List ℕ) : Type 0 where
  pub many : length xs' ≡ length xs
  pub stay : (q : ℕ) → q < length xs → foreign w (get_or own (q / 2 ^ d) 0) ≡ true → get_or xs' q 0 ≡ get_or xs q 0

-- From b to v nothing of the other party's changes: no byte of its list, no first cell and no count of its own, and in the pools no owner, no cell and no
-- count of its chunks.
pub record TheirsStay (g : Geometry) (w : Party) (b v : PairLent) : Type 0 where
  pub list : (side (other w) v).list ≡ (side (other w) b).list
  pub first : (side (other w) v).first ≡ (side (other w) b).first
  pub long1 : (side (other w) v).long1 ≡ (side (other w) b).long1
  pub owners2 : OwnersKept w b.own2 v.own2
  pub owners3 : OwnersKept w b.own3 v.own3
  pub cells2 : CellsKept w b.own2 (bits2 g) b.second v.second
  pub cells3 : CellsKept w b.own3 (bits3 g) b.third v.third
  pub counts2 : CellsKept w b.own2 (bits2 g) b.long2 v.long2
