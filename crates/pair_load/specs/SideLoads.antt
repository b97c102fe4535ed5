-- A load on a party's side of a sound box: what it asks, and the side that it leaves.
use Rattle.std.specs.Prelude.{List, [], ◌≡◌, ℕ, ◌≤◌, length}
use Rattle.standing.specs.Cells.{need}
use Rattle.sail.specs.Lent.{Lent}
use Rattle.sail_theory.specs.Calls.{Owners, input_routes, owners_of}
use Rattle.sail_renew.specs.Renew.{WholeRecords}
use Rattle.pair.specs.Party.{Party}
use Rattle.pair.specs.PairLent.{PairLent, side, room_for}
use Rattle.pair.specs.PairSound.{share_of, PairSound}
use Rattle.pair.specs.PairCalls.{owners_after_for, owners_kept_for}
use Rattle.pair.specs.declared.Pair.{Pair}
use Rattle.pair_cells.specs.Sides.{side_left}

-- the side of a sound box, and an input of whole good records, whose routes are within the party's room and limits
pub record LoadReady (w : Party) (t : Pair) (l : Lent) (input : List ℕ) : Type 0 where
  pub box : PairLent
  pub is : side w box ≡ l
  pub sound : PairSound t box
  pub readable : WholeRecords input
  pub roomy : length (input_routes input) ≤ room_for w box
  pub enough2 : need (input_routes input) t.geometry.p1 ≤ (share_of w t).most2
  pub enough3 : need (input_routes input) t.geometry.p2 ≤ (share_of w t).most3

-- the owners of withdrawing all of the party's routes and then announcing the input's, in order
abbrev pub load_owners : Party → Pair → Owners → List ℕ → Owners
load_owners w t o input = owners_after_for w t.geometry (owners_kept_for w t.geometry [] o) (input_routes input)

abbrev pub side_loaded : Party → Pair → Lent → List ℕ → Lent
side_loaded w t l input = side_left w t.geometry l (input_routes input) (load_owners w t (owners_of l) input)
