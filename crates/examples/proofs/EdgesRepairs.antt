-- A repair at its limits. What it says, the cells aside, follows from the list, the route count and the lengths: no cell is computed.
use mathlib.Core.Path.{◌≡◌, refl, ◌∙◌, ap}
use mathlib.Core.Bool.{true}
use mathlib.Core.List.{List, [], ◌∷◌}
use Prim.Native.Nat.{ℕ, zero, suc, ◌-◌, ◌/◌, min}
use lib.ListN.{length, length-replicate}
use Rattle.bits.specs.Slot.{cut}
use Rattle.routes.specs.Record.{record_at}
use Rattle.routes.specs.Input.{proper_prefix, hop_fine, route_fault}
use Rattle.routes.specs.Said.{Said, accepted}
use Rattle.routes.specs.declared.Route.{Route}
use Rattle.standing.specs.Cells.{any, need}
use Rattle.sail.specs.Geometry.{valid_geo}
use Rattle.sail.specs.Sizes.{sizes_fit, sizes_fault}
use Rattle.sail_theory.specs.Calls.{terms_of, chunks_fault, or_say}
use Rattle.repair_theory.specs.Repair.{kept_from, kept_of, looked, kept_routes, repair_said}
use Rattle.repair_theory.proofs.Repairs.{repair-said}
use Rattle.examples.specs.Lines.{Hold}
use Rattle.examples.specs.Blank.{Lengths}
use Rattle.examples.specs.EdgesRepairs.{bytes, found, counting, alone, Asked, answer, edges}
use Rattle.examples.proofs.Lines.{all_serve, lines-hold}
use Rattle.examples.proofs.Blank.{fault, terms}

-- what is lent, with the whole list
abbrev lengths_of : List ℕ → Lengths → Lengths
lengths_of xs n = record {
  list = length (bytes xs n);
  first = n.first;
  second = n.second;
  third = n.third;
  own2 = n.own2;
  own3 = n.own3;
  long1 = n.long1;
  long2 = n.long2;
}

-- the records looked at, and those kept
abbrev looks : Asked → ℕ
looks q = min q.count (length (bytes q.list q.lent) / 8)

abbrev keeps : Asked → List Route
keeps q = kept_of (bytes q.list q.lent) (looks q)

unfoldable paper : Asked → Said
paper q =
    or_say (fault q.geometry (lengths_of q.list q.lent))
    (or_say (chunks_fault (terms q.geometry (lengths_of q.list q.lent)) (keeps q))
    (accepted ((looks q - length (keeps q)) ∷ [])))

alone-or : (f : ℕ) (s : Said) → alone (or_say f s) ≡ or_say f (alone s)
alone-or zero s = refl
alone-or (suc f) s = refl

module _ (q : Asked) where
  fault-so : sizes_fault q.geometry (found q.list q.lent) ≡ fault q.geometry (lengths_of q.list q.lent)
  unfolding sizes_fault found
  fault-so = simp length-replicate

  terms-so : terms_of (counting q.geometry q.count) (found q.list q.lent) ≡ terms q.geometry (lengths_of q.list q.lent)
  unfolding found
  terms-so = simp length-replicate

  agrees : answer q ≡ paper q
  unfolding answer paper repair_said kept_routes looked found
  agrees =
      ap alone (repair-said (counting q.geometry q.count) (found q.list q.lent))
      ∙ alone-or (sizes_fault q.geometry (found q.list q.lent)) _
      ∙ ap (or_say (sizes_fault q.geometry (found q.list q.lent)))
      (alone-or (chunks_fault (terms_of (counting q.geometry q.count) (found q.list q.lent)) (keeps q)) _)
      ∙ rw (fault-so, terms-so)

served : all_serve answer paper (λ q. true) (λ q e. agrees q) edges ≡ true
unfolding all_serve edges
served = refl

on-paper : Hold paper edges
unfolding Hold edges paper valid_geo sizes_fit chunks_fault kept_from record_at route_fault proper_prefix hop_fine cut need any
on-paper = refl

pub repairs-hold : Hold answer edges
repairs-hold = lines-hold answer paper (λ q. true) (λ q e. agrees q) edges served on-paper
