-- The invariant: the words of the nodes from a up to i are done; those ahead are still what they were.
use Rattle.tree_places.proofs.Loops.{Ahead, ChangedTo}
use Rattle.tree_places.proofs.bases.each.Given as goal

abbrev pub invariant-loop-i : goal.invariant-loop-i
invariant-loop-i g l =
    Ahead l.initial.words l.d l.a l.b l.words l.i × ChangedTo (goal.F-post g l.f) l.initial.words l.d l.a l.b l.words l.i
