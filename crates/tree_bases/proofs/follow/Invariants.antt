-- The invariant: the answer so far tells whether the bases so far are those of the fixed order.
use Rattle.std.proofs.Common.{◌≤◌}
use Rattle.bits.specs.Tab.{Tells}
use Rattle.tree_formed.specs.Bases.{NodesUpTo}
use Rattle.tree_bases.proofs.follow.Given as goal

abbrev pub invariant-loop-i : goal.invariant-loop-i
invariant-loop-i l = (l.i ≤ l.m) × Tells l.right (NodesUpTo l.words l.i)
