-- The invariant: the answer so far is whether the first j hops are 1 to 32,767 each.
use mathlib.Core.Path.{◌≡◌}
use Prim.Native.Nat.{◌≤◌}
use Rattle.tree_formed.specs.WellFormed.{hops_fine_to}
use Rattle.tree_check.proofs.hops_fine.Given as goal

abbrev pub invariant-loop-j : goal.invariant-loop-j
invariant-loop-j l = (l.j ≤ l.k) × (l.fine ≡ hops_fine_to l.hops l.j)
