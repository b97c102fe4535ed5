-- Where the whole test answers a number of nodes, the image is well formed, and its nodes and hops are few enough for a word each.
use mathlib.Core.Path.{refl}
use native.Mathlib.Omega.{arith}
use Rattle.tree_formed.proofs.TestReturns.{check-hops-in, check-few, tested-image, tested-broken}
use Rattle.tree_check.proofs.test.Goals as goal

pub returns-in_default : goal.returns-in_default
returns-in_default c = tested-broken _ _ c.in_default.ensures

pub hops_in-requires : goal.hops_in-requires
hops_in-requires c = check-hops-in _ _ _ c.in-Some.ensures

pub overflow_cast-result : goal.overflow_cast-result
overflow_cast-result c =
    record { fits = omega (arith, (check-few _ c.args.hops.now _ c.in-Some.ensures (λ j. (c.type_inv.words j).fits)).0) }

pub overflow_cast-result-2 : goal.overflow_cast-result-2
overflow_cast-result-2 c =
    record { fits = omega (arith, (check-few _ c.args.hops.now _ c.in-Some.ensures (λ j. (c.type_inv.words j).fits)).1, c.hops_in.ensures) }

pub returns : goal.returns
returns c = tested-image _ _ _ c.in-Some.ensures _ _ _ c.hops_in.ensures refl refl
