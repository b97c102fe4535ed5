use mathlib.Core.Path.{refl}
use native.Mathlib.Omega.{arith}
use Rattle.tree_image.specs.Walk.{tree_said}
use Rattle.tree_image.proofs.Walks.{walk-past, walk-broken, walk-last, walk-stop, walk-down}
use Rattle.tree.proofs.lookup.Goals as goal

pub loop-at-init : goal.loop-at-init
unfolding tree_said
loop-at-init c = (omega arith, refl)

pub returns-then-is_set : goal.returns-then-is_set
returns-then-is_set c = search walk-broken

pub returns-then-d-eq0 : goal.returns-then-d-eq0
returns-then-d-eq0 c = search walk-last

pub returns-then-not-is_set : goal.returns-then-not-is_set
returns-then-not-is_set c = search walk-stop

pub loop-at-preserved : goal.loop-at-preserved
loop-at-preserved c = (omega arith, search walk-down)

pub returns : goal.returns
returns c = search walk-past
