use mathlib.Core.Path.{sym, ◌∙◌}
use native.Mathlib.Omega.{arith}
use Rattle.tree_theory.proofs.Ways.{walk_start, walk-next, walk_end, walk-stop}
use Rattle.tree_route.proofs.path.descend.Goals as goal

pub loop-depth-init : goal.loop-depth-init
loop-depth-init c = (walk_start _ _ _ c.requires.0 c.ranges.addr.fits, omega arith)

pub returns-then-not-is_set : goal.returns-then-not-is_set
returns-then-not-is_set c =
    walk-stop _ _ _ _ _ _ _ c.loop-depth.invariant.0 c.loop-depth-test.true c.turn-c.ensures.0
    (sym c.is_set.ensures ∙ c.if-not-is_set.true)

pub loop-depth-preserved : goal.loop-depth-preserved
loop-depth-preserved c = (
  walk-next _ _ _ _ _ _ _ c.requires.0 c.loop-depth.invariant.0
      (c.type_inv.words _).fits (omega arith) c.turn-c.ensures.0
      (sym c.is_set.ensures ∙ c.if-not-is_set.false) c.child_place-at.ensures.0,
  omega arith,
)

pub returns : goal.returns
returns c = walk_end _ _ _ _ _ _ c.loop-depth.invariant.0 c.loop-depth-test.false c.loop-depth.invariant.1
