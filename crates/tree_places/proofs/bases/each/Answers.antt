use Rattle.tree_places.proofs.Loops.{ahead-none, ahead-more, changed-none, changed-more}
use Rattle.tree_places.proofs.bases.each.Goals as goal

pub loop-i-init : goal.loop-i-init
loop-i-init g c = (ahead-none c.requires.lent, changed-none (goal.F-post g c.args.f) _ _ _ c.args.b)

pub loop-i-preserved : goal.loop-i-preserved
loop-i-preserved g c = (
  ahead-more _ c.loop-i.invariant.0 c.loop-i-test.true,
  changed-more (goal.F-post g c.args.f) c.requires.lent c.loop-i.invariant.0 c.loop-i.invariant.1 c.loop-i-test.true c.f.ensures,
)
