use Rattle.basic.specs.Walk.{mapped}
use Rattle.basic_lookup.proofs.WalkReturns.{turn-some, turn-none, turns-done}
use Rattle.basic_lookup.proofs.down.Goals as goal

pub returns-in-Some : goal.returns-in-Some
returns-in-Some c = turn-some (mapped c.args.bits.now c.args.cells.now c.args.addr) _ _ c.loop-l.invariant c.loop-l-test.true _ c.in-Some.ensures

pub loop-l-preserved : goal.loop-l-preserved
loop-l-preserved c = turn-none (mapped c.args.bits.now c.args.cells.now c.args.addr) _ _ c.loop-l.invariant c.loop-l-test.true c.in_default.ensures

pub returns : goal.returns
returns c = turns-done (mapped c.args.bits.now c.args.cells.now c.args.addr) _ _ c.loop-l.invariant c.loop-l-test.false
