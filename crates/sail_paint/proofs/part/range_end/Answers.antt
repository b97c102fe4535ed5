-- `sail_paint::part::range_end`. Where the cells of level p that meet a prefix of len bits end; they begin with the cell `from`.
use native.Mathlib.Omega.{arith}
use Rattle.plan.proofs.Ranges.{span-one, span_more}
use Rattle.sail_paint.proofs.part.range_end.Goals as goal

pub returns-then-p-len : goal.returns-then-p-len
returns-then-p-len c = let a = c.args in omega (arith, span-one a.p a.len c.if-p-len.true)

pub overflow_add-result-2 : goal.overflow_add-result-2
overflow_add-result-2 c = let a = c.args in omega (arith, span_more a.p a.len c.requires.0)

pub returns : goal.returns
returns c = let a = c.args in omega (arith, span_more a.p a.len c.requires.0)
