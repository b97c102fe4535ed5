-- `sail_paint::place::meets`. Whether cell i of level p lies under the prefix of len bits of addr, or holds it.
use Rattle.sail_paint.proofs.Places.{meets_under, meets-holds}
use Rattle.sail_paint.proofs.place.meets.Goals as goal

pub returns-then-len-p : goal.returns-then-len-p
returns-then-len-p c = meets_under _ _ _ _ c.if-len-p.true

pub returns : goal.returns
returns c = meets-holds _ _ _ _ c.if-len-p.false
