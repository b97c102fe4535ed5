-- `routes::prefix::clear_after`: a length over 32 leaves the address as it is, and so does the cut; any other is cut.
use mathlib.Core.Path.{sym}
use native.Mathlib.Omega.{arith}
use Rattle.bits.proofs.Slots.{cut-over}
use Rattle.routes.proofs.prefix.clear_after.Goals as goal

pub returns-then-n-gt32 : goal.returns-then-n-gt32
returns-then-n-gt32 c = let len = c.from-n.ensures in sym (cut-over _ _ (omega (arith, len, c.if-n-gt32.true)))

pub returns : goal.returns
returns c = rw c.from-n.ensures at c.cut.ensures
