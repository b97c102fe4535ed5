-- `routes::input::prefix_ok`. Whether a prefix has at most 32 bits, and no bit set after them.
use Rattle.routes.proofs.Faults.{too_long, tested}
use Rattle.routes.proofs.input.prefix_ok.Goals as goal

pub returns-then-l-gt32 : goal.returns-then-l-gt32
returns-then-l-gt32 c = search too_long

pub returns : goal.returns
returns c = tested _ _ _ c.from-l.ensures c.if-l-gt32.false c.ranges.addr.fits _ c.cut.ensures
