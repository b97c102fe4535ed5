-- `bits::mask`. The mask of a length: so many ones from the top, and zeros after them.
use Rattle.bits.proofs.Masks.{mask-zero, mask-shl}
use Rattle.bits.proofs.mask.Goals as goal

pub returns-then-len-eq0 : goal.returns-then-len-eq0
returns-then-len-eq0 c = search mask-zero

pub returns : goal.returns
returns c = search mask-shl
