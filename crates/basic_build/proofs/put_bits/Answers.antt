use Rattle.basic_build.proofs.Fills.{bytes-all}
use Rattle.basic_build.proofs.put_bits.Goals as goal

pub returns : goal.returns
returns c = bytes-all _ _ _ c.loop-j.invariant.0 c.loop-j-test.false c.loop-j.invariant.1
