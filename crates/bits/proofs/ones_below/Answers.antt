-- `bits::ones_below`. How many bits of a word below a bit are set.
use mathlib.Core.Path.{ap}
use native.Mathlib.Omega.{arith}
use lib.Count.{ones}
use lib.Pow.{pow_pos}
use Rattle.bits.proofs.Slots.{shl_one}
use Rattle.bits.proofs.Ones.{masked, below-le}
use Rattle.bits.proofs.ones_below.Goals as goal

pub overflow_sub-result : goal.overflow_sub-result
overflow_sub-result c = omega (arith, shl_one 32 c.args.bit c.requires, pow_pos c.args.bit)

pub returns : goal.returns
returns c =
    let e = ap ones (masked c.args.word c.args.bit c.requires) in
    (e, rw e (below-le c.args.word c.args.bit))
