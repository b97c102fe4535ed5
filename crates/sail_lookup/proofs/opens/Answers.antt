-- `sail_lookup::opens`: 0 less one is the largest number.
use Rattle.std.specs.Prelude.{◌+◌, ◌%◌}
use Rattle.std.proofs.Common.{arith}
use Rattle.sail.proofs.Steps.{wraps-below}
use Rattle.sail_lookup.proofs.opens.Goals as goal

pub returns : goal.returns
returns c =
    wraps-below c.args.chunks c.args.v ((c.args.v + 18446744073709551615) % 18446744073709551616) (omega (arith, c.ranges.v.fits)) (omega arith)
    c.ranges.chunks.fits
