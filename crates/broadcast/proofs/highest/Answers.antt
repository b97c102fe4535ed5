-- `broadcast::highest`: the addresses of a prefix end within 32 bits, so the sum fits.
use Rattle.broadcast.proofs.Highs.{sum_fits, sum-highest}
use Rattle.broadcast.proofs.highest.Goals as goal

pub overflow_add-result : goal.overflow_add-result
overflow_add-result c =
    let start = c in
    record { fits = sum_fits start.args.r start.requires _ _ c.from.ensures c.mask.ensures }

pub returns : goal.returns
returns c = search sum-highest
