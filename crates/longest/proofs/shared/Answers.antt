-- The zeros before the first bit that differs.
use Rattle.longest.proofs.Shares.{shared_zeros}
use Rattle.longest.proofs.shared.Goals as goal

pub returns : goal.returns
returns c = search shared_zeros
