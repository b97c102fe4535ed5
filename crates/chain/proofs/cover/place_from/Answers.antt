-- `chain::cover::place_from`. How many words have a smaller key, by halving between two heads.
use Rattle.chain.proofs.Chains.{head-between}
use Rattle.chain.proofs.cover.place_from.Goals as goal

pub place_between-requires : goal.place_between-requires
place_between-requires c = search head-between
