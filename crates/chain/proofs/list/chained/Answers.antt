-- `chain::list::chained`. The words of good records are good, so they have a chain; their routes are those of the records.
use Rattle.chain.proofs.Fronts.{none-decoded, all-ready, all-chained}
use Rattle.chain.proofs.list.chained.Goals as goal

pub decode-requires : goal.decode-requires
decode-requires c = none-decoded _ _ _ c.requires

pub ready-requires : goal.ready-requires
ready-requires c =
    let all = all-ready _ _ _ c.requires _ c.decode.ensures in record { words_room = all.0; parents_below = all.1 }

pub returns : goal.returns
returns c = all-chained _ _ _ c.requires _ c.decode.ensures _ c.ready.ensures
