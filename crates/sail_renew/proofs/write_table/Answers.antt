-- `sail_renew::write_table`. Pools, owners and second counts are emptied, and the owners are filled. What is then laid over zeros is what a load leaves.
use Rattle.sail_renew.proofs.Renews.{ownable, layable, renews}
use Rattle.sail_renew.proofs.write_table.Goals as goal

pub open_all-requires : goal.open_all-requires
open_all-requires c = ownable _ _ _ c.requires _ _ _ _ _ c.wipe.ensures

pub lay-requires : goal.lay-requires
lay-requires c = layable _ _ _ c.requires _ _ _ _ _ c.wipe.ensures _ _ c.open_all.ensures

pub returns : goal.returns
returns c = renews _ _ _ c.requires _ _ _ _ _ c.wipe.ensures _ _ c.open_all.ensures _ c.lay.ensures
