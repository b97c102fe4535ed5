-- `sail_owners::owners::open_all`: the pass of a table that adds 0 to its owners, between no others.
use mathlib.Core.Path.{◌∙◌}
use Rattle.sail_owners.proofs.Froms.{from-none, ownable-between}
use Rattle.sail_owners.proofs.owners.open_all.Goals as goal

pub open_between-requires : goal.open_between-requires
open_between-requires c = ownable-between _ _ _ _ c.requires

pub returns : goal.returns
returns c = c.open_between.ensures ∙ from-none _ _ _
