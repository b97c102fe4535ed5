-- The hop base of the last node is the number of hops before it.
use mathlib.Core.Path.{refl}
use Rattle.tree_formed.proofs.Steps.{hops-last}
use Rattle.tree_check.proofs.hops_in.Goals as goal

pub returns : goal.returns
returns c =
    let pre = c.requires in
    hops-last _ _ _ _ pre.0 pre.2 refl c.ones_below.ensures.0
