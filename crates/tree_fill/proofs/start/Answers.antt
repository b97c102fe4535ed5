-- `tree_fill::start`. Zeros, and the root, which waits with the whole list.
use mathlib.Core.Path.{refl}
use Rattle.tree_fill.proofs.Ends.{root-room, state-start}
use Rattle.tree_fill.proofs.start.Goals as goal

pub put_node-requires : goal.put_node-requires
put_node-requires c =
    root-room _ _ _ c.requires _ c.fill-2.new.self (c.fill.ensures.after (λ y e. e)) (c.fill-2.ensures.after (λ y e. e))

pub returns : goal.returns
returns c =
    state-start _ _ _ c.requires _ _ (c.fill.ensures.after (λ y e. e)) (c.fill-2.ensures.after (λ y e. e)) _ _ refl c.put_node.ensures
