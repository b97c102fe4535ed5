-- `tree_fill::step`. The node at i is taken from the queue and gets its words; its hops are put after those that are put, and its children wait after the nodes that wait.
use mathlib.Core.Path.{refl}
use Rattle.tree_fill.proofs.Steps.{node-run, hops-ready, kids-ready, node-room, state-next}
use Rattle.tree_fill.proofs.step.Goals as goal

pub node_word-word-requires : goal.node_word-word-requires
node_word-word-requires c = node-run _ _ _ _ _ _ c.requires _ _ _ refl refl refl

pub put_hops-requires : goal.put_hops-requires
put_hops-requires c =
    hops-ready _ _ _ _ _ _ c.requires _ _ _ refl refl refl _
    c.node_word-word.ensures

pub put_kids-requires : goal.put_kids-requires
put_kids-requires c =
    kids-ready _ _ _ _ _ _ c.requires _ _ _ refl refl refl _
    c.node_word-word.ensures

pub put_node-requires : goal.put_node-requires
put_node-requires c =
    node-room _ _ _ _ _ _ c.requires _ _ _ refl refl refl
    _ c.node_word-word.ensures _ c.put_hops.ensures _ c.put_kids.ensures

pub returns : goal.returns
returns c =
    state-next _ _ _ _ _ _ c.requires _ _ _ refl refl refl
    _ c.node_word-word.ensures _ c.put_hops.ensures _ c.put_kids.ensures _ _
    refl refl _ c.put_node.ensures _ _
    c.ones_below.ensures.0 c.ones_below-2.ensures.0
