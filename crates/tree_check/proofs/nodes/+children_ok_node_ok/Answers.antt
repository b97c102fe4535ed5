use Rattle.std.proofs.Common.{sym, ◌∙◌, arith}
use Rattle.tree_formed.proofs.NodeTests.{all_none, all_more, all-not, siblings-lent, siblings-first, siblings-rest, node-bad, node-last, node-bare, node-inner, children-in}
use Rattle.tree_check.proofs.nodes.+children_ok_node_ok.Goals as goal

pub children_ok-returns-then-n-eq0 : goal.children_ok-returns-then-n-eq0
children_ok-returns-then-n-eq0 t c = all_none _ _ _ c.if-n-eq0.true

pub children_ok-node_ok-requires : goal.children_ok-node_ok-requires
children_ok-node_ok-requires t c = (omega (arith, c.if-n-eq0.false), siblings-first _ _ _ _ c.requires.0 c.if-n-eq0.false)

pub children_ok-overflow_add-first : goal.children_ok-overflow_add-first
children_ok-overflow_add-first t c = omega (arith, c.requires.0.inside, c.requires.0.few)

pub children_ok-children_ok-requires : goal.children_ok-children_ok-requires
children_ok-children_ok-requires t c =
    let some = c.if-n-eq0.false in
    (omega (arith, some), (siblings-rest _ _ _ _ c.requires.0 some, omega (arith, c.requires.1)))

pub children_ok-returns-then-node_ok : goal.children_ok-returns-then-node_ok
children_ok-returns-then-node_ok t c = c.children_ok.ensures ∙ all_more _ _ _ c.if-n-eq0.false (sym c.node_ok.ensures ∙ c.if-node_ok.true)

pub children_ok-returns-else-node_ok : goal.children_ok-returns-else-node_ok
children_ok-returns-else-node_ok t c = c.if-node_ok.false ∙ all-not _ _ _ c.if-n-eq0.false (sym c.node_ok.ensures ∙ c.if-node_ok.false)

pub node_ok-bounds-words-at : goal.node_ok-bounds-words-at
node_ok-bounds-words-at t c = omega (arith, siblings-lent _ _ _ _ c.requires)

pub node_ok-returns-then-is_set : goal.node_ok-returns-then-is_set
node_ok-returns-then-is_set t c = node-bad _ _ _ c.requires (sym c.is_set.ensures ∙ c.if-is_set.true)

pub node_ok-returns-then-left-eq0 : goal.node_ok-returns-then-left-eq0
node_ok-returns-then-left-eq0 t c = node-last _ _ _ c.requires (sym c.is_set.ensures ∙ c.if-is_set.false) c.if-left-eq0.true

pub node_ok-returns-then-word-eq0 : goal.node_ok-returns-then-word-eq0
node_ok-returns-then-word-eq0 t c =
    node-bare _ _ _ c.requires (sym c.is_set.ensures ∙ c.if-is_set.false) c.if-left-eq0.false (omega arith)

pub node_ok-first_child-first-requires : goal.node_ok-first_child-first-requires
node_ok-first_child-first-requires t c = omega (arith, siblings-lent _ _ _ _ c.requires)

pub node_ok-children_ok-requires : goal.node_ok-children_ok-requires
node_ok-children_ok-requires t c = (
  omega (arith, c.if-left-eq0.false, c.children.ensures.1),
  (
    children-in _ _ _ c.requires (sym c.is_set.ensures ∙ c.if-is_set.false) c.if-left-eq0.false _ _ c.first_child-first.ensures.0
        c.children.ensures.0,
    c.children.ensures.1,
  ),
)

pub node_ok-returns : goal.node_ok-returns
node_ok-returns t c =
    c.children_ok.ensures
    ∙ node-inner _ _ _ c.requires (sym c.is_set.ensures ∙ c.if-is_set.false) c.if-left-eq0.false (omega arith) _ _ c.first_child-first.ensures.0
    c.children.ensures.0
