-- A bare root passes; any other is a node with eight levels below it.
use mathlib.Core.Path.{◌∙◌}
use native.Mathlib.Omega.{arith}
use borrow.Author.Tests.{eq-eqb}
use Rattle.tree_formed.proofs.NodeTests.{root-bare, root-node, siblings-lent}
use Rattle.tree_check.proofs.nodes.root_ok.Goals as goal

pub bounds-words-0 : goal.bounds-words-0
bounds-words-0 c = omega (arith, siblings-lent _ _ _ _ c.requires)

pub returns-then-words-eq0 : goal.returns-then-words-eq0
returns-then-words-eq0 c = eq-eqb _ 0 c.if-words-eq0.true ∙ root-bare c.args.words.now c.if-words-eq0.true

pub returns-else-words-eq0 : goal.returns-else-words-eq0
returns-else-words-eq0 c = c.node_ok.ensures ∙ root-node _ c.if-words-eq0.false
