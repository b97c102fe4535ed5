use mathlib.Core.Bool.{not}
use mathlib.Core.Path.{ap}
use borrow.Author.Rules.{rules}
use Rattle.sail_cells_test.proofs.Blocks.{block-of-first, first-none, first_more, first_off, first-all}
use Rattle.sail_cells_test.proofs.first_ok.Goals as goal

pub loop-b-init : goal.loop-b-init
loop-b-init c = (search rules, search first-none)

pub block_ok-requires : goal.block_ok-requires
block_ok-requires c = search block-of-first

pub returns-then-not-block_ok : goal.returns-then-not-block_ok
returns-then-not-block_ok c = search first_off

pub loop-b-preserved : goal.loop-b-preserved
loop-b-preserved c =
    let l = c.loop-b in (
      search rules,
      first_more _ _ _ _ _ _
          c.requires _ _ l.b _ l.invariant.1
          c.block_ok.ensures (ap not c.if-not-block_ok.false),
    )

pub returns : goal.returns
returns c = search first-all
