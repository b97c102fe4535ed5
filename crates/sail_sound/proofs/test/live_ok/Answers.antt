-- `sail_sound::test::live_ok`: a level that fails decides, and the third is looked at where the first two are right.
use mathlib.Core.Bool.{not}
use mathlib.Core.Path.{ap}
use Rattle.sail_sound.proofs.Levels.{first-cells, pooled2, pooled3, first-fails, second-fails, third-tells}
use borrow.Author.Rules.{rules}
use Rattle.sail_sound.proofs.test.live_ok.Goals as goal

pub first_ok-requires : goal.first_ok-requires
first_ok-requires c = first-cells _ _ c.requires.chain_ready _ _ _ _ _ _ c.requires.celled _ (search rules)

pub returns-then-not-first_ok : goal.returns-then-not-first_ok
returns-then-not-first_ok c = first-fails _ _ _ _ _ _ _ _ c.first_ok.ensures (ap not c.if-not-first_ok.true)

pub owned_all-requires : goal.owned_all-requires
owned_all-requires c = pooled2 _ _ c.requires.chain_ready _ _ _ _ _ _ c.requires.celled _ (search rules)

pub returns-then-not-owned_all : goal.returns-then-not-owned_all
returns-then-not-owned_all c = second-fails _ _ _ _ _ _ _ _ c.first_ok.ensures _ c.owned_all.ensures (ap not c.if-not-owned_all.true)

pub owned_all-requires-2 : goal.owned_all-requires-2
owned_all-requires-2 c =
    pooled3 _ _ c.requires.chain_ready _ _ _ _ _ _ c.requires.celled _ (search rules) _ _
    c.owned_all.ensures (ap not c.if-not-owned_all.false)

pub returns : goal.returns
returns c =
    third-tells _ _ _ _ _ _ _ _ c.first_ok.ensures _ c.owned_all.ensures (ap not c.if-not-first_ok.false)
    (ap not c.if-not-owned_all.false) _ c.owned_all-2.ensures
