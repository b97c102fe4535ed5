-- The refusals in their order; where the image is well formed, what is taken from its routes.
use Rattle.tree_change.proofs.ChangeReturns.{proper, is-formed, passed-prefix, withdrawn-three, withdrawn-broken, withdrawn-formed}
use Rattle.tree_change.proofs.withdraw.Goals as goal

pub returns-then-not-prefix_ok : goal.returns-then-not-prefix_ok
returns-then-not-prefix_ok c = withdrawn-three _ _ _ _ _ c.prefix_ok.ensures c.if-not-prefix_ok.true

pub returns-in_default : goal.returns-in_default
returns-in_default c = withdrawn-broken _ _ (proper _ _ c.prefix_ok.ensures c.if-not-prefix_ok.false) c.in_default.ensures

pub take-requires : goal.take-requires
take-requires c = (
  is-formed _ _ _ (λ j. (c.slice_known-1.given j).fits) c.in-Some.ensures,
  passed-prefix (proper _ _ c.prefix_ok.ensures c.if-not-prefix_ok.false) c.from.ensures,
)

pub returns : goal.returns
returns c =
    withdrawn-formed _ _ (proper _ _ c.prefix_ok.ensures c.if-not-prefix_ok.false) _ c.in-Some.ensures c.from.ensures c.take.ensures
