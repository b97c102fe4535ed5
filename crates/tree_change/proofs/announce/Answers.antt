-- The refusals in their order; where the image is well formed, what is put to its routes.
use Rattle.tree_change.proofs.ChangeReturns.{proper, fine, is-formed, passed-route}
use Rattle.tree_change.proofs.ChangeReturns.{announced-three, announced-four, announced-broken, announced-formed}
use Rattle.tree_change.proofs.announce.Goals as goal

pub returns-then-not-prefix_ok : goal.returns-then-not-prefix_ok
returns-then-not-prefix_ok c = announced-three _ _ _ _ _ _ c.prefix_ok.ensures c.if-not-prefix_ok.true

pub returns-then-not-hop_ok : goal.returns-then-not-hop_ok
returns-then-not-hop_ok c =
    announced-four _ _ (proper _ _ c.prefix_ok.ensures c.if-not-prefix_ok.false) _ _ c.hop_ok.ensures c.if-not-hop_ok.true

pub returns-in_default : goal.returns-in_default
returns-in_default c =
    announced-broken _ _ (proper _ _ c.prefix_ok.ensures c.if-not-prefix_ok.false) c.in_default.ensures
    (fine _ c.hop_ok.ensures c.if-not-hop_ok.false)

pub put-requires : goal.put-requires
put-requires c = (
  is-formed _ _ _ (λ j. (c.slice_known-1.given j).fits) c.in-Some.ensures,
  passed-route (proper _ _ c.prefix_ok.ensures c.if-not-prefix_ok.false) (fine _ c.hop_ok.ensures c.if-not-hop_ok.false) c.from.ensures,
)

pub returns : goal.returns
returns c =
    announced-formed _ _ (proper _ _ c.prefix_ok.ensures c.if-not-prefix_ok.false) _ c.in-Some.ensures
    (fine _ c.hop_ok.ensures c.if-not-hop_ok.false) c.from.ensures c.put.ensures
