-- Each return says what `fetched_from` says in its case: no place, a place beyond the hops, a hop that is none, and a hop, which counts one more than
-- the nodes.
use Rattle.tree_image.proofs.Walks.{fetch-none, fetch-past, fetch-bad, fetch-hop}
use Rattle.tree_match.proofs.fetch.Goals as goal

pub returns-in_default : goal.returns-in_default
returns-in_default c = search fetch-none

pub returns-then-place-hops : goal.returns-then-place-hops
returns-then-place-hops c = search fetch-past

pub returns-then-not-hop_ok : goal.returns-then-not-hop_ok
returns-then-not-hop_ok c = search fetch-bad

pub returns : goal.returns
returns c = search fetch-hop
