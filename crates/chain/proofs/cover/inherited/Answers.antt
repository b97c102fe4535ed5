-- `chain::cover::inherited`. The hop of the longest route of at most p bits that covers cell i; the run under the cell begins at lo.
use Rattle.chain.proofs.Chains.{climb-placed, none-best, one-best, one-small, placed-in}
use native.Mathlib.Omega.{arith}
use Rattle.chain.proofs.cover.inherited.Goals as goal

pub last_cover-requires : goal.last_cover-requires
last_cover-requires c = search climb-placed

pub bounds-ws-k : goal.bounds-ws-k
bounds-ws-k c = let q = c.requires in placed-in q.chain_ready q.run_from _ (rw c.in-Some.is at c.last_cover.ensures)

pub returns-in-Some : goal.returns-in-Some
returns-in-Some c =
    let q = c.requires in
    let last = rw c.in-Some.is at c.last_cover.ensures in
    (one-best q.chain_ready q.run_from _ last, one-small q.chain_ready q.run_from _ last)

pub returns-in-None : goal.returns-in-None
returns-in-None c = (none-best c.requires.chain_ready c.requires.run_from (rw c.in-None.is at c.last_cover.ensures), omega arith)
