use mathlib.Core.Path.{◌≡◌}
use lib.ListN.{length}
use native.Mathlib.Omega.{arith}
use Rattle.chain.proofs.WordRuns.{inside-more, run_is}
use Rattle.chain.proofs.place.run_end.Goals as goal

pub loop-k-init : goal.loop-k-init
loop-k-init c = (omega arith, c.requires.run_from.place.to, λ j a b. absurd (omega arith))

pub returns-then-ws-k : goal.returns-then-ws-k
returns-then-ws-k c =
    let q = c.requires in
    let l = c.loop-k.invariant in
    run_is q.words q.run_from _ l.0 l.1 l.2 (λ h e. c.if-ws-k.true e)

pub loop-k-preserved : goal.loop-k-preserved
loop-k-preserved c =
    let l = c.loop-k.invariant in
    let a = c.args in
    (omega arith, omega arith, inside-more a.ws.now a.p _ _ _ l.2 c.if-ws-k.false)

pub returns : goal.returns
returns c =
    let q = c.requires in
    let l = c.loop-k.invariant in
    let e : c.loop-k.k ≡ length c.args.ws.now = omega arith in
    rw e at (run_is q.words q.run_from _ l.0 l.1 l.2 (λ h e. omega arith))
