use mathlib.Core.Path.{◌≡◌}
use lib.ListN.{length}
use native.Mathlib.Omega.{arith}
use Rattle.chain.proofs.Places.{upper, lower, met}
use Rattle.chain.proofs.place.place_on.Goals as goal

pub loop-k-init : goal.loop-k-init
loop-k-init c = c.requires

pub returns-then-key-ws : goal.returns-then-key-ws
returns-then-key-ws c = let b = c.loop-k.invariant in met (lower b _ (omega arith) c.loop-k-test.true c.if-key-ws.true) (omega arith)

pub loop-k-preserved : goal.loop-k-preserved
loop-k-preserved c = search upper

pub returns : goal.returns
returns c =
    let e : c.loop-k.k ≡ length c.args.ws.now = omega arith in
    rw e at (met c.loop-k.invariant (omega arith))
