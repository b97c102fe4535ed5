use mathlib.Core.Path.{◌≡◌}
use Prim.Native.Nat.{max}
use native.Mathlib.Omega.{arith}
use borrow.Author.Rules.{rules}
use borrow.Author.Count.{below_none}
use Rattle.bits.proofs.Tells.{is-yes, tells-same}
use Rattle.sail_counts_test.proofs.CountRuns.{most-next}
use Rattle.sail_counts_test.proofs.idle_ok.Goals as goal

pub loop-j-init : goal.loop-j-init
loop-j-init c = is-yes (below_none _)

pub loop-j-preserved : goal.loop-j-preserved
loop-j-preserved c =
    let e : c.max-most.result ≡ max c.loop-j.most c.idle_count.result = search rules in
    rw e (most-next c.args.cells.now c.args.counts.now _ _ _ c.idle_count.ensures c.loop-j.invariant)

pub returns : goal.returns
returns c =
    tells-same (λ f. record { each = λ q h. f q (omega arith) }) (λ z q h. z.each q (omega arith)) c.loop-j.invariant
