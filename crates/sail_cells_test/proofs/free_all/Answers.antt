use mathlib.Core.Bool.{not}
use mathlib.Core.Path.{ap}
use native.Mathlib.Omega.{arith}
use borrow.Author.Count.{below_none, below_more}
use Rattle.bits.proofs.Tells.{is-yes, refuted, passed}
use Rattle.sail_cells_test.proofs.free_all.Goals as goal

pub loop-c-init : goal.loop-c-init
loop-c-init c = (omega arith, below_none _)

pub returns-then-not-free_chunk : goal.returns-then-not-free_chunk
returns-then-not-free_chunk c = refuted c.free_chunk.ensures (ap not c.if-not-free_chunk.true) (λ h. h.each _ (omega arith))

pub loop-c-preserved : goal.loop-c-preserved
loop-c-preserved c =
    (omega arith, below_more _ _ c.loop-c.invariant.1 (passed c.free_chunk.ensures (ap not c.if-not-free_chunk.false)))

pub returns : goal.returns
returns c = is-yes (record { each = λ k h. c.loop-c.invariant.1 k (omega arith) })
