use mathlib.Core.Bool.{not}
use mathlib.Core.Path.{ap}
use Rattle.bits.proofs.Tells.{is-yes, refuted, passed}
use Rattle.sail_cells_test.proofs.Chunks.{still-pooled}
use native.Mathlib.Omega.{arith}
use borrow.Author.Rules.{rules}
use borrow.Author.Count.{below_none, below_more}
use Rattle.sail_cells_test.proofs.owned_all.Goals as goal

pub loop-c-init : goal.loop-c-init
loop-c-init c = (omega arith, c.requires.room, below_none _)

pub chunk_ok-requires : goal.chunk_ok-requires
chunk_ok-requires c =
    record {
      pooled = still-pooled _ _ _ _ _ _ _ _ _ _ c.requires _
          c.loop-c.invariant.1;
      c_in_bounds = search rules;
    }

pub returns-then-not-chunk_ok : goal.returns-then-not-chunk_ok
returns-then-not-chunk_ok c = refuted c.chunk_ok.ensures (ap not c.if-not-chunk_ok.true) (λ h. h.each _ (omega arith))

pub loop-c-preserved : goal.loop-c-preserved
loop-c-preserved c = (
  omega arith,
  search rules,
  below_more _ _ c.loop-c.invariant.2
      (passed c.chunk_ok.ensures (ap not c.if-not-chunk_ok.false)),
)

pub returns : goal.returns
returns c = is-yes (record { each = λ k h. c.loop-c.invariant.2 k (omega arith) })
