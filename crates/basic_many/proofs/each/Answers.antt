use Prim.Native.Nat.{ℕ}
use native.Mathlib.Omega.{arith}
use lib.ListN.{get_or, length-set}
use Rattle.basic.specs.Calls.{basic_said, hop_word}
use Rattle.basic_many.proofs.ManyReturns.{each_word, each-refused, each-done}
use Rattle.bits.proofs.Tabs.{stored_more}
use Rattle.basic_many.proofs.each.Goals as goal

pub returns-then-out-m : goal.returns-then-out-m
returns-then-out-m c = rw c.into.ensures (each-refused _ _ _ _ _ c.if-out-m.true)

pub loop-k-preserved : goal.loop-k-preserved
loop-k-preserved c =
    let lent = c.args in
    let said : ℕ → ℕ = λ j. hop_word (basic_said lent.input.now lent.bits.now lent.cells.now (get_or lent.addrs.now j 0)) in
    let done = each_word _ _ _ _ _ _ _ _ c.requires c.walk.ensures c.found_of.ensures c.word.ensures in (
      simp length-set c.loop-k.invariant.0,
      stored_more said c.loop-k.out c.loop-k.k _ (omega (arith, c.loop-k.invariant.0)) c.loop-k.invariant.1 done,
    )

pub returns : goal.returns
returns c =
    each-done _ _ _ _ _ _ _ c.if-out-m.false (omega (arith, c.loop-k.invariant.0)) c.loop-k-test.false c.loop-k.invariant.1
