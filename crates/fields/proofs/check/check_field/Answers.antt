use mathlib.Core.Path.{refl, ap}
use Prim.Native.Nat.{ℕ, ◌+◌}
use native.Mathlib.Omega.{arith}
use Rattle.fields.proofs.Reading.{check-end, check-over, check-short, check-on}
use Rattle.fields.proofs.check.check_field.Goals as goal

pub loop-at-init : goal.loop-at-init
loop-at-init c = (omega arith, refl, refl)

pub returns-then-len-gt32 : goal.returns-then-len-gt32
returns-then-len-gt32 c = check-over _ _ c.loop-at.invariant.2 (omega arith) _ c.from-len.ensures c.if-len-gt32.true

pub returns-then-n-at : goal.returns-then-n-at
returns-then-n-at c =
    check-short _ _ c.loop-at.invariant.2 (omega arith) _ c.from-len.ensures c.if-len-gt32.false _
    (ap (λ (x : ℕ). 1 + x) c.bytes_for-size.ensures.0) c.if-n-at.true

pub loop-at-preserved : goal.loop-at-preserved
loop-at-preserved c = (
  omega arith,
  refl,
  check-on _ _ c.loop-at.invariant.2 (omega arith) _ c.from-len.ensures c.if-len-gt32.false _
      (ap (λ (x : ℕ). 1 + x) c.bytes_for-size.ensures.0) c.if-n-at.false,
)

pub returns : goal.returns
returns c = check-end c.args.field.now c.loop-at.at c.loop-at.invariant.2 (omega arith)
