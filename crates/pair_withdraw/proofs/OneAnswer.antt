-- Two outcomes that the statement of a party's withdrawal allows are the same: its answer, the state, and all that is lent.
use mathlib.Core.Path.{◌≡◌, sym, ◌∙◌, ap, ap₂}
use Prim.Native.Nat.{ℕ}
use Rattle.sail_withdraw.specs.declared.answers.Withdraw.{Withdraw}
use Rattle.sail_withdraw.proofs.Injective.{withdraw-injective}
use Rattle.pair.specs.Party.{Party}
use Rattle.pair.specs.PairLent.{PairLent}
use Rattle.pair.specs.PairCalls.{PairOut}
use Rattle.pair.specs.declared.Pair.{Pair}
use Rattle.pair_withdraw.specs.Contract.{MeetsPairWithdraw}
use Rattle.pair_withdraw.specs.declared.answers.PairWithdrawn.{PairWithdrawn}

pub one-answer-pair-withdraw : (w : Party) (t : Pair) (b : PairLent) (addr len : ℕ) (x y : PairWithdrawn) (u v : PairLent)
    → MeetsPairWithdraw w t b addr len x u → MeetsPairWithdraw w t b addr len y v → (x ≡ y) × (u ≡ v)
one-answer-pair-withdraw w t b addr len x y u v p q =
    let same = p ∙ sym q in
    let answer = withdraw-injective x.answer y.answer (ap (λ (o : PairOut). o.said) same) in
    let state = ap (λ (o : PairOut). o.state) same in
    (ap₂ (λ (a : Withdraw) (s : Pair). record { answer = a; state = s }) answer state, ap (λ (o : PairOut). o.lent) same)
