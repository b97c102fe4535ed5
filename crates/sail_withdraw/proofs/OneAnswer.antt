-- Two outcomes that the statement of withdraw allows are the same: its answer, the state, and all that is lent.
use mathlib.Core.Path.{◌≡◌}
use Prim.Native.Nat.{ℕ}
use Rattle.sail.specs.Lent.{Lent}
use Rattle.sail.specs.declared.table.Table.{Table}
use Rattle.sail_theory.proofs.calls.OneEnd.{one_end}
use Rattle.sail_withdraw.specs.Answers.{means_withdraw}
use Rattle.sail_withdraw.specs.Contract.{MeetsWithdraw}
use Rattle.sail_withdraw.specs.declared.answers.Withdrawn.{Withdrawn}
use Rattle.sail_withdraw.proofs.Injective.{withdraw-injective}

pub one-answer-withdraw : (t : Table) (l : Lent) (addr len : ℕ) (x y : Withdrawn) (u v : Lent) → MeetsWithdraw t l addr len x u
    → MeetsWithdraw t l addr len y v → (x ≡ y) × (u ≡ v)
one-answer-withdraw t l addr len x y u v =
    one_end means_withdraw withdraw-injective (λ a s. record { answer = a; table = s }) x.answer y.answer x.table y.table u v _
