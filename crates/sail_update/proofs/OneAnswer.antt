-- Two outcomes that the statement of update allows are the same: its answer, the state, and all that is lent.
use Rattle.std.proofs.Common.{◌≡◌, ℕ, List}
use Rattle.sail.specs.Lent.{Lent}
use Rattle.sail.specs.declared.table.Table.{Table}
use Rattle.sail_theory.proofs.calls.OneEnd.{one_end}
use Rattle.sail_update.specs.Answers.{means_update}
use Rattle.sail_update.specs.Contract.{MeetsUpdate}
use Rattle.sail_update.specs.declared.answers.Update.{Update}
use Rattle.sail_update.specs.declared.answers.Update.TheVariants as update
use Rattle.sail_update.specs.declared.answers.Updated.{Updated}

update_injective : (x y : Update) → means_update x ≡ means_update y → x ≡ y
unfolding means_update
update_injective (update.Done k) (update.Done j) e = cc
update_injective (update.Done k) (update.Stopped n j) e = cc
update_injective (update.Done k) (update.Refused n) e = cc
update_injective (update.Stopped m k) (update.Done j) e = cc
update_injective (update.Stopped m k) (update.Stopped n j) e = cc
update_injective (update.Stopped m k) (update.Refused n) e = cc
update_injective (update.Refused m) (update.Done j) e = cc
update_injective (update.Refused m) (update.Stopped n j) e = cc
update_injective (update.Refused m) (update.Refused n) e = cc

pub one-answer-update : (t : Table) (l : Lent) (wd re : List ℕ) (hop : ℕ) (x y : Updated) (u v : Lent) → MeetsUpdate t l wd re hop x u
    → MeetsUpdate t l wd re hop y v → (x ≡ y) × (u ≡ v)
one-answer-update t l wd re hop x y u v =
    one_end means_update update_injective (λ a s. record { answer = a; table = s }) x.answer y.answer x.table y.table u v _
