-- What the judge of a withdrawal finds: the number with which it is refused; or 0, and then what the part that changes the table rests on.
use Rattle.std.specs.Prelude.{true, false, List, ◌≡◌, ℕ, ◌<◌}
use Rattle.routes.specs.Route.{key, key_of}
use Rattle.routes.specs.Record.{record_at, routes_of}
use Rattle.standing.specs.Standing.{stands}
use Rattle.sail.specs.Lent.{Lent}
use Rattle.sail.specs.declared.table.Table.{Table}
use Rattle.sail_theory.specs.Calls.{withdraw_said}
use Rattle.sail_theory.specs.Facts.{Withdrawable}
use Rattle.sail_theory.specs.Judge.{Judged}
use Rattle.sail_judge.specs.declared.withdraw.WithdrawVerdict.{WithdrawVerdict}

-- of n records of s one has the prefix, and f says which; or none has, and f says 9
pub record RecordFound (s : List ℕ) (n a len : ℕ) (f : WithdrawVerdict) : Type 0 where
  pub on : f.number ≡ 0 → (f.at < n) × (key (record_at s f.at) ≡ key_of a len) × (stands (key_of a len) (routes_of s n) ≡ true)
  pub off : (f.number ≡ 0 → ⊥) → (f.number ≡ 9) × (stands (key_of a len) (routes_of s n) ≡ false)

-- the prefix may be withdrawn, and record `at` of the list has it
pub record ToTake (t : Table) (l : Lent) (a len at : ℕ) : Type 0 where
  pub may : Withdrawable t l a len
  pub place : at < t.count
  pub named : key (record_at l.list at) ≡ key_of a len

abbrev pub WithdrawJudged : Table → Lent → ℕ → ℕ → WithdrawVerdict → Type 0
WithdrawJudged t l a len f = Judged f.number (withdraw_said t l a len) (ToTake t l a len f.at)
