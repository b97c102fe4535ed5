-- `said_numbered` of an answer with a `Refused` is `said_by`, of one with a `Refusal` `said_plainly`.
use Rattle.std.specs.Prelude.{◌≡◌, List, ℕ, Result, Ok, Err, refl}
use Rattle.refusals.specs.declared.Refusal.{Refusal}
use Rattle.refusals.specs.declared.Refused.{Refused}
use Rattle.routes.specs.Said.{said_by, said_plainly}
use Rattle.numbered.specs.Numbers.{number_alone, number_and_index, said_numbered}

module _ {A : Type 0} (values : A → List ℕ) where
  pub said-with_index : (r : Result A Refused) → said_numbered number_and_index values r ≡ said_by values r
  unfolding said_numbered said_by
  said-with_index (Ok v) = refl
  said-with_index (Err e) = refl

  pub said-alone : (r : Result A Refusal) → said_numbered number_alone values r ≡ said_plainly values r
  unfolding said_numbered said_plainly
  said-alone (Ok v) = refl
  said-alone (Err why) = refl
