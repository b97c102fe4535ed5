-- Refusals by their numbers, and what an answer says that holds one.
use Rattle.std.specs.Prelude.{List, ℕ, None, Result, Ok, Err}
use Rattle.refusals.specs.Numbers.{number_of}
use Rattle.refusals.specs.declared.Refusal.{Refusal}
use Rattle.refusals.specs.declared.Refused.{Refused}
use Rattle.routes.specs.Said.{Said, accepted, refused_by}
use Rattle.numbered.specs.declared.ByNumber.{ByNumber}

-- a refusal of the whole, and one that may be of one record
abbrev pub number_alone : Refusal → ByNumber
number_alone why = record { number = number_of why; at = None }

abbrev pub number_and_index : Refused → ByNumber
number_and_index e = record { number = number_of e.why; at = e.at }

-- what a call says that is refused so
abbrev pub told_so : ByNumber → Said
told_so e = refused_by e.number e.at

-- What an answer says: its values, or its refusal, by the number and the index that `by_number` gives.
unfoldable pub said_numbered : {A E : Type 0} → (E → ByNumber) → (A → List ℕ) → Result A E → Said
said_numbered by_number values (Ok v) = accepted (values v)
said_numbered by_number values (Err e) = told_so (by_number e)
