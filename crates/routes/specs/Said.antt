-- What a call says, in document 01's terms: every answer of a call is told by one of these. And how it is packed into one number.
use Rattle.std.specs.Prelude.{Bool, true, false, List, [], ◌∷◌, ℕ, ◌+◌, ◌*◌, ◌%◌, ◌^◌, get_or, Option, Some, None, Result, Ok, Err}
use Rattle.refusals.specs.Numbers.{number_of}
use Rattle.refusals.specs.declared.Refusal.{Refusal}
use Rattle.refusals.specs.declared.Refused.{Refused}

pub data Said : Type 0 where
  -- accepted, with its values
  accepted : List ℕ → Said
  -- refused, with its number
  refused : ℕ → Said
  -- refused, with its number and the index of a record
  refused_at : ℕ → ℕ → Said

-- a refusal by its number, and by the index of a record if there is one
abbrev pub refused_by : ℕ → Option ℕ → Said
refused_by n None = refused n
refused_by n (Some k) = refused_at n k

abbrev pub told : Refused → Said
told e = refused_by (number_of e.why) e.at

-- What an answer says: its values, or why it is refused. First where a refusal may have an index, then where none has.
unfoldable pub said_by : {A : Type 0} → (A → List ℕ) → Result A Refused → Said
said_by values (Ok v) = accepted (values v)
said_by values (Err e) = told e

unfoldable pub said_plainly : {A : Type 0} → (A → List ℕ) → Result A Refusal → Said
said_plainly values (Ok v) = accepted (values v)
said_plainly values (Err e) = refused (number_of e)

-- What a lookup says that counts its reads: so many reads, and then the hop; so many reads alone, and no route.
abbrev pub hop_after : ℕ → ℕ → Said
hop_after reads hop = accepted (reads ∷ hop ∷ [])

abbrev pub no_route_after : ℕ → Said
no_route_after reads = accepted (reads ∷ [])

-- what a later step says, where the one before it refused nothing
abbrev pub and_then : Said → Said → Said
and_then (accepted vs) next = next
and_then (refused n) next = refused n
and_then (refused_at n k) next = refused_at n k

abbrev pub accepts : Said → Bool
accepts (accepted vs) = true
accepts (refused n) = false
accepts (refused_at n k) = false

-- As one number: the refusal's number in bits 0 to 7; a refusal's index in bits 32 to 63, with bit 8 set; and the values of an accepted call
-- by its own layout. (An index beyond 32 bits would be of an input of more than 32 GiB.)
unfoldable pub packed : (List ℕ → ℕ) → Said → ℕ
packed layout (accepted vs) = layout vs
packed layout (refused n) = n
packed layout (refused_at n k) = n + 256 + k % 2 ^ 32 * 2 ^ 32

-- one of the values; 0 where there are fewer
abbrev pub value : ℕ → List ℕ → ℕ
value k vs = get_or vs k 0
