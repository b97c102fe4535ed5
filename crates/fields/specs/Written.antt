-- The writer: what it says, and what the buffer then holds.
use Rattle.std.specs.Prelude.{cond, List, [], ◌∷◌, ◌++◌, ◌≡◌, ℕ, suc, ◌+◌, ◌≤◌, ◌<◌, ltb, length, drop, Result}
use Rattle.std.proofs.Math.Seq.{paste}
use Rattle.routes.specs.Cases.{BadInput, Passes}
use Rattle.routes.specs.Input.{input_said}
use Rattle.routes.specs.Record.{Records, routes_of, routes_in}
use Rattle.refusals.specs.declared.Refused.{Refused}
use Rattle.routes.specs.Said.{Said, accepted, refused, and_then, accepts, said_by}
use Rattle.fields.specs.Field.{bytes_for, entry_bytes, field_of}

-- what the code's answer says: how many bytes the field has
abbrev pub means_written : Result ℕ Refused → Said
means_written = said_by (λ n. n ∷ [])

-- "The writer gives the record input's, then 18 when its buffer is too short"
unfoldable pub write_said : List ℕ → List ℕ → Said
write_said input out =
    and_then (input_said input)
    (cond (ltb (length out) (length (field_of (routes_in input)))) (refused 18) (accepted (length (field_of (routes_in input)) ∷ [])))

-- what is said, and the buffer at the end
pub record FieldOut : Type 0 where
  pub said : Said
  pub out : List ℕ

abbrev pub field_out : Said → List ℕ → FieldOut
field_out s xs = record { said = s; out = xs }

-- a list over the front of a buffer
abbrev pub over : List ℕ → List ℕ → List ℕ
over f out = f ++ drop (length f) out

-- "puts a list's prefixes out as one reachability field and touches no byte after it"
unfoldable pub field_written : List ℕ → List ℕ → FieldOut
field_written input out =
    field_out (write_said input out) (cond (accepts (write_said input out)) (over (field_of (routes_in input)) out) out)

-- The same case by case, each with all that then holds.
pub data Write (s out : List ℕ) : Said → Type 0 where
  bad_input : (x : Said) → BadInput s x → Write s out x
  short : (n : ℕ) → Passes s n → length out < length (field_of (routes_in s)) → Write s out (refused 18)
  put : (n : ℕ) → Passes s n → length (field_of (routes_in s)) ≤ length out → Write s out (accepted (length (field_of (routes_in s)) ∷ []))

-- The steps of the writer. There is room for the entry of a prefix at a place of a buffer of n bytes:
pub record EntryRoom (n at len : ℕ) : Type 0 where
  pub len_ok : len ≤ 32
  pub room : at + suc (bytes_for len) ≤ n

-- it is there, and the next one goes to r
pub record EntryPut (s : List ℕ) (at a len : ℕ) (u : List ℕ) (r : ℕ) : Type 0 where
  pub put : u ≡ paste s at (entry_bytes a len) (suc (bytes_for len))
  pub next : r ≡ at + suc (bytes_for len)

-- there is room for the field of the first n records of s in a buffer of m bytes
pub record FieldRoom (s : List ℕ) (n m : ℕ) : Type 0 where
  pub records : Records s n
  pub room : length (field_of (routes_of s n)) ≤ m

-- it is at the front of the buffer
pub record FieldPut (s : List ℕ) (n : ℕ) (out u : List ℕ) : Type 0 where
  pub put : u ≡ over (field_of (routes_of s n)) out
