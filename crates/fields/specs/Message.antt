-- A message: two route fields and one hop. What is wrong with it by itself, whatever it is dealt to.
use Rattle.std.specs.Prelude.{cond, ◌||◌, List, ◌≡◌, ℕ, ◌≤◌}
use Rattle.routes.specs.Input.{hop_fine}
use Rattle.fields.specs.Field.{Net, Field, broken}
use Rattle.fields.specs.Entry.{FieldFrom}

-- bytes are a field, of some prefixes
abbrev pub IsField : List ℕ → Type 0
IsField s = (ns : List Net) × Field s ns

-- "Check all bytes first": both are fields
pub record BothFields (withdrawn reach : List ℕ) : Type 0 where
  pub gone : IsField withdrawn
  pub come : IsField reach

-- "hop not 1 to 32,767"
pub record HopOk (hop : ℕ) : Type 0 where
  pub one : 1 ≤ hop
  pub most : hop ≤ 32767

-- "17, a length over 32 or a field that ends inside an entry; 4 for the hop", which is judged even if nothing is announced
unfoldable pub message_fault : List ℕ → List ℕ → ℕ → ℕ
message_fault withdrawn reach hop = cond (broken withdrawn || broken reach) 17 (cond (hop_fine hop) 0 4)

-- The same case by case (`message-fault-is`, `message-fault-only`).
pub data MessageFault (withdrawn reach : List ℕ) (hop : ℕ) : ℕ → Type 0 where
  no_field : (BothFields withdrawn reach → ⊥) → MessageFault withdrawn reach hop 17
  no_hop : BothFields withdrawn reach → (HopOk hop → ⊥) → MessageFault withdrawn reach hop 4
  none : BothFields withdrawn reach → HopOk hop → MessageFault withdrawn reach hop 0

-- what is known of a message without a fault
pub record Readable (withdrawn reach : List ℕ) (hop : ℕ) : Type 0 where
  pub gone : FieldFrom withdrawn 0
  pub come : FieldFrom reach 0
  pub hop_ok : HopOk hop

-- what its check answers: the number, and that it may be read if the number is 0
pub record MessageChecked (withdrawn reach : List ℕ) (hop r : ℕ) : Type 0 where
  pub number : r ≡ message_fault withdrawn reach hop
  pub on : r ≡ 0 → Readable withdrawn reach hop
