-- How the answer of forwarding a packet is read, what fits it, and its sum by fields.
use Rattle.std.specs.Prelude.{cond, List, [], ◌∷◌, ℕ, ◌+◌, ◌*◌, ◌^◌, ◌≤◌, ◌<◌, eqb, get_or}
use Rattle.routes.specs.Said.{Said}
use Rattle.packing.specs.Unpack.{field, unpacked}
use Rattle.hop_records.specs.Records.{no_record}
use Rattle.hop_records.specs.declared.HopRecord.{HopRecord}

-- reads, hop, port; hop 0 is no route, the reads alone
unfoldable pub forward_values : ℕ → List ℕ
forward_values x = cond (eqb (field 16 16 x) 0) (field 8 8 x ∷ []) (field 8 8 x ∷ field 16 16 x ∷ field 32 16 x ∷ [])

abbrev pub unpack_forward : ℕ → Said
unpack_forward = unpacked forward_values

pub data ForwardFits : List ℕ → Type 0 where
  port : (n h p : ℕ) → n < 2 ^ 8 → 1 ≤ h → h < 2 ^ 16 → p < 2 ^ 16 → ForwardFits (n ∷ h ∷ p ∷ [])
  none : (n : ℕ) → n < 2 ^ 8 → ForwardFits (n ∷ [])

unfoldable pub forward_parts : ℕ → ℕ
forward_parts x = field 8 8 x * 2 ^ 8 + field 16 16 x * 2 ^ 16 + field 32 16 x * 2 ^ 32

-- ports are numbers of 16 bits: so of every list that is lent
pub record Ports16 (rs : List HopRecord) : Type 0 where
  pub ports : (k : ℕ) → (get_or rs k no_record).port < 2 ^ 16
