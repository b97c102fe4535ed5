-- Request e: the route fields of BGP messages. The demands of the call that deals a message to a table, with the one exception to demand 1; and of the
-- writer of a field.
use mathlib.Core.Path.{◌≡◌, refl}
use mathlib.Core.Logic.{◌↔◌}
use mathlib.Core.Bool.{true, false}
use mathlib.Core.List.{List, [], ◌∷◌, map}
use Prim.Native.Nat.{ℕ, ◌+◌, ◌%◌, ◌^◌, ◌≤◌, ◌<◌}
use lib.ListN.{length, get_or, take}
use Rattle.routes.specs.Record.{routes_in}
use Rattle.routes.specs.Route.{Good}
use Rattle.routes.specs.Said.{Said, accepted, refused, refused_at, accepts}
use Rattle.routes.specs.declared.Route.{Route}
use Rattle.routes.proofs.Judged.{exactly}
use Rattle.fields.specs.Field.{Net, net_of, Bytes8, Field, broken, entries, field_fault, field_of, Alike}
use Rattle.fields.specs.Message.{HopOk}
use Rattle.fields.specs.Written.{write_said, field_out, field_written, means_written, Write}
use Rattle.std.specs.Prelude.{Result}
use Rattle.refusals.specs.declared.Refused.{Refused}
use Rattle.fields.proofs.FieldBack as back
use Rattle.fields.proofs.Fields as fields
use Rattle.fields.proofs.WriterSays as writer
use Rattle.sail.specs.Lent.{Lent}
use Rattle.sail.specs.Sound.{Sound, standing}
use Rattle.sail.specs.declared.table.Table.{Table}
use Rattle.sail_theory.specs.Calls.{out, made}
use Rattle.sail_theory.specs.CallRuns.{Call, after}
use Rattle.sail_theory.specs.Facts.{Loadable}
use Rattle.update_theory.specs.Cases.{Update}
use Rattle.update_theory.specs.Deal.{all_entries, Dealt}
use Rattle.update_theory.specs.Update.{Kept, fault_of, dealt_out, updated}
use Rattle.update_theory.proofs.Cases as cases
use Rattle.update_theory.proofs.Messages as messages
use Rattle.update_theory.proofs.WrittenBack as written
use Rattle.sail_update.specs.Contract.{MeetsUpdate}
use Rattle.sail_update.specs.declared.answers.Updated.{Updated}
use Rattle.sail_update.proofs.OneAnswer as update

-- What a field is: entries end to end. The check finds exactly those, and the reader reads their prefixes.
pub field-checked : {s : List ℕ} {ns : List Net} → Field s ns → (broken s ≡ false) × (entries s ≡ ns)
field-checked = fields.field_told

pub checked-field : (s : List ℕ) → broken s ≡ false → Field s (entries s)
checked-field = fields.told-field

module _ (t : Table) (l : Lent) (wd re : List ℕ) (hop : ℕ) where
  -- Demand 1. "Carries its number": 1, 2, 5, 17, 4; then 6, 7, 8 with the entries dealt with before
  pub refused-number-update : Bytes8 re → (s : Said) → ((updated t l wd re hop).said ≡ s) ↔ Update t l wd re hop s
  refused-number-update = cases.refused-number-update t l wd re hop

  -- a refusal of the whole leaves all as it was
  pub refused-leaves-all-update : (n : ℕ) → (updated t l wd re hop).said ≡ refused n → updated t l wd re hop ≡ out (refused n) t l
  refused-leaves-all-update = messages.refused-whole t l wd re hop

  -- "The table is then as after exactly those, which is the one exception to demand 1": a stop is 6, 7 or 8, that of one announcement after the
  -- entries before it, and leaves what these leave
  pub update-only-room : Bytes8 re → (n k : ℕ) → (updated t l wd re hop).said ≡ refused_at n k → cases.Stop t l wd re hop n k
  update-only-room = cases.update-only-room t l wd re hop

  -- the count of entries is exact below 4 GiB
  pub update-count-exact : length wd + length re < 2 ^ 32 → (n : ℕ) → n ≤ length (all_entries wd re) → n % 2 ^ 32 ≡ n
  update-count-exact = cases.update-count-exact t l wd re hop

  -- Demand 3. What is left of a sound table is sound
  pub update-sound : Sound t l → Sound (updated t l wd re hop).table (updated t l wd re hop).lent
  update-sound = cases.update-sound t l wd re hop

  -- "no second answer"
  pub one-answer-update : (x y : Updated) (u v : Lent) → MeetsUpdate t l wd re hop x u → MeetsUpdate t l wd re hop y v → (x ≡ y) × (u ≡ v)
  one-answer-update = update.one-answer-update t l wd re hop

-- Demand 3 over runs: a message to a table that a run left is that run with the calls of the entries dealt with, and no others
pub update-as-run : (t : Table) (l : Lent) (hop : ℕ) (cs : List Call) (wd re : List ℕ) → fault_of (after t l cs).table (after t l cs).lent wd re hop ≡ 0
    → (d : Dealt Kept) × messages.AsRun t l hop cs (all_entries wd re) d
    × (updated (after t l cs).table (after t l cs).lent wd re hop ≡ dealt_out d)
update-as-run = messages.update-as-run

-- "trailing bits of no meaning"
pub update-same-fields : (t : Table) (l : Lent) (hop : ℕ) (wd re wd' re' : List ℕ) → Alike wd wd' → Alike re re'
    → updated t l wd re hop ≡ updated t l wd' re' hop
update-same-fields = messages.update-same-fields

-- The writer.
module _ (s buffer : List ℕ) where
  -- "The writer gives the record input's, then 18 when its buffer is too short"
  pub refused-number-write : (x : Said) → (write_said s buffer ≡ x) ↔ Write s buffer x
  refused-number-write = exactly (Write s buffer) _ _ refl (writer.refused-number-write s buffer) (writer.write-only s buffer)

  pub refused-leaves-all-write : accepts (write_said s buffer) ≡ false → (field_written s buffer).out ≡ buffer
  refused-leaves-all-write = writer.refused-leaves-write s buffer

  -- "touches no byte after it"
  pub write-frame : (j : ℕ) → length (field_of (routes_in s)) ≤ j → get_or (field_written s buffer).out j 0 ≡ get_or buffer j 0
  write-frame = writer.write-frame s buffer

  -- "reading it back gives those prefixes"
  pub read-written : accepts (write_said s buffer) ≡ true
      → (field_fault (take (length (field_of (routes_in s))) (field_written s buffer).out) ≡ 0)
      × (entries (take (length (field_of (routes_in s))) (field_written s buffer).out) ≡ map net_of (routes_in s))
  read-written = writer.read-written s buffer

  pub one-answer-write : (x y : Result ℕ Refused) (u v : List ℕ) → field_out (means_written x) u ≡ field_written s buffer
      → field_out (means_written y) v ≡ field_written s buffer → (x ≡ y) × (u ≡ v)
  one-answer-write = writer.one-answer-write s buffer

-- "only as many bytes as the length needs": no field with these prefixes has fewer bytes
pub field-minimal : (rs : List Route) → Good rs → (s : List ℕ) → broken s ≡ false → entries s ≡ map net_of rs → length s ≡ length (field_of rs)
field-minimal = back.field-minimal

-- and dealt to a fresh table with room for them, they stand, with the message's hop and mark 0
pub read-written-update : (t : Table) (l : Lent) (s buffer : List ℕ) → accepts (write_said s buffer) ≡ true → (hop : ℕ) → HopOk hop
    → Loadable t l (map (written.with_hop hop) (routes_in s))
    → ((updated (made t l).table (made t l).lent [] (take (length (field_of (routes_in s))) (field_written s buffer).out) hop).said
    ≡ accepted (length (routes_in s) % 2 ^ 32 ∷ []))
    × (standing (updated (made t l).table (made t l).lent [] (take (length (field_of (routes_in s))) (field_written s buffer).out) hop).table
    (updated (made t l).table (made t l).lent [] (take (length (field_of (routes_in s))) (field_written s buffer).out) hop).lent
    ≡ map (written.with_hop hop) (routes_in s))
read-written-update = written.read-written-update
