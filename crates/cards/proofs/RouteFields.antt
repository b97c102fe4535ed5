-- The calls on route fields: a hop may be narrowed; what they say has room in their answers, a caller that reads these by the header's fields has
-- exactly what the call inside says, and nothing else is in them. Supposed is what the boundary's types give: bytes of 8 bits, and for the index of a
-- record an input shorter than 2^35 bytes.
use mathlib.Core.Path.{◌≡◌, sym, ◌∙◌, ap}
use mathlib.Core.Logic.{◌⊎◌, inl, inr, ◌≢◌}
use mathlib.Core.Bool.{Bool, true, false, cond, ◌||◌}
use mathlib.Core.List.{List, [], ◌∷◌}
use Prim.Native.Nat.{ℕ, ◌/◌, ◌%◌, ◌^◌, ◌≤◌, ◌<◌, min}
use native.Mathlib.Omega.{arith}
use lib.ListN.{length}
use Rattle.bits.proofs.Bools.{decided, untrue, equal?}
use Rattle.routes.specs.Input.{hop_fine}
use Rattle.routes.specs.Cases.{Passes}
use Rattle.routes.specs.Record.{routes_in}
use Rattle.routes.specs.Said.{Said, accepted, refused, refused_at}
use Rattle.routes.proofs.Judged.{good-whole}
use Rattle.routes.proofs.Meaning.{hop-true}
use Rattle.routes.proofs.Rows.{length-routes, records-good}
use Rattle.fields.specs.Field.{Bytes8, broken, field_of}
use Rattle.fields.specs.Message.{message_fault}
use Rattle.fields.specs.Written.{FieldOut, field_out, write_said, field_written, Write}
use Rattle.fields.proofs.Writing.{field-most}
use Rattle.fields.proofs.WriterSays.{refused-number-write}
use Rattle.sail.specs.Cases.{Sizing}
use Rattle.sail.specs.Lent.{Lent}
use Rattle.sail.specs.Sizes.{sizes_fault}
use Rattle.sail.specs.declared.table.Table.{Table}
use Rattle.sail_theory.specs.Calls.{Out, out}
use Rattle.sail_theory.specs.SoundTest.{sound?}
use Rattle.sail_words.specs.Lookups.{words_card}
use Rattle.update_theory.specs.Cases.{ForRoom, six, seven, eight, Update}
use Rattle.update_theory.specs.Deal.{all_entries, update_fault}
use Rattle.update_theory.specs.Update.{fault_of, updated}
use Rattle.update_theory.proofs.Cases.{update-judged, update-sound}
use Rattle.update_theory.proofs.Faults.{fault-sizes, fault-unsound, fault-message}
use Rattle.update_theory.proofs.Messages.{refused-leaves-all-update}
use Rattle.packing.specs.Parts.{parts}
use Rattle.packing.specs.Unpack.{count_of, FitsWord}
use Rattle.packing_fields.specs.Answers.{
  pack_written,
  pack_update,
  unpack_written,
  unpack_update,
  WrittenFits,
  UpdateFits,
  written_parts,
  update_parts,
}
use Rattle.packing_fields.proofs.ReadBack.{written_read, written-parts, update-read, update-parts, done-routes, stopped-routes}
use Rattle.cards.specs.Cards.{card}
use Rattle.cards.specs.Narrow.{AlikeOver}
use Rattle.cards.specs.RouteFields.{written_card_of, update_card_of}
use Rattle.cards.proofs.Fits.{refused-fits}
use Rattle.cards.proofs.Narrow.{narrowed}

-- The writer.
pub written-card : (s : Said) (u : List ℕ) (o : FieldOut) (r : ℕ) → field_out s u ≡ o → r ≡ pack_written s → words_card r u ≡ written_card_of o
unfolding written_card_of
written-card s u o r e q = ap (λ (x : ℕ). words_card x u) q ∙ ap written_card_of e

module _ (s buffer : List ℕ) (short : length s < 2 ^ 35) where
  -- 4,096 prefixes take at most 20,480 bytes
  bytes-few : (n : ℕ) → Passes s n → length (field_of (routes_in s)) ≤ 20480
  bytes-few n g =
      let w = good-whole s n g in
      let e : n ≡ length s / 8 = omega (arith, w.0) in
      let good = records-good s (length s / 8) (rw e at w.1) in
      omega (arith, field-most (routes_in s) good, length-routes s (length s / 8), w.1.few)

  written-fits : FitsWord (2 ^ 32) WrittenFits (write_said s buffer)
  written-fits = go (refused-number-write s buffer)
    where
      go : {x : Said} → Write s buffer x → FitsWord (2 ^ 32) WrittenFits x
      go (Write.bad_input x b) = refused-fits WrittenFits s short b.checked b.not_accepted
      go (Write.short n g h) = FitsWord.number 18 (omega arith) (omega arith)
      go (Write.put n g h) = FitsWord.values (length (field_of (routes_in s)) ∷ []) (WrittenFits.bytes (length (field_of (routes_in s))) (omega (arith, bytes-few n g)))

  pub gh-write-field-read : unpack_written (written_card_of (field_written s buffer)).answer ≡ write_said s buffer
  unfolding written_card_of field_written
  gh-write-field-read = written_read (2 ^ 32) (omega arith) _ written-fits

  pub gh-write-field-named : (written_card_of (field_written s buffer)).answer ≡ parts written_parts (written_card_of (field_written s buffer)).answer
  unfolding written_card_of field_written
  gh-write-field-named = written-parts (2 ^ 32) (omega arith) _ written-fits

-- A message. Every hop over 32,767 is refused with one number, or what is before it is.
module _ (t : Table) (l : Lent) (wd re : List ℕ) where
  abbrev sizes : ℕ
  sizes = sizes_fault t.geometry l

  high : (hop : ℕ) → 32767 < hop → message_fault wd re hop ≡ cond (broken wd || broken re) 17 4
  unfolding message_fault
  high hop h = let no : hop_fine hop ≡ false = untrue (hop_fine hop) (λ e. let b = hop-true hop e in omega (arith, b.1)) in rw no

  high-fault : (hop : ℕ) → 32767 < hop → fault_of t l wd re hop ≢ 0
  high-fault hop h = go (equal? sizes 0) (decided (sound? t l)) (broken wd || broken re) (high hop h)
    where
      go : (sizes ≡ 0) ⊎ (sizes ≢ 0) → (sound? t l ≡ true) ⊎ (sound? t l ≡ false) → (b : Bool) → message_fault wd re hop ≡ cond b 17 4
          → fault_of t l wd re hop ≢ 0
      go (inr n) s b e z = n (sym (fault-sizes sizes (sound? t l) wd re hop n) ∙ z)
      go (inl q) (inr s) b e z = omega (arith, fault-unsound sizes (sound? t l) wd re hop q s, z)
      go (inl q) (inl s) true e z = omega (arith, fault-message sizes (sound? t l) wd re hop q s, e, z)
      go (inl q) (inl s) false e z = omega (arith, fault-message sizes (sound? t l) wd re hop q s, e, z)

  fault-alike : (x y : ℕ) → 32767 < x → 32767 < y → fault_of t l wd re x ≡ fault_of t l wd re y
  unfolding update_fault
  fault-alike x y h k = rw (high x h, high y k)

  pub updated-high : AlikeOver 32767 (λ (hop : ℕ). updated t l wd re hop)
  updated-high x y h k =
      refused-leaves-all-update t l wd re x (high-fault x h) ∙ ap (λ (n : ℕ). out (refused n) t l) (fault-alike x y h k)
      ∙ sym (refused-leaves-all-update t l wd re y (high-fault y k))

  pub update-card : (hop m : ℕ) → m ≡ min hop 65535 → (s : Said) (t' : Table) (l' : Lent) (r : ℕ) → out s t' l' ≡ updated t l wd re m
      → r ≡ pack_update t'.count s → card r l' ≡ update_card_of (updated t l wd re hop)
  unfolding update_card_of
  update-card hop m q s t' l' r is e =
      ap (λ (x : ℕ). card x l') e
      ∙ ap update_card_of (is ∙ narrowed (λ (x : ℕ). updated t l wd re x) 32767 65535 (omega arith) updated-high hop m q)

  module _ (hop : ℕ) (bytes : Bytes8 re) where
    abbrev o : Out
    o = updated t l wd re hop

    room-low : {n : ℕ} → ForRoom n → (1 ≤ n) × (n < 2 ^ 8)
    room-low six = (omega arith, omega arith)
    room-low seven = (omega arith, omega arith)
    room-low eight = (omega arith, omega arith)

    sizing-low : {n : ℕ} → Sizing t l n → (1 ≤ n) × (n < 2 ^ 8)
    sizing-low (Sizing.limits h) = (omega arith, omega arith)
    sizing-low (Sizing.size v h) = (omega arith, omega arith)

    update-fits : UpdateFits o.table.count o.said
    update-fits = go (update-judged t l wd re hop bytes)
      where
        go : {x : Said} → Update t l wd re hop x → UpdateFits o.table.count x
        go (Update.sizing n h) = let k = sizing-low h in UpdateFits.off n k.0 k.1
        go (Update.unsound z h) = UpdateFits.off 5 (omega arith) (omega arith)
        go (Update.no_field s h) = UpdateFits.off 17 (omega arith) (omega arith)
        go (Update.no_hop s f h) = UpdateFits.off 4 (omega arith) (omega arith)
        go (Update.stopped k number ok s) =
            let few = (update-sound t l wd re hop ok.sound).listed.records.few in
            let n = room-low s.room in
            UpdateFits.stopped number (k % 2 ^ 32) n.0 n.1 (omega arith) (omega arith)
        go (Update.done ok p) =
            let few = (update-sound t l wd re hop ok.sound).listed.records.few in
            UpdateFits.done (length (all_entries wd re) % 2 ^ 32) (omega arith) (omega arith)

    pub gh-update-read : unpack_update (update_card_of o).answer ≡ o.said
    unfolding update_card_of
    gh-update-read = update-read o.table.count o.said update-fits

    pub gh-update-named : (update_card_of o).answer ≡ update_parts (update_card_of o).answer
    unfolding update_card_of
    gh-update-named = update-parts o.table.count o.said update-fits

    -- the routes after the call, if all entries were dealt with, and if the work stopped
    pub gh-update-count : (k : ℕ) → o.said ≡ accepted (k ∷ []) → count_of (update_card_of o).answer ≡ o.table.count
    unfolding update_card_of
    gh-update-count k e =
        ap (λ (x : Said). count_of (pack_update o.table.count x)) e ∙ done-routes o.table.count k (rw e at update-fits)

    pub gh-update-stop-count : (n k : ℕ) → o.said ≡ refused_at n k → count_of (update_card_of o).answer ≡ o.table.count
    unfolding update_card_of
    gh-update-stop-count n k e =
        ap (λ (x : Said). count_of (pack_update o.table.count x)) e ∙ stopped-routes o.table.count n k (rw e at update-fits)
