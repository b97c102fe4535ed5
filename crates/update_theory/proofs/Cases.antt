-- What a message says is one case of `Update`, and no other; where a stop leaves the table; and that its count is exact below 4 GiB.
use mathlib.Core.Path.{◌≡◌, refl, sym, ap, ◌∙◌}
use mathlib.Core.Logic.{◌⊎◌, inl, inr, ◌≢◌, ◌↔◌}
use mathlib.Core.Bool.{true, false, true≢false}
use mathlib.Core.List.{List, [], ◌∷◌}
use Prim.Native.Nat.{ℕ, ◌+◌, ◌%◌, ◌^◌, ◌≤◌, ◌<◌}
use native.Mathlib.Nat.{mod-eq_of_lt}
use native.Mathlib.Omega.{arith}
use lib.ListN.{length, drop, length-drop}
use borrow.Author.Tests.{eq-eqb, ne_eqb}
use Rattle.bits.proofs.Bools.{decided, untrue, equal?}
use Rattle.routes.specs.Said.{Said, refused, refused_at}
use Rattle.routes.proofs.Judged.{exactly}
use Rattle.fields.specs.Field.{Bytes8}
use Rattle.fields.specs.Message.{message_fault, MessageFault}
use Rattle.fields.proofs.Messages.{message-fault-is, message-fault-only}
use Rattle.sail.specs.Cases.{Sizing}
use Rattle.sail.specs.Lent.{Lent}
use Rattle.sail.specs.Sizes.{sizes_fault}
use Rattle.sail.specs.Sound.{Sound}
use Rattle.sail.specs.declared.table.Table.{Table}
use Rattle.sail.proofs.Fitting.{Fault, fault-is, none_is}
use Rattle.sail_theory.specs.Calls.{Out}
use Rattle.sail_theory.specs.SoundTest.{sound?}
use Rattle.sail_theory.proofs.places.SoundTest.{sound-tells}
use Rattle.update_theory.specs.Cases.{ForRoom, six, seven, eight, Dealable, at_entry, Passed, StopsAt, Update}
use Rattle.update_theory.specs.Deal.{Entry, goes, comes, all_entries, Dealt, deal_by, NthEntry, Ends, dealt_said}
use Rattle.update_theory.specs.Update.{Kept, kept, kept_of, turn, fault_of, dealt_out, updated}
use Rattle.update_theory.proofs.Deals.{deal-ends, ends-once, first-keeps, deal-keeps, all-few}
use Rattle.update_theory.proofs.Faults.{fault-sizes, fault-unsound, fault-message}
use Rattle.update_theory.proofs.Messages.{refused-leaves-all-update}
use Rattle.update_theory.proofs.Turns.{turn-sound, goes-on-turn, refuses-stop, stop-refuses, comes-fine}

room-not-zero : {n : ℕ} → ForRoom n → n ≢ 0
room-not-zero six e = omega arith
room-not-zero seven e = omega arith
room-not-zero eight e = omega arith

module _ (t : Table) (l : Lent) (wd re : List ℕ) (hop : ℕ) where
  abbrev es : List Entry
  es = all_entries wd re

  abbrev d : Dealt Kept
  d = deal_by (turn hop) 0 (kept t l) es

  abbrev sizes : ℕ
  sizes = sizes_fault t.geometry l

  pub updated-on : fault_of t l wd re hop ≡ 0 → updated t l wd re hop ≡ dealt_out d
  unfolding updated
  updated-on z = rw (eq-eqb _ 0 z)

  off-said : (n : ℕ) → n ≢ 0 → fault_of t l wd re hop ≡ n → (updated t l wd re hop).said ≡ refused n
  off-said n h e = ap (λ (o : Out). o.said) (refused-leaves-all-update t l wd re hop (λ z. h (sym e ∙ z))) ∙ ap refused e

  -- the number of each refusal of the whole, and none
  fault-sound : Sound t l → fault_of t l wd re hop ≡ message_fault wd re hop
  fault-sound s = fault-message sizes (sound? t l) wd re hop (none_is t.geometry l s.sized) ((sound-tells t l).1 s)

  pub dealable-on : Dealable t l wd re hop → updated t l wd re hop ≡ dealt_out d
  dealable-on k = updated-on (fault-sound k.sound ∙ message-fault-only wd re hop 0 (MessageFault.none k.fields k.hop_ok))

  -- a stop, said: entry k is the first that stops
  stop-ends : (k number : ℕ) (s : StopsAt t l wd re hop k number)
      → Ends (turn hop) 0 (kept t l) es (record { stop = number; dealt = k; state = (turn hop (at_entry t l wd re hop k) (comes s.net)).state })
  stop-ends k number s =
      let at = at_entry t l wd re hop k in
      let here : k < length es = omega (arith, ap length s.here, length-drop k es) in
      record {
        done = k;
        few = omega arith;
        count = omega arith;
        passed = s.passed;
        whole = λ z. absurd (room-not-zero s.room z);
        cut = λ _. (comes s.net, s.here, refuses-stop hop at.table at.lent s.net number s.refuses s.room, refl);
      }

  stop-dealt : (k number : ℕ) (s : StopsAt t l wd re hop k number)
      → d ≡ record { stop = number; dealt = k; state = (turn hop (at_entry t l wd re hop k) (comes s.net)).state }
  stop-dealt k number s = ends-once (turn hop) 0 (kept t l) es _ _ (deal-ends (turn hop) 0 (kept t l) es) (stop-ends k number s)

  all-ends : Passed t l wd re hop (length es)
      → Ends (turn hop) 0 (kept t l) es (record { stop = 0; dealt = length es; state = at_entry t l wd re hop (length es) })
  all-ends p = record {
    done = length es;
    few = omega arith;
    count = omega arith;
    passed = p;
    whole = λ _. (refl, refl);
    cut = λ z. absurd (z refl);
  }

  all-dealt : Passed t l wd re hop (length es) → d ≡ record { stop = 0; dealt = length es; state = at_entry t l wd re hop (length es) }
  all-dealt p = ends-once (turn hop) 0 (kept t l) es _ _ (deal-ends (turn hop) 0 (kept t l) es) (all-ends p)

  pub update-only : (x : Said) → Update t l wd re hop x → (updated t l wd re hop).said ≡ x
  update-only _ (Update.sizing n h) = let e = sizing-is h in off-said n (λ z. not-zero h z) (fault-sizes sizes (sound? t l) wd re hop (λ z. not-zero h (sym e ∙ z)) ∙ e)
    where
      not-zero : {n : ℕ} → Sizing t l n → n ≢ 0
      not-zero (Sizing.limits h) z = omega arith
      not-zero (Sizing.size v h) z = omega arith

      sizing-is : {n : ℕ} → Sizing t l n → sizes ≡ n
      sizing-is = go (fault-is t.geometry l)
        where
          go : {m n : ℕ} → Fault t.geometry l m → Sizing t l n → m ≡ n
          go (Fault.none s) (Sizing.limits h) = absurd (h s.valid)
          go (Fault.none s) (Sizing.size v h) = absurd (h s)
          go (Fault.limits k) (Sizing.limits h) = refl
          go (Fault.limits k) (Sizing.size v h) = absurd (k v)
          go (Fault.size v k) (Sizing.limits h) = absurd (h v)
          go (Fault.size v k) (Sizing.size w h) = refl
  update-only _ (Update.unsound z h) =
      off-said 5 (λ q. omega arith)
      (fault-unsound sizes (sound? t l) wd re hop (none_is t.geometry l z) (untrue (sound? t l) (λ e. h ((sound-tells t l).0 e))))
  update-only _ (Update.no_field s h) =
      off-said 17 (λ q. omega arith) (fault-sound s ∙ message-fault-only wd re hop 17 (MessageFault.no_field h))
  update-only _ (Update.no_hop s f h) =
      off-said 4 (λ q. omega arith) (fault-sound s ∙ message-fault-only wd re hop 4 (MessageFault.no_hop f h))
  update-only _ (Update.stopped k number ok s) =
      ap (λ (o : Out). o.said) (dealable-on ok) ∙ ap dealt_said (stop-dealt k number s) ∙ rw (ne_eqb number 0 (room-not-zero s.room))
  update-only _ (Update.done ok p) = ap (λ (o : Out). o.said) (dealable-on ok) ∙ ap dealt_said (all-dealt p)

  -- the table stays sound from entry to entry
  at-sound : Sound t l → (k : ℕ) → Sound (at_entry t l wd re hop k).table (at_entry t l wd re hop k).lent
  at-sound s k = first-keeps (turn hop) (λ (x : Kept). Sound x.table x.lent) (turn-sound hop) k (kept t l) es s

  -- how all entries end, case by case
  module _ (b : Bytes8 re) where
    stops_at : Dealable t l wd re hop → (w : Ends (turn hop) 0 (kept t l) es d) → d.stop ≢ 0 → StopsAt t l wd re hop w.done d.stop
    stops_at ok w z = go (w.cut z).0 (w.cut z).1 (w.cut z).2
      where
        at : Kept
        at = at_entry t l wd re hop w.done

        go : (e : Entry) → NthEntry es w.done e → (turn hop at e).stop ≡ d.stop → StopsAt t l wd re hop w.done d.stop
        go (goes n) h q = absurd (z (sym q ∙ goes-on-turn hop at n))
        go (comes n) h q =
            let fine = comes-fine wd re hop b ok.fields ok.hop_ok w.done n h in
            let r = stop-refuses hop at.table at.lent n (at-sound ok.sound w.done) fine (λ e. z (sym q ∙ e)) in
            record { net = n; here = h; passed = w.passed; refuses = rw q at r.0; room = rw q at r.1 }

    dealt-case : Dealable t l wd re hop → Update t l wd re hop (dealt_said d)
    dealt-case ok = go (deal-ends (turn hop) 0 (kept t l) es) (equal? d.stop 0)
      where
        go : Ends (turn hop) 0 (kept t l) es d → (d.stop ≡ 0) ⊎ (d.stop ≢ 0) → Update t l wd re hop (dealt_said d)
        go w (inl z) =
            let e : d.dealt ≡ length es = omega (arith, w.count, (w.whole z).0) in
            rw (eq-eqb d.stop 0 z, e) (Update.done ok (rw (w.whole z).0 at w.passed))
        go w (inr z) =
            let e : d.dealt ≡ w.done = omega (arith, w.count) in
            rw (ne_eqb d.stop 0 z, e) (Update.stopped w.done d.stop ok (stops_at ok w z))

    sound-case : Sound t l → Update t l wd re hop (updated t l wd re hop).said
    sound-case s = go (message-fault-is wd re hop) refl
      where
        go : {n : ℕ} → MessageFault wd re hop n → message_fault wd re hop ≡ n → Update t l wd re hop (updated t l wd re hop).said
        go (MessageFault.no_field h) e = rw (update-only _ (Update.no_field s h)) (Update.no_field s h)
        go (MessageFault.no_hop f h) e = rw (update-only _ (Update.no_hop s f h)) (Update.no_hop s f h)
        go (MessageFault.none f h) e =
            let ok : Dealable t l wd re hop = record { sound = s; fields = f; hop_ok = h } in
            rw (ap (λ (o : Out). o.said) (dealable-on ok)) (dealt-case ok)

    pub update-judged : Update t l wd re hop (updated t l wd re hop).said
    update-judged = go (fault-is t.geometry l) (decided (sound? t l))
      where
        told : {x : Said} → Update t l wd re hop x → Update t l wd re hop (updated t l wd re hop).said
        told c = rw (update-only _ c) c

        go : {n : ℕ} → Fault t.geometry l n → (sound? t l ≡ true) ⊎ (sound? t l ≡ false) → Update t l wd re hop (updated t l wd re hop).said
        go (Fault.limits h) x = told (Update.sizing 1 (Sizing.limits h))
        go (Fault.size v h) x = told (Update.sizing 2 (Sizing.size v h))
        go (Fault.none z) (inl e) = sound-case ((sound-tells t l).0 e)
        go (Fault.none z) (inr e) = told (Update.unsound z (λ s. true≢false (sym ((sound-tells t l).1 s) ∙ e)))

    -- it says s exactly where the case next to s holds
    pub refused-number-update : (s : Said) → ((updated t l wd re hop).said ≡ s) ↔ Update t l wd re hop s
    refused-number-update = exactly (Update t l wd re hop) _ _ refl update-judged update-only

  -- What a stop means: the number is 6, 7 or 8, and is that of one announcement after exactly the entries before it, and the table is as after these.
  pub record Stop (number k : ℕ) : Type 0 where
    pub at : ℕ
    pub few : at ≤ length wd + length re
    pub counted : k ≡ at % 2 ^ 32
    pub stops : StopsAt t l wd re hop at number
    pub left : kept_of (updated t l wd re hop) ≡ (turn hop (at_entry t l wd re hop at) (comes stops.net)).state

  pub update-only-room : Bytes8 re → (number k : ℕ) → (updated t l wd re hop).said ≡ refused_at number k → Stop number k
  update-only-room b number k e = go (update-judged b) e
    where
      go : {x : Said} → Update t l wd re hop x → x ≡ refused_at number k → Stop number k
      go (Update.sizing n h) q = absurd (unlike q)
        where
          unlike : {n m k : ℕ} → refused n ≡ refused_at m k → ⊥
          unlike q = let z : ◌≡◌ {A = ℕ} 0 1 = cc in omega arith
      go (Update.unsound z h) q = absurd (let z : ◌≡◌ {A = ℕ} 0 1 = cc in omega arith)
      go (Update.no_field s h) q = absurd (let z : ◌≡◌ {A = ℕ} 0 1 = cc in omega arith)
      go (Update.no_hop s f h) q = absurd (let z : ◌≡◌ {A = ℕ} 0 1 = cc in omega arith)
      go (Update.done ok p) q = absurd (let z : ◌≡◌ {A = ℕ} 0 1 = cc in omega arith)
      go (Update.stopped i m ok s) q =
          let same : m ≡ number = cc in
          let count : i % 2 ^ 32 ≡ k = cc in
          let here : i < length es = omega (arith, ap length s.here, length-drop i es) in
          let left : kept_of (updated t l wd re hop) ≡ (turn hop (at_entry t l wd re hop i) (comes s.net)).state
          = ap kept_of (dealable-on ok) ∙ ap (λ (x : Dealt Kept). x.state) (stop-dealt i m s) in
          let stop : Stop m k = record { at = i; few = omega (arith, all-few wd re); counted = sym count; stops = s; left = left } in
          rw same at stop

  -- "the answer says how many entries were dealt with before it": so it does, exactly, for fields of less than 4 GiB together
  pub update-count-exact : length wd + length re < 2 ^ 32 → (n : ℕ) → n ≤ length es → n % 2 ^ 32 ≡ n
  update-count-exact h n few = mod-eq_of_lt (omega (arith, all-few wd re))

  -- what is left of a sound table is sound, whatever is said
  pub update-sound : Sound t l → Sound (updated t l wd re hop).table (updated t l wd re hop).lent
  update-sound s = go (equal? (fault_of t l wd re hop) 0)
    where
      go : (fault_of t l wd re hop ≡ 0) ⊎ (fault_of t l wd re hop ≢ 0) → Sound (updated t l wd re hop).table (updated t l wd re hop).lent
      go (inl z) =
          rw (updated-on z) (deal-keeps (turn hop) (λ (x : Kept). Sound x.table x.lent) (turn-sound hop) 0 (kept t l) es s)
      go (inr z) = rw (refused-leaves-all-update t l wd re hop z) s
