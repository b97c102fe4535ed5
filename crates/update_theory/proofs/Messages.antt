-- What a message means: it is a run of withdrawals and announcements, exactly those of the entries dealt with; a refusal of the whole leaves all as
-- it was; and its statement leaves one answer.
use mathlib.Core.Path.{◌≡◌, refl, sym, ap, ◌∙◌}
use mathlib.Core.Logic.{◌⊎◌, inl, inr, ◌≢◌}
use mathlib.Core.Bool.{Bool, true, false, cond, ◌||◌}
use mathlib.Core.List.{List, [], ◌∷◌, ◌++◌, map}
use Prim.Native.Nat.{ℕ, zero, suc, ◌+◌, ◌%◌, ◌^◌, ◌≤◌}
use native.Mathlib.Omega.{arith}
use lib.Dec.{eqb}
use lib.ListN.{length, take}
use borrow.Author.Tests.{eq-eqb, ne_eqb}
use Rattle.bits.proofs.Bools.{equal?}
use Rattle.routes.specs.Input.{hop_fine}
use Rattle.routes.specs.Said.{Said, accepted, refused, refused_at, accepts}
use Rattle.fields.specs.Field.{Net, broken, entries, Alike}
use Rattle.fields.specs.Message.{message_fault}
use Rattle.fields.proofs.Fields.{entries-cut}
use Rattle.sail.specs.Lent.{Lent}
use Rattle.sail.specs.Sizes.{sizes_fault}
use Rattle.sail.specs.declared.table.Table.{Table}
use Rattle.sail_theory.specs.Calls.{Out, out, route, announced}
use Rattle.sail_theory.specs.SoundTest.{sound?}
use Rattle.sail_theory.specs.CallRuns.{Call, done, after}
use Rattle.sail_theory.proofs.calls.Cleared.{announce-refused}
use Rattle.update_theory.specs.Deal.{Entry, goes, comes, all_entries, Dealt, deal_by, after_first, update_fault, stop_of, dealt_said}
use Rattle.update_theory.specs.Update.{Kept, kept, kept_of, turn, fault_of, dealt_out, updated, call_of, run_on, kept_after}
use Rattle.update_theory.proofs.Deals.{deal-ends}

-- a refusal of the whole message
pub refused-leaves-all-update : (t : Table) (l : Lent) (wd re : List ℕ) (hop : ℕ) → fault_of t l wd re hop ≢ 0
    → updated t l wd re hop ≡ out (refused (fault_of t l wd re hop)) t l
unfolding updated
refused-leaves-all-update t l wd re hop n = rw (ne_eqb _ 0 n)

-- said: a refusal without a count is one of the whole, and leaves the state and all that is lent
pub refused-whole : (t : Table) (l : Lent) (wd re : List ℕ) (hop n : ℕ) → (updated t l wd re hop).said ≡ refused n → updated t l wd re hop ≡ out (refused n) t l
unfolding updated
refused-whole t l wd re hop n e = go (equal? (fault_of t l wd re hop) 0) e
  where
    d : Dealt Kept
    d = deal_by (turn hop) 0 (kept t l) (all_entries wd re)

    counted : (b : Bool) (k j m : ℕ) → cond b (accepted (k ∷ [])) (refused_at j m) ≡ refused n → ⊥
    counted true k j m q = let z : ◌≡◌ {A = ℕ} 0 1 = cc in omega arith
    counted false k j m q = let z : ◌≡◌ {A = ℕ} 0 1 = cc in omega arith

    go : (fault_of t l wd re hop ≡ 0) ⊎ (fault_of t l wd re hop ≢ 0) → (updated t l wd re hop).said ≡ refused n
        → updated t l wd re hop ≡ out (refused n) t l
    go (inl z) q =
        let on : (updated t l wd re hop).said ≡ dealt_said d = rw (eq-eqb (fault_of t l wd re hop) 0 z) in
        absurd (counted (eqb d.stop 0) (d.dealt % 2 ^ 32) d.stop (d.dealt % 2 ^ 32) (sym on ∙ q))
    go (inr z) q =
        let off = refused-leaves-all-update t l wd re hop z in
        off ∙ ap (λ (x : Said). out x t l) (sym (ap (λ (o : Out). o.said) off) ∙ q)

-- Bits of no meaning do not matter: what a message says and leaves goes by whether its fields are fields, and by their prefixes.
module _ (t : Table) (l : Lent) (hop : ℕ) where
  abbrev by : Bool → Bool → List Net → List Net → Out
  by b c ns ms =
      cond (eqb (fault b c) 0)
      (dealt_out (deal_by (turn hop) 0 (kept t l) (map goes ns ++ map comes ms)))
      (out (refused (fault b c)) t l)
    where
      fault : Bool → Bool → ℕ
      fault b c = cond (eqb (sizes_fault t.geometry l) 0) (cond (sound? t l) (cond (b || c) 17 (cond (hop_fine hop) 0 4)) 5) (sizes_fault t.geometry l)

  updated-by : (wd re : List ℕ) → updated t l wd re hop ≡ by (broken wd) (broken re) (entries wd) (entries re)
  unfolding updated update_fault message_fault
  updated-by wd re = refl

  pub update-same-fields : (wd re wd' re' : List ℕ) → Alike wd wd' → Alike re re' → updated t l wd re hop ≡ updated t l wd' re' hop
  update-same-fields wd re wd' re' p q =
      let a = entries-cut p in
      let b = entries-cut q in
      updated-by wd re
      ∙ ap (λ (x : Bool). by x (broken re) (entries wd) (entries re)) a.0
      ∙ ap (λ (x : Bool). by (broken wd') x (entries wd) (entries re)) b.0
      ∙ ap (λ (x : List Net). by (broken wd') (broken re') x (entries re)) a.1
      ∙ ap (λ (x : List Net). by (broken wd') (broken re') (entries wd') x) b.1
      ∙ sym (updated-by wd' re')

-- what stops leaves all as it was
stop-accepts : (s : Said) → stop_of s ≢ 0 → accepts s ≡ false
stop-accepts (accepted vs) n = absurd (n refl)
stop-accepts (refused k) n = refl
stop-accepts (refused_at k i) n = refl

pub stop-leaves : (hop : ℕ) (s : Kept) (e : Entry) → (turn hop s e).stop ≢ 0 → (turn hop s e).state ≡ s
unfolding turn
stop-leaves hop s (goes n) z = absurd (z refl)
stop-leaves hop s (comes n) z =
    ap kept_of (announce-refused s.table s.lent (route n.addr n.len hop 0) (stop-accepts (announced s.table s.lent (route n.addr n.len hop 0)).said z))

-- one entry is one call of a run
module _ (t : Table) (l : Lent) (hop : ℕ) where
  turn_is : (cs : List Call) (e : Entry) → (turn hop (kept_after t l cs) e).state ≡ kept_after t l (call_of hop e ∷ cs)
  unfolding turn after done
  turn_is cs (goes n) = refl
  turn_is cs (comes n) = refl

  first-is : (n : ℕ) (cs : List Call) (es : List Entry) → after_first (turn hop) n (kept_after t l cs) es ≡ kept_after t l (run_on hop (take n es) cs)
  unfolding after_first run_on
  first-is zero cs es = refl
  first-is (suc n) cs [] = refl
  first-is (suc n) cs (e ∷ es) = ap (λ (s : Kept). after_first (turn hop) n s es) (turn_is cs e) ∙ first-is n (call_of hop e ∷ cs) es

  -- "The table is then as after exactly those": so many entries are dealt with, and the state is that of the run with their calls
  pub record AsRun (cs : List Call) (es : List Entry) (d : Dealt Kept) : Type 0 where
    pub few : d.dealt ≤ length es
    pub whole : d.stop ≡ 0 → d.dealt ≡ length es
    pub state : d.state ≡ kept_after t l (run_on hop (take d.dealt es) cs)

  pub deals-as-run : (cs : List Call) (es : List Entry) → AsRun cs es (deal_by (turn hop) 0 (kept_after t l cs) es)
  deals-as-run cs es = go (equal? d.stop 0)
    where
      d : Dealt Kept
      d = deal_by (turn hop) 0 (kept_after t l cs) es

      go : (d.stop ≡ 0) ⊎ (d.stop ≢ 0) → AsRun cs es d
      go (inl z) =
          let w = deal-ends (turn hop) 0 (kept_after t l cs) es in
          let n : d.dealt ≡ w.done = omega (arith, w.count) in
          record {
            few = omega (arith, w.few);
            whole = λ _. n ∙ (w.whole z).0;
            state = (w.whole z).1 ∙ first-is w.done cs es ∙ ap (λ (x : ℕ). kept_after t l (run_on hop (take x es) cs)) (sym n);
          }
      go (inr z) =
          let w = deal-ends (turn hop) 0 (kept_after t l cs) es in
          let n : d.dealt ≡ w.done = omega (arith, w.count) in
          let c = w.cut z in
          record {
            few = omega (arith, w.few);
            whole = λ q. absurd (z q);
            state = c.3 ∙ stop-leaves hop _ c.0 (λ q. z (sym c.2 ∙ q)) ∙ first-is w.done cs es
                ∙ ap (λ (x : ℕ). kept_after t l (run_on hop (take x es) cs)) (sym n);
          }

  -- a message to a table that a run left
  pub update-as-run : (cs : List Call) (wd re : List ℕ) → fault_of (after t l cs).table (after t l cs).lent wd re hop ≡ 0
      → (d : Dealt Kept) × AsRun cs (all_entries wd re) d × (updated (after t l cs).table (after t l cs).lent wd re hop ≡ dealt_out d)
  unfolding updated
  update-as-run cs wd re z =
      (deal_by (turn hop) 0 (kept_after t l cs) (all_entries wd re), deals-as-run cs (all_entries wd re), rw (eq-eqb _ 0 z))
