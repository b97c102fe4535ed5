-- What a run is: each record inside the prefix and no other, and a good list of its own. And what each way through `run_check` and `run` says.
use mathlib.Core.Path.{◌≡◌, refl, sym, ap, ◌∙◌, subst}
use mathlib.Core.Logic.{◌↔◌}
use mathlib.Core.List.{List, [], ◌∷◌}
use mathlib.Core.Bool.{Bool, true, false, not, cond, true≢false}
use Prim.Native.Nat.{ℕ, ◌+◌, ◌-◌, ◌*◌, ◌/◌, ◌%◌, ◌^◌, ◌≤◌, ◌<◌}
use native.Mathlib.Omega.{arith}
use lib.Pow.{pow_pos, pow_mono}
use lib.ListN.{length, get_or, take, drop}
use borrow.Author.Tests.{not-true, not-false}
use denote.Ref.{Bor}
use Rattle.bits.specs.Slot.{slot, cut}
use Rattle.bits.proofs.Slots.{shl_one, cut-le, cut-gt, cut-more, cut_in, cut-slot, slot_of}
use Rattle.bits.proofs.Bools.{untrue}
use Rattle.routes.specs.Route.{key, key_of, Prefix}
use Rattle.routes.specs.Record.{record_at, part, Records}
use Rattle.std.specs.Prelude.{None, Result, Ok, Err}
use Rattle.refusals.specs.declared.Refusal.TheVariants as refusal
use Rattle.refusals.specs.declared.Refused.{Refused}
use Rattle.routes.specs.Answers.{means_input}
use Rattle.routes.specs.Said.{Said, accepted, refused, refused_at, and_then, accepts, said_by}
use Rattle.routes.proofs.Inputs.{input-ok, input-err}
use Rattle.routes.proofs.Saids.{said-injective, and-then-told, told-off}
use Rattle.routes.specs.Input.{proper_prefix, input_said}
use Rattle.routes.specs.Cases.{Checked, ragged, stopped, many, good}
use Rattle.routes.proofs.Parts.{part-record, part-good}
use Rattle.routes.proofs.Meaning.{prefix-true, true-prefix, input-good, input-checked}
use Rattle.lists.specs.Place.{place_of}
use Rattle.runs.specs.Run.{past_key, run_start, run_end, run_count, run_said, run_values, means_run_check, run_of, run_at, IsRun}
use Rattle.runs.specs.declared.run.Span.{Span}
use Rattle.lists.proofs.Places.{place-le, place-before, place_after, place_mono}

-- which keys lie inside a prefix
module _ (p n : ℕ) (outer : Prefix p n) (a l : ℕ) (inner : Prefix a l) where
  inside : key_of p n ≤ key_of a l → key_of a l < past_key p n → (n ≤ l) × (slot n a ≡ slot n p)
  inside low high =
      let u = outer.len_ok in
      let v = inner.len_ok in
      let c : cut n a ≡ p = cut_in n p a outer.clear (omega arith) (omega arith) in
      let no : ¬ (l < n) = λ (h : l < n). omega (arith, cut-more l n a (omega arith) u inner.clear) in
      (omega arith, slot_of n a p c)

  contained : n ≤ l → slot n a ≡ slot n p → (key_of p n ≤ key_of a l) × (key_of a l < past_key p n)
  contained h e =
      let v = inner.len_ok in
      let c = cut-slot n a p outer.clear e in
      (omega (arith, cut-le n a), omega (arith, cut-gt n a))

-- what an accepted run tells
pub record Ran (s : List ℕ) (a l start count : ℕ) : Type 0 where
  pub records : Records s (length s / 8)
  pub prefix : Prefix a l
  pub starts : start ≡ run_start s a l
  pub counts : count ≡ run_count s a l

data Passed (x y : Said) (vs : List ℕ) : Type 0 where
  passed : (us : List ℕ) → x ≡ accepted us → y ≡ accepted vs → Passed x y vs

and-passed : (x y : Said) (vs : List ℕ) → and_then x y ≡ accepted vs → Passed x y vs
and-passed (accepted us) y vs e = passed us refl e
and-passed (refused n) y vs e = absurd (let z : ◌≡◌ {A = ℕ} 0 1 = cc in omega arith)
and-passed (refused_at n k) y vs e = absurd (let z : ◌≡◌ {A = ℕ} 0 1 = cc in omega arith)

and-refused : (x y : Said) → accepts x ≡ false → and_then x y ≡ x
and-refused (accepted vs) y e = absurd (true≢false e)
and-refused (refused n) y e = refl
and-refused (refused_at n k) y e = refl

cond-passed : (b : Bool) (us vs : List ℕ) (n : ℕ) → cond b (accepted us) (refused n) ≡ accepted vs → (b ≡ true) × (us ≡ vs)
cond-passed true us vs n e = (refl, (cc))
cond-passed false us vs n e = absurd (let z : ◌≡◌ {A = ℕ} 0 1 = cc in omega arith)

good-records : (s vs : List ℕ) → input_said s ≡ accepted vs → Records s (length s / 8)
good-records s vs e = go (subst (Checked s) e (input-checked s)) refl
  where
    go : {x : Said} → Checked s x → x ≡ accepted vs → Records s (length s / 8)
    go (ragged w) q = absurd (let z : ◌≡◌ {A = ℕ} 0 1 = cc in omega arith)
    go (stopped k f w l b x p) q = absurd (let z : ◌≡◌ {A = ℕ} 0 1 = cc in omega arith)
    go (many w b m) q = absurd (let z : ◌≡◌ {A = ℕ} 0 1 = cc in omega arith)
    go (good m w r) q = let z : length s / 8 ≡ m = omega arith in rw z r

module _ (s : List ℕ) (a l : ℕ) where
  -- a prefix's own key is not after its end
  pub run-order : (n : ℕ) → l ≤ 32 → place_of s n (key_of a l) ≤ place_of s n (past_key a l)
  run-order n h = place_mono s n (key_of a l) (past_key a l) (omega (arith, pow_pos (32 - l)))

  pub run-accepted : (start count : ℕ) → run_said s a l ≡ accepted (start ∷ count ∷ []) → Ran s a l start count
  unfolding run_said
  run-accepted start count e = go (and-passed (input_said s) (cond (proper_prefix a l) (accepted (run_start s a l ∷ run_count s a l ∷ [])) (refused 3))
      (start ∷ count ∷ []) e)
    where
      go : Passed (input_said s) (cond (proper_prefix a l) (accepted (run_start s a l ∷ run_count s a l ∷ [])) (refused 3)) (start ∷ count ∷ [])
          → Ran s a l start count
      go (passed us e q) =
          let c = cond-passed (proper_prefix a l) _ _ 3 q in
          let d = c.1 in
          record { records = good-records s us e; prefix = prefix-true a l c.0; starts = (cc); counts = (cc) }

  -- the three ways, in order: the input is refused, the prefix is none (3), or there is a run
  pub run-input-first : accepts (input_said s) ≡ false → run_said s a l ≡ input_said s
  unfolding run_said
  run-input-first e = and-refused (input_said s) _ e

  pub run-prefix-next : (n : ℕ) → input_said s ≡ accepted (n ∷ []) → (Prefix a l → ⊥) → run_said s a l ≡ refused 3
  unfolding run_said
  run-prefix-next n e h = rw (e, untrue (proper_prefix a l) (λ t. h (prefix-true a l t)))

  pub run-found : (n : ℕ) → input_said s ≡ accepted (n ∷ []) → Prefix a l → run_said s a l ≡ accepted (run_start s a l ∷ run_count s a l ∷ [])
  unfolding run_said
  run-found n e p = rw (e, true-prefix a l p)

  -- a refused run is empty, and stands at the list's start
  pub run-refused : accepts (run_said s a l) ≡ false → (run_of s a l ≡ []) × (run_at s a l ≡ 0)
  unfolding run_of run_at
  run-refused e = rw e (refl, refl)

  module _ (start count : ℕ) (e : run_said s a l ≡ accepted (start ∷ count ∷ [])) where
    ran : Ran s a l start count
    ran = run-accepted start count e

    ends : start + count ≡ run_end s a l
    ends = omega (arith, ran.starts, ran.counts, run-order (length s / 8) ran.prefix.len_ok)

    pub run_room : start + count ≤ length s / 8
    run_room = omega (arith, ends, place-le s (length s / 8) (past_key a l))

    -- every record before the run is smaller than the prefix, and every one from its start on is not
    pub run-before : (k : ℕ) → k < start → key (record_at s k) < key_of a l
    run-before k h = place-before s (length s / 8) (key_of a l) k (rw ran.starts at h)

    pub run-after : (k : ℕ) → start ≤ k → k < length s / 8 → key_of a l ≤ key (record_at s k)
    run-after k h u = place_after s (length s / 8) (key_of a l) ran.records k (rw ran.starts at h) u

    -- the run has each record of that length or longer inside the prefix, and no other
    pub run-exact : (k : ℕ) → k < length s / 8 → ((start ≤ k) × (k < start + count)) ↔ ((l ≤ (record_at s k).len) × (slot l (record_at s k).addr ≡ slot l a))
    run-exact k u =
        let f = (ran.records.each k u).prefix in
        let past = past_key a l in (
          (λ h. inside a l ran.prefix (record_at s k).addr (record_at s k).len f (run-after k h.0 u)
              (place-before s (length s / 8) past k (rw ends at h.1))),
          (λ h.
              let w = contained a l ran.prefix (record_at s k).addr (record_at s k).len f h.0 h.1 in
              let low : ¬ (k < start) = λ x. omega (arith, run-before k x) in
              let high : ¬ (start + count ≤ k) = λ x. omega (arith, place_after s (length s / 8) past ran.records k (rw ends at x) u) in
              (omega arith, omega arith)),
        )

    -- where no record lies inside, the run is empty and stands before the first record that isn't smaller
    pub run-empty : ((k : ℕ) → k < length s / 8 → l ≤ (record_at s k).len → slot l (record_at s k).addr ≡ slot l a → ⊥) → (count ≡ 0) ×
        (start ≡ place_of s (length s / 8) (key_of a l))
    run-empty none =
        let no : ¬ (0 < count) = λ (h : 0 < count). let w = (run-exact start (omega (arith, run_room))).0 (omega arith, omega arith) in none start
        (omega (arith, run_room)) w.0 w.1 in
        (omega arith, ran.starts)

    pub run_is : run_of s a l ≡ part s start count
    unfolding run_of
    run_is = rw (e, ← ran.counts, ← ran.starts)

    -- record j of the run is record start + j of the list, and the run is a good input
    pub run-record : (j : ℕ) → j < count → record_at (run_of s a l) j ≡ record_at s (start + j)
    run-record j h = rw run_is (part-record s start count j h)

    pub run-good : input_said (run_of s a l) ≡ accepted (count ∷ [])
    run-good = rw run_is (part-good s start count (length s / 8) run_room ran.records)

-- the code's size of a prefix: a one that is shifted left
pub size_is : (x l : ℕ) → x ≡ l → l ≤ 32 → (1 * 2 ^ (32 - x) % 2 ^ 64 ≡ 2 ^ (32 - l)) × (2 ^ (32 - l) ≤ 2 ^ 32)
size_is x l e h = (shl_one 64 (32 - x) (omega arith) ∙ ap (λ (y : ℕ). 2 ^ (32 - y)) e, let w : 32 - l ≤ 32 = omega arith in pow_mono w)

-- what each way through `run_check` says
module _ (s : List ℕ) (a l : ℕ) where
  module _ (n : ℕ) (e : means_input (Ok n) ≡ input_said s) (b : Bool) (t : b ≡ proper_prefix a l) where
    pub says-no-prefix : not b ≡ true → means_run_check (Err (record { why = refusal.Prefix; at = None })) ≡ run_said s a l
    unfolding said_by run_said
    says-no-prefix h = rw (input-ok s n e, ← t, not-true b h)

    pub its-prefix : not b ≡ false → Prefix a l
    its-prefix h = prefix-true a l (sym t ∙ not-false b h)

    pub says-run : (x y j k : ℕ) → not b ≡ false → x ≡ place_of s n j → j ≡ key_of a l → y ≡ place_of s n k → k ≡ past_key a l
        → means_run_check (Ok (record { start = x; count = y - x })) ≡ run_said s a l
    unfolding said_by run_said
    says-run x y j k h p q p' q' =
        let w = (input-good s n (input-ok s n e)).0 in
        let d : length s / 8 ≡ n = omega arith in
        rw (input-ok s n e, ← t, not-false b h, d, p, p', q, q')

  pub says-refused : (w : Refused) → means_input (Err w) ≡ input_said s → means_run_check (Err w) ≡ run_said s a l
  unfolding said_by run_said
  says-refused w e = rw (input-err s w e) (sym (and-then-told w _))

  -- what a caller of it knows by its arm
  pub run-told : (r : Span) → means_run_check (Ok r) ≡ run_said s a l → run_said s a l ≡ accepted (r.start ∷ r.count ∷ [])
  unfolding said_by
  run-told r e = sym e

  pub run-bytes : (r : Span) → means_run_check (Ok r) ≡ run_said s a l → r.start * 8 + r.count * 8 ≤ length s
  run-bytes r e = omega (arith, run_room s a l r.start r.count (run-told r e))

  pub not-told : (x : Result Span Refused) → means_run_check x ≡ run_said s a l → ((r : Span) → x ≡ Ok r → ⊥) → accepts (run_said s a l) ≡ false
  unfolding said_by
  not-told (Ok r) e h = absurd (h r refl)
  not-told (Err w) e h = rw (← e) (told-off w)

-- what `run` hands back
module _ (list r : Bor (List ℕ)) (a l : ℕ) where
  pub is-run : (start count : ℕ) → run_said list.now a l ≡ accepted (start ∷ count ∷ []) → (x y : ℕ) → r.ref_ptr ≡ (list.ref_ptr.0, x + list.ref_ptr.1)
      → r.now ≡ take (y - x) (drop x list.now) → x ≡ start * 8 → y ≡ start * 8 + count * 8 → IsRun list r a l
  unfolding run_at
  is-run start count e x y p q u v =
      let n : y - x ≡ count * 8 = omega arith in
      let o : x + list.ref_ptr.1 ≡ list.ref_ptr.1 + start * 8 = omega arith in
      record {
        holds = rw (run_is list.now a l start count e, ← n, ← u) q;
        stands = rw (e, ← (run-accepted list.now a l start count e).starts, ← o) p;
      }

  pub no_run : accepts (run_said list.now a l) ≡ false → r.ref_ptr ≡ (list.ref_ptr.0, 0 + list.ref_ptr.1) → r.now ≡ [] → IsRun list r a l
  no_run e p q =
      let z = run-refused list.now a l e in
      let o : list.ref_ptr.1 + 0 * 8 ≡ 0 + list.ref_ptr.1 = omega arith in
      record { holds = q ∙ sym z.0; stands = rw (z.1, o) p }

-- two answers that are told the same are the same
pub run-check-injective : (x y : Result Span Refused) → means_run_check x ≡ means_run_check y → x ≡ y
run-check-injective = said-injective run_values (λ vs. record { start = get_or vs 0 0; count = get_or vs 1 0 }) (λ r. refl)
