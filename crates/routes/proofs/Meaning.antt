-- What the check of an input means, in the words of the document.
use mathlib.Core.Path.{◌≡◌, refl, sym, ◌∙◌, subst}
use mathlib.Core.Logic.{◌⊎◌, inl, inr, ⊎_elim, ◌≢◌}
use mathlib.Core.List.{List, [], ◌∷◌}
use mathlib.Core.Bool.{true, false, not, ◌&&◌, cond, true≢false}
use Prim.Native.Nat.{ℕ, zero, suc, ◌-◌, ◌*◌, ◌/◌, ◌%◌, ◌^◌, ◌≤◌, ◌<◌}
use native.Mathlib.Nat.{eq-or-lt_of_le, lt_trans, le_of_suc-le-suc}
use native.Mathlib.Omega.{arith}
use lib.ListN.{length}
use lib.Dec.{leb, ltb, eqb}
use borrow.Author.Tests.{eqb-true, eqb-false, ltb-true, ltb-false, leb-true, not-true, not-false, lt-ltb, le-ltb, le-leb, eq-eqb, ne_eqb}
use Rattle.bits.specs.Slot.{cut}
use Rattle.bits.specs.Search.{first_of}
use Rattle.bits.proofs.Searches.{first_of-before, first_of-at, first_of-is}
use Rattle.bits.proofs.Bools.{decided, below?, both, and_split, untrue}
use Rattle.routes.specs.Route.{key, Prefix, Fine}
use Rattle.routes.specs.Record.{record_at, Records}
use Rattle.routes.specs.Said.{Said, accepted, refused, refused_at}
use Rattle.routes.specs.Cases.{WrongRoute, WrongRecord, RightRecord, Checked}
use Rattle.routes.specs.Input.{proper_prefix, hop_fine, route_fault, in_order, fault_at, is_bad, first_bad, input_said}
use Rattle.routes.specs.declared.Route.{Route}

-- the tests of a prefix and of a hop, both ways
pub prefix-true : (a l : ℕ) → proper_prefix a l ≡ true → Prefix a l
unfolding proper_prefix
prefix-true a l e =
    let s = and_split (leb l 32) (ltb a (2 ^ 32) && eqb (cut l a) a) e in
    let u = and_split (ltb a (2 ^ 32)) (eqb (cut l a) a) s.1 in
    record { len_ok = leb-true l 32 s.0; addr_ok = ltb-true a (2 ^ 32) u.0; clear = eqb-true (cut l a) a u.1 }

pub true-prefix : (a l : ℕ) → Prefix a l → proper_prefix a l ≡ true
unfolding proper_prefix
true-prefix a l p = both (le-leb l 32 p.len_ok) (both (lt-ltb a (2 ^ 32) p.addr_ok) (eq-eqb (cut l a) a p.clear))

pub hop-true : (h : ℕ) → hop_fine h ≡ true → (1 ≤ h) × (h ≤ 32767)
unfolding hop_fine
hop-true h e = let s = and_split (leb 1 h) (leb h 32767) e in (leb-true 1 h s.0, leb-true h 32767 s.1)

pub true-hop : (h : ℕ) → 1 ≤ h → h ≤ 32767 → hop_fine h ≡ true
unfolding hop_fine
true-hop h l u = both (le-leb 1 h l) (le-leb h 32767 u)

false-prefix : (a l : ℕ) → proper_prefix a l ≡ false → Prefix a l → ⊥
false-prefix a l e p = true≢false (sym (true-prefix a l p) ∙ e)

-- a route has no fault and is fine, or has the first fault in order
pub data RouteChecked (r : Route) (f : ℕ) : Type 0 where
  fine : f ≡ 0 → Fine r → RouteChecked r f
  wrong : 0 < f → WrongRoute r f → RouteChecked r f

pub route-checked : (r : Route) → RouteChecked r (route_fault r)
unfolding route_fault
route-checked r = go (decided (proper_prefix r.addr r.len)) (decided (hop_fine r.hop)) (below? 1 r.mark)
  where
    go : (proper_prefix r.addr r.len ≡ true) ⊎ (proper_prefix r.addr r.len ≡ false) → (hop_fine r.hop ≡ true) ⊎
        (hop_fine r.hop ≡ false) → (1 < r.mark) ⊎ (r.mark ≤ 1)
        → RouteChecked r (cond (not (proper_prefix r.addr r.len)) 3 (cond (not (hop_fine r.hop)) 4 (cond (ltb 1 r.mark) 10 0)))
    go (inr p) h s = rw p (wrong (omega arith) (WrongRoute.prefix (false-prefix r.addr r.len p)))
    go (inl p) (inr h) s = rw (p, h) (wrong (omega arith)
        (WrongRoute.hop (prefix-true r.addr r.len p) (λ l u. true≢false (sym (true-hop r.hop l u) ∙ h))))
    go (inl p) (inl h) (inl s) =
        let b = hop-true r.hop h in
        rw (p, h, lt-ltb 1 r.mark s) (wrong (omega arith) (WrongRoute.mark (prefix-true r.addr r.len p) b.0 b.1 s))
    go (inl p) (inl h) (inr s) =
        let b = hop-true r.hop h in
        rw (p, h, le-ltb 1 r.mark s) (fine refl (record { prefix = prefix-true r.addr r.len p; hop_one = b.0; hop_ok = b.1; mark_ok = s }))

pub fine-fault : (r : Route) → Fine r → route_fault r ≡ 0
unfolding route_fault
fine-fault r f = rw (true-prefix r.addr r.len f.prefix, true-hop r.hop f.hop_one f.hop_ok, le-ltb 1 r.mark f.mark_ok)

-- what is wrong with a route is one thing, and that is its fault
pub wrong-fine : {r : Route} {f : ℕ} → WrongRoute r f → Fine r → ⊥
wrong-fine (WrongRoute.prefix h) g = h g.prefix
wrong-fine (WrongRoute.hop p h) g = h g.hop_one g.hop_ok
wrong-fine (WrongRoute.mark p a b h) g = omega (arith, g.mark_ok)

pub wrong-fault : (r : Route) (f : ℕ) → WrongRoute r f → route_fault r ≡ f
unfolding route_fault
wrong-fault r f (WrongRoute.prefix h) = rw (untrue (proper_prefix r.addr r.len) (λ e. h (prefix-true r.addr r.len e)))
wrong-fault r f (WrongRoute.hop p h) = rw (true-prefix r.addr r.len p, untrue (hop_fine r.hop) (λ e. let b = hop-true r.hop e in h b.0 b.1))
wrong-fault r f (WrongRoute.mark p a b h) = rw (true-prefix r.addr r.len p, true-hop r.hop a b, lt-ltb 1 r.mark h)

pub data RecordChecked (s : List ℕ) (k f : ℕ) : Type 0 where
  right : f ≡ 0 → RightRecord s k → RecordChecked s k f
  wrong : 0 < f → WrongRecord s k f → RecordChecked s k f

order-at : (s : List ℕ) (k : ℕ) → in_order s k ≡ true → 0 < k → key (record_at s (k - 1)) < key (record_at s k)
unfolding in_order
order-at s k e h = ltb-true _ _ (rw (ne_eqb k 0 (λ z. omega arith)) at e)

not-order : (s : List ℕ) (k : ℕ) → in_order s k ≡ false → (0 < k) × (key (record_at s k) ≤ key (record_at s (k - 1)))
unfolding in_order
not-order s k e = go (decided (eqb k 0)) e
  where
    go : (eqb k 0 ≡ true) ⊎ (eqb k 0 ≡ false) → cond (eqb k 0) true (ltb (key (record_at s (k - 1))) (key (record_at s k))) ≡ false → (0 < k) ×
        (key (record_at s k) ≤ key (record_at s (k - 1)))
    go (inl z) h = absurd (true≢false (rw z at h))
    go (inr z) h =
        let n = eqb-false k 0 z in
        let g : ltb (key (record_at s (k - 1))) (key (record_at s k)) ≡ false = rw z at h in
        (omega arith, ltb-false _ _ g)

pub record-checked : (s : List ℕ) (k : ℕ) → RecordChecked s k (fault_at s k)
unfolding fault_at
record-checked s k = go (route-checked (record_at s k)) (decided (in_order s k))
  where
    go : {f : ℕ} → RouteChecked (record_at s k) f → (in_order s k ≡ true) ⊎ (in_order s k ≡ false) → RecordChecked s k (cond (eqb f 0) (cond (in_order s k) 0 10) f)
    go {f} (RouteChecked.wrong p w) o = rw (ne_eqb f 0 (λ z. omega arith)) (RecordChecked.wrong p (WrongRecord.itself w))
    go (RouteChecked.fine z g) (inl o) = rw (eq-eqb _ 0 z, o) (right refl (record { fine = g; after = order-at s k o }))
    go (RouteChecked.fine z g) (inr o) =
        let n = not-order s k o in
        rw (eq-eqb _ 0 z, o) (RecordChecked.wrong (omega arith) (WrongRecord.order g n.0 n.1))

-- a record without fault is right, and one that is right has none
pub right-fault : (s : List ℕ) (k : ℕ) → RightRecord s k → fault_at s k ≡ 0
unfolding fault_at
right-fault s k r = rw (eq-eqb (route_fault (record_at s k)) 0 (fine-fault (record_at s k) r.fine)) (go (decided (in_order s k)))
  where
    go : (in_order s k ≡ true) ⊎ (in_order s k ≡ false) → ◌≡◌ {A = ℕ} (cond (in_order s k) 0 10) 0
    go (inl o) = rw o
    go (inr o) = let n = not-order s k o in let l = r.after n.0 in absurd (omega (arith, n.1))

pub fault-right : (s : List ℕ) (k : ℕ) → fault_at s k ≡ 0 → RightRecord s k
fault-right s k e = go (record-checked s k)
  where
    go : RecordChecked s k (fault_at s k) → RightRecord s k
    go (right z r) = r
    go (RecordChecked.wrong p w) = absurd (omega arith)

module _ (s : List ℕ) (n : ℕ) (fine : (k : ℕ) → k < n → RightRecord s k) where
  rising : (i j : ℕ) → i < j → j < n → key (record_at s i) < key (record_at s j)
  rising i zero l u = absurd (omega arith)
  rising i (suc j) l u =
      let z : suc j - 1 ≡ j = omega arith in
      let step : key (record_at s j) < key (record_at s (suc j)) = rw z at ((fine (suc j) u).after (omega arith)) in
      ⊎_elim (λ (q : i ≡ j). rw q step) (λ (q : i < j). lt_trans (rising i j q (omega arith)) step) (eq-or-lt_of_le (le_of_suc-le-suc l))

  pub right-records : n * 8 ≤ length s → n ≤ 4096 → Records s n
  right-records room few = record { room = room; few = few; each = λ k l. (fine k l).fine; rises = rising }

pub records-right : (s : List ℕ) (n : ℕ) → Records s n → (k : ℕ) → k < n → RightRecord s k
records-right s n r k l = record { fine = r.each k l; after = λ h. r.rises (k - 1) k (omega arith) l }

bad-is : (s : List ℕ) (k : ℕ) → is_bad s k ≡ false → fault_at s k ≡ 0
bad-is s k e = eqb-true (fault_at s k) 0 (not-false _ e)

is-bad : (s : List ℕ) (k : ℕ) → is_bad s k ≡ true → fault_at s k ≢ 0
is-bad s k e = eqb-false (fault_at s k) 0 (not-true _ e)

pub input-checked : (s : List ℕ) → Checked s (input_said s)
unfolding input_said
input-checked s = go (decided (eqb (length s % 8) 0)) (decided (ltb k n)) (decided (ltb 4096 n))
  where
    n : ℕ
    n = length s / 8

    k : ℕ
    k = first_bad s

    before : (j : ℕ) → j < k → RightRecord s j
    before j l = fault-right s j (bad-is s j (first_of-before (is_bad s) n j l))

    go : (eqb (length s % 8) 0 ≡ true) ⊎ (eqb (length s % 8) 0 ≡ false) → (ltb k n ≡ true) ⊎ (ltb k n ≡ false) → (ltb 4096 n ≡ true) ⊎ (ltb 4096 n ≡ false)
        → Checked s (cond (not (eqb (length s % 8) 0)) (refused_at 10 n)
        (cond (ltb k n) (refused_at (fault_at s k) k) (cond (ltb 4096 n) (refused 6) (accepted (n ∷ [])))))
    go (inr w) b m = rw w (Checked.ragged (eqb-false (length s % 8) 0 w))
    go (inl w) (inl b) m = rw (w, b) (at (record-checked s k))
      where
        l : k < n
        l = ltb-true k n b

        at : RecordChecked s k (fault_at s k) → Checked s (refused_at (fault_at s k) k)
        at (right z r) = absurd (is-bad s k (first_of-at (is_bad s) n l) z)
        at (RecordChecked.wrong p x) = Checked.stopped k (fault_at s k) (eqb-true (length s % 8) 0 w) l before x p
    go (inl w) (inr b) m = rw (w, b) (at m)
      where
        all : (j : ℕ) → j < n → RightRecord s j
        all j l = before j (omega (arith, ltb-false k n b))

        at : (ltb 4096 n ≡ true) ⊎ (ltb 4096 n ≡ false) → Checked s (cond (ltb 4096 n) (refused 6) (accepted (n ∷ [])))
        at (inl e) = rw e (Checked.many (eqb-true (length s % 8) 0 w) all (ltb-true 4096 n e))
        at (inr e) =
            let z = eqb-true (length s % 8) 0 w in
            rw e (Checked.good n (omega arith) (right-records s n all (omega arith) (ltb-false 4096 n e)))

-- told good exactly when it is
pub input-good : (s : List ℕ) (n : ℕ) → input_said s ≡ accepted (n ∷ []) → (length s ≡ n * 8) × Records s n
input-good s n e = go (subst (Checked s) e (input-checked s)) refl
  where
    go : {x : Said} → Checked s x → x ≡ accepted (n ∷ []) → (length s ≡ n * 8) × Records s n
    go (Checked.ragged w) q = absurd (let z : ◌≡◌ {A = ℕ} 0 1 = cc in omega arith)
    go (Checked.stopped k f w l b x p) q = absurd (let z : ◌≡◌ {A = ℕ} 0 1 = cc in omega arith)
    go (Checked.many w a m) q = absurd (let z : ◌≡◌ {A = ℕ} 0 1 = cc in omega arith)
    go (Checked.good m w r) q = let z : m ≡ n = cc in (rw z at w, rw z at r)

pub good-input : (s : List ℕ) (n : ℕ) → length s ≡ n * 8 → Records s n → input_said s ≡ accepted (n ∷ [])
unfolding input_said
good-input s n w r =
    let d : length s / 8 ≡ n = omega arith in
    let m : length s % 8 ≡ 0 = omega arith in
    let f : first_of (is_bad s) n ≡ n = first_of-is (is_bad s) n n (omega arith)
    (λ j l. rw (eq-eqb (fault_at s j) 0 (right-fault s j (records-right s n r j l)))) (λ l. absurd (omega arith)) in
    rw (d, eq-eqb (length s % 8) 0 m, f, le-ltb n n (omega arith), le-ltb 4096 n r.few)
