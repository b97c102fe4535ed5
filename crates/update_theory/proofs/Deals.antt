-- One entry more, the stop, the end; what the outcome means, and that one outcome means it.
use mathlib.Core.Path.{◌≡◌, refl, sym, ap, ap₂, ◌∙◌}
use mathlib.Core.Logic.{◌⊎◌, inl, inr, ◌≢◌}
use mathlib.Core.List.{List, [], ◌∷◌, ◌++◌, map}
use Prim.Native.Nat.{ℕ, zero, suc, ◌+◌, ◌-◌, ◌%◌, ◌^◌, ◌≤◌, ◌<◌}
use native.Mathlib.Omega.{arith}
use lib.Dec.{eqb}
use lib.ListN.{length, drop, length-append, drop_of_length-le}
use borrow.Author.Tests.{eq-eqb, ne_eqb}
use Rattle.bits.proofs.Bools.{equal?, below?}
use Rattle.fields.specs.Field.{Net, entries}
use Rattle.fields.proofs.Fields.{entries-few}
use Rattle.update_theory.specs.Deal.{Entry, goes, comes, all_entries, Turn, Dealt, deal_by, after_first, NthEntry, Ends}

same-dealt : {S : Type 0} (d b : Dealt S) → d.stop ≡ b.stop → d.dealt ≡ b.dealt → d.state ≡ b.state → d ≡ b
same-dealt {S} d b p q r =
    ap (λ (x : ℕ). record { stop = x; dealt = d.dealt; state = d.state }) p
    ∙ ap (λ (x : ℕ). record { stop = b.stop; dealt = x; state = d.state }) q
    ∙ ap (λ (x : S). record { stop = b.stop; dealt = b.dealt; state = x }) r

head-same : {a b : Entry} {xs ys : List Entry} → a ∷ xs ≡ b ∷ ys → a ≡ b
head-same p = cc

module _ {S : Type 0} (step : S → Entry → Turn S) where
  -- as the code goes: an entry that is dealt with, one that stops, and none left
  module _ (k : ℕ) (s : S) (e : Entry) (es : List Entry) where
    pub deal-more : (step s e).stop ≡ 0 → deal_by step k s (e ∷ es) ≡ deal_by step (suc k) (step s e).state es
    unfolding deal_by
    deal-more z = rw (eq-eqb _ 0 z)

    pub deal-stop : (step s e).stop ≢ 0 → deal_by step k s (e ∷ es) ≡ record { stop = (step s e).stop; dealt = k; state = (step s e).state }
    unfolding deal_by
    deal-stop z = rw (ne_eqb _ 0 z)

  pub deal-end : (k : ℕ) (s : S) → deal_by step k s [] ≡ record { stop = 0; dealt = k; state = s }
  unfolding deal_by
  deal-end k s = refl

  -- of the entries before the one at j + 1, the first is e, and the others come after it
  pass-more : (s : S) (e : Entry) (es : List Entry) (n : ℕ) → (step s e).stop ≡ 0
      → ((j : ℕ) (x : Entry) → j < n → NthEntry es j x → (step (after_first step j (step s e).state es) x).stop ≡ 0)
      → (j : ℕ) (x : Entry) → j < suc n → NthEntry (e ∷ es) j x → (step (after_first step j s (e ∷ es)) x).stop ≡ 0
  unfolding after_first
  pass-more s e es n z passed zero x h q = ap (λ (y : Entry). (step s y).stop) (sym (head-same q)) ∙ z
  pass-more s e es n z passed (suc j) x h q = passed j x (omega arith) q

  -- By induction over the entries: the first one stops the work, or is one of those that are dealt with.
  pub deal-ends : (k : ℕ) (s : S) (es : List Entry) → Ends step k s es (deal_by step k s es)
  unfolding deal_by after_first
  deal-ends k s [] = record {
    done = 0;
    few = omega arith;
    count = omega arith;
    passed = λ j e h. absurd (omega arith);
    whole = λ _. (refl, refl);
    cut = λ z. absurd (z refl);
  }
  deal-ends k s (e ∷ es) = go (equal? (step s e).stop 0) (deal-ends (suc k) (step s e).state es)
    where
      go : ((step s e).stop ≡ 0) ⊎ ((step s e).stop ≢ 0) → Ends step (suc k) (step s e).state es (deal_by step (suc k) (step s e).state es)
          → Ends step k s (e ∷ es) (deal_by step k s (e ∷ es))
      go (inl z) w = rw (eq-eqb (step s e).stop 0 z) (record {
        done = suc w.done;
        few = omega (arith, w.few);
        count = omega (arith, w.count);
        passed = pass-more s e es w.done z w.passed;
        whole = λ q. (ap suc (w.whole q).0, (w.whole q).1);
        cut = λ q. w.cut q;
      })
      go (inr z) w = rw (ne_eqb (step s e).stop 0 z) (record {
        done = 0;
        few = omega arith;
        count = omega arith;
        passed = λ j x h. absurd (omega arith);
        whole = λ q. absurd (z q);
        cut = λ q. (e, refl, refl, refl);
      })

  -- The one that is dealt with less far stopped at an entry that the other one passed; so both are as far, and then they are the same.
  module _ (k : ℕ) (s : S) (es : List Entry) where
    short : (d b : Dealt S) (x : Ends step k s es d) (y : Ends step k s es b) → x.done < y.done → ⊥
    short d b x y h = go (equal? d.stop 0)
      where
        go : (d.stop ≡ 0) ⊎ (d.stop ≢ 0) → ⊥
        go (inl z) = omega (arith, (x.whole z).0, y.few)
        go (inr z) = let c = x.cut z in z (sym c.2 ∙ y.passed x.done c.0 h c.1)

    some_left : (n : ℕ) (e : Entry) → NthEntry es n e → n ≡ length es → ⊥
    some_left n e q h = let past : length es ≤ n = omega arith in nonempty (sym (drop_of_length-le es past) ∙ q)
      where
        nonempty : {a : Entry} {xs : List Entry} → [] ≡ a ∷ xs → ⊥
        nonempty p = omega (arith, ap length p)

    stops-alike : (d b : Dealt S) (x : Ends step k s es d) (y : Ends step k s es b) → x.done ≡ y.done → d.stop ≡ 0 → b.stop ≢ 0 → ⊥
    stops-alike d b x y e z n = let c = y.cut n in some_left y.done c.0 c.1 (sym e ∙ (x.whole z).0)

    pub ends-once : (d b : Dealt S) → Ends step k s es d → Ends step k s es b → d ≡ b
    ends-once d b x y = go (below? x.done y.done) (below? y.done x.done) (equal? d.stop 0) (equal? b.stop 0)
      where
        go : (x.done < y.done) ⊎ (y.done ≤ x.done) → (y.done < x.done) ⊎ (x.done ≤ y.done) → (d.stop ≡ 0) ⊎ (d.stop ≢ 0)
            → (b.stop ≡ 0) ⊎ (b.stop ≢ 0) → d ≡ b
        go (inl h) j p q = absurd (short d b x y h)
        go (inr h) (inl j) p q = absurd (short b d y x j)
        go (inr h) (inr j) (inl p) (inr q) = absurd (stops-alike d b x y (omega arith) p q)
        go (inr h) (inr j) (inr p) (inl q) = absurd (stops-alike b d y x (omega arith) q p)
        go (inr h) (inr j) (inl p) (inl q) =
            let e : x.done ≡ y.done = omega arith in
            let c : d.dealt ≡ b.dealt = omega (arith, x.count, y.count) in
            let z : d.stop ≡ b.stop = p ∙ sym q in
            let f : d.state ≡ b.state = (x.whole p).1 ∙ ap (λ (n : ℕ). after_first step n s es) e ∙ sym (y.whole q).1 in
            same-dealt d b z c f
        go (inr h) (inr j) (inr p) (inr q) =
            let e : x.done ≡ y.done = omega arith in
            let c : d.dealt ≡ b.dealt = omega (arith, x.count, y.count) in
            let u = x.cut p in
            let v = y.cut q in
            let same : u.0 ≡ v.0 = head-same (sym u.1 ∙ ap (λ (n : ℕ). drop n es) e ∙ v.1) in
            let after : after_first step x.done s es ≡ after_first step y.done s es = ap (λ (n : ℕ). after_first step n s es) e in
            let turn : step (after_first step x.done s es) u.0 ≡ step (after_first step y.done s es) v.0 = ap₂ step after same in
            let z : d.stop ≡ b.stop = sym u.2 ∙ ap (λ (t : Turn S). t.stop) turn ∙ v.2 in
            let f : d.state ≡ b.state = u.3 ∙ ap (λ (t : Turn S). t.state) turn ∙ sym v.3 in
            same-dealt d b z c f

  -- what each entry keeps, all keep
  pub deal-keeps : (P : S → Type 0) → ((s : S) (e : Entry) → P s → P (step s e).state) → (k : ℕ) (s : S) (es : List Entry) → P s
      → P (deal_by step k s es).state
  unfolding deal_by
  deal-keeps P keeps k s [] p = p
  deal-keeps P keeps k s (e ∷ es) p = go (equal? (step s e).stop 0) (deal-keeps P keeps (suc k) (step s e).state es (keeps s e p))
    where
      go : ((step s e).stop ≡ 0) ⊎ ((step s e).stop ≢ 0) → P (deal_by step (suc k) (step s e).state es).state → P (deal_by step k s (e ∷ es)).state
      go (inl z) w = rw (eq-eqb (step s e).stop 0 z) w
      go (inr z) w = rw (ne_eqb (step s e).stop 0 z) (keeps s e p)

  pub first-keeps : (P : S → Type 0) → ((s : S) (e : Entry) → P s → P (step s e).state) → (n : ℕ) (s : S) (es : List Entry) → P s
      → P (after_first step n s es)
  unfolding after_first
  first-keeps P keeps zero s es p = p
  first-keeps P keeps (suc n) s [] p = p
  first-keeps P keeps (suc n) s (e ∷ es) p = first-keeps P keeps n (step s e).state es (keeps s e p)

-- There are no more entries than bytes.
map-length : {A B : Type 0} (f : A → B) (xs : List A) → length (map f xs) ≡ length xs
map-length f [] = refl
map-length f (x ∷ xs) = ap suc (map-length f xs)

pub all-few : (wd re : List ℕ) → length (all_entries wd re) ≤ length wd + length re
all-few wd re =
    rw length-append (omega (arith, map-length goes (entries wd), map-length comes (entries re), entries-few wd, entries-few re))

-- "Then withdraw, then announce": no prefix goes after one that comes
come-only : (ms : List Net) (j : ℕ) (m : Net) → NthEntry (map comes ms) j (goes m) → ⊥
come-only [] zero m q = omega (arith, ap length q)
come-only [] (suc j) m q = omega (arith, ap length q)
come-only (n ∷ ms) zero m q = comes-goes (head-same q)
  where
    comes-goes : {n m : Net} → comes n ≡ goes m → ⊥
    comes-goes p = let z : ◌≡◌ {A = ℕ} 0 1 = cc in omega arith
come-only (n ∷ ms) (suc j) m q = come-only ms j m q

goes_before : (ns ms : List Net) (i j : ℕ) (n m : Net) → NthEntry (map goes ns ++ map comes ms) i (comes n)
    → NthEntry (map goes ns ++ map comes ms) j (goes m) → j < i
goes_before [] ms i j n m p q = absurd (come-only ms j m q)
goes_before (x ∷ ns) ms zero j n m p q = absurd (goes-comes (head-same p))
  where
    goes-comes : {n m : Net} → goes n ≡ comes m → ⊥
    goes-comes p = let z : ◌≡◌ {A = ℕ} 0 1 = cc in omega arith
goes_before (x ∷ ns) ms (suc i) zero n m p q = omega arith
goes_before (x ∷ ns) ms (suc i) (suc j) n m p q = let h = goes_before ns ms i j n m p q in omega arith

pub goes_first : (wd re : List ℕ) (i j : ℕ) (n m : Net) → NthEntry (all_entries wd re) i (comes n) → NthEntry (all_entries wd re) j (goes m) → j < i
goes_first wd re = goes_before (entries wd) (entries re)
