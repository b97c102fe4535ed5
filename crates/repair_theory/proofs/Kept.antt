-- What is kept of a list. A record is kept exactly where it is valid by itself and larger than every one kept before it; so what is kept is a good
-- list, and of good records all are.
use mathlib.Core.Path.{◌≡◌, refl, ◌∙◌, ap}
use mathlib.Core.Logic.{◌⊎◌, inl, inr}
use mathlib.Core.Bool.{true, false, cond}
use mathlib.Core.List.Memᴰ
use mathlib.Core.List.{List, [], ◌∷◌, ◌++◌, append-nil, Memᴰ}
use Prim.Native.Nat.{ℕ, zero, suc, ◌+◌, ◌≤◌, ◌<◌, zero-le}
use native.Mathlib.Omega.{arith}
use lib.Dec.{eqb, leb}
use lib.ListN.{length}
use borrow.Author.Tests.{eqb-true, leb-true, eq-eqb, le-leb}
use Rattle.bits.specs.Tab.{tabulate}
use Rattle.bits.proofs.Bools.{decided, both, and_split, untrue}
use Rattle.bits.proofs.Tabs.{tabulate-snoc}
use Rattle.routes.specs.Route.{key, Fine, Good}
use Rattle.routes.specs.Record.{record_at, routes_of}
use Rattle.routes.specs.Input.{route_fault}
use Rattle.routes.specs.declared.Route.{Route}
use Rattle.routes.proofs.Meaning.{RouteChecked, route-checked, fine-fault}
use Rattle.routes.proofs.Rows.{listed-record}
use Rattle.repair_theory.specs.Repair.{keeps, kept_from, kept_of}
use Rattle.repair_theory.specs.Keeping.{Largest, Each}
use Rattle.repair_theory.specs.Pass.{least_from}

-- valid by itself is fine
fault-fine : (r : Route) → route_fault r ≡ 0 → Fine r
fault-fine r e = go (route-checked r)
  where
    go : RouteChecked r (route_fault r) → Fine r
    go (RouteChecked.fine z f) = f
    go (RouteChecked.wrong p w) = absurd (omega arith)

module _ (s : List ℕ) where
  keeps-fine : (least k : ℕ) → keeps s least k ≡ true → Fine (record_at s k) × (least ≤ key (record_at s k))
  keeps-fine least k e =
      let a = and_split (eqb (route_fault (record_at s k)) 0) (leb least (key (record_at s k))) e in
      (fault-fine (record_at s k) (eqb-true _ _ a.0), leb-true _ _ a.1)

  fine-keeps : (least k : ℕ) → Fine (record_at s k) → least ≤ key (record_at s k) → keeps s least k ≡ true
  fine-keeps least k f h = both (eq-eqb _ _ (fine-fault (record_at s k) f)) (le-leb _ _ h)

  -- What holds of no record, and goes on over one that is kept and over one that is dropped, holds of what is kept and of what is then asked for.
  kept-ind : (P : ℕ → ℕ → ℕ → List Route → ℕ → Type 0)
      → ((least k : ℕ) → P least k zero [] least)
      → ((least k d : ℕ) (xs : List Route) (m : ℕ) → keeps s least k ≡ true → P (suc (key (record_at s k))) (suc k) d xs m
      → P least k (suc d) (record_at s k ∷ xs) m)
      → ((least k d : ℕ) (xs : List Route) (m : ℕ) → keeps s least k ≡ false → P least (suc k) d xs m → P least k (suc d) xs m)
      → (least k d : ℕ) → P least k d (kept_from s least k d) (least_from s least k d)
  unfolding kept_from least_from
  kept-ind P none takes drops least k zero = none least k
  kept-ind P none takes drops least k (suc d) =
      go (decided (keeps s least k)) (kept-ind P none takes drops (suc (key (record_at s k))) (suc k) d) (kept-ind P none takes drops least (suc k) d)
    where
      go : (keeps s least k ≡ true) ⊎ (keeps s least k ≡ false)
          → P (suc (key (record_at s k))) (suc k) d (kept_from s (suc (key (record_at s k))) (suc k) d) (least_from s (suc (key (record_at s k))) (suc k) d)
          → P least (suc k) d (kept_from s least (suc k) d) (least_from s least (suc k) d)
          → P least k (suc d) (cond (keeps s least k) (record_at s k ∷ kept_from s (suc (key (record_at s k))) (suc k) d) (kept_from s least (suc k) d))
          (cond (keeps s least k) (least_from s (suc (key (record_at s k))) (suc k) d) (least_from s least (suc k) d))
      go (inl e) a b = rw e (takes least k d _ _ e a)
      go (inr e) a b = rw e (drops least k d _ _ e b)

  -- one record more, at the end
  pub kept-snoc : (least k d : ℕ)
      → kept_from s least k (suc d) ≡ kept_from s least k d ++ cond (keeps s (least_from s least k d) (k + d)) (record_at s (k + d) ∷ []) []
  unfolding kept_from
  kept-snoc = kept-ind (λ least k d xs m. kept_from s least k (suc d) ≡ xs ++ cond (keeps s m (k + d)) (record_at s (k + d) ∷ []) [])
      (λ least k. let z : k + 0 ≡ k = omega arith in rw z)
      (λ least k d xs m e a. let z : k + suc d ≡ suc k + d = omega arith in rw (e, z) (ap {B = List Route} (λ t. record_at s k ∷ t) a))
      (λ least k d xs m e b. let z : k + suc d ≡ suc k + d = omega arith in rw (e, z) b)

  pub least-snoc : (least k d : ℕ)
      → least_from s least k (suc d) ≡ cond (keeps s (least_from s least k d) (k + d)) (suc (key (record_at s (k + d)))) (least_from s least k d)
  unfolding least_from
  least-snoc = kept-ind (λ least k d xs m. least_from s least k (suc d) ≡ cond (keeps s m (k + d)) (suc (key (record_at s (k + d)))) m)
      (λ least k. let z : k + 0 ≡ k = omega arith in rw z)
      (λ least k d xs m e a. let z : k + suc d ≡ suc k + d = omega arith in rw (e, z) a)
      (λ least k d xs m e b. let z : k + suc d ≡ suc k + d = omega arith in rw (e, z) b)

  -- "keeps each record that is valid and larger than the last one kept": what is kept ascends
  pub kept-good : (least k d : ℕ) → Good (kept_from s least k d)
  unfolding Good
  kept-good least k d =
      (kept-ind (λ least k d xs m. Good xs × ((r : Route) → Memᴰ r xs → least ≤ key r))
      (λ least k. (tt, (λ r n. absurd (Memᴰ.not-nil n))))
      (λ least k d xs m e a. let f = keeps-fine least k e in ((f.0, a.1, a.0), (λ r n. first least k r f.1 (a.1 r) (Memᴰ.cases_cons n))))
      (λ least k d xs m e b. b)
      least k d).0
    where
      first : {xs : List Route} (least k : ℕ) (r : Route) → least ≤ key (record_at s k) → (Memᴰ r xs → suc (key (record_at s k)) ≤ key r)
          → (r ≡ record_at s k) ⊎ Memᴰ r xs → least ≤ key r
      first least k r f a (inl q) = rw q f
      first least k r f a (inr n) = omega (arith, a n, f)

  pub kept-few : (least k d : ℕ) → length (kept_from s least k d) ≤ d
  kept-few = kept-ind (λ least k d xs m. length xs ≤ d) (λ least k. zero-le) (λ least k d xs m e a. omega arith) (λ least k d xs m e b. omega arith)

  -- What is asked of the next key: that it is larger than all that are kept.
  least-over : (least k d : ℕ) (r : Route) → Memᴰ r (kept_from s least k d) → key r < least_from s least k d
  least-over least k d =
      (kept-ind (λ least k d xs m. (least ≤ m) × ((r : Route) → Memᴰ r xs → key r < m))
      (λ least k. (omega arith, (λ r n. absurd (Memᴰ.not-nil n))))
      (λ least k d xs m e a. (omega (arith, a.0, (keeps-fine least k e).1), (λ r n. first k r a.0 (a.1 r) (Memᴰ.cases_cons n))))
      (λ least k d xs m e b. b)
      least k d).1
    where
      first : {xs : List Route} {m : ℕ} (k : ℕ) (r : Route) → suc (key (record_at s k)) ≤ m → (Memᴰ r xs → key r < m)
          → (r ≡ record_at s k) ⊎ Memᴰ r xs → key r < m
      first k r h a (inl q) = rw q h
      first k r h a (inr n) = a n

  least_under : (x least k d : ℕ) → least ≤ x → ((r : Route) → Memᴰ r (kept_from s least k d) → key r < x) → least_from s least k d ≤ x
  least_under x = kept-ind (λ least k d xs m. least ≤ x → ((r : Route) → Memᴰ r xs → key r < x) → m ≤ x)
      (λ least k h f. h)
      (λ least k d xs m e a h f. a (f (record_at s k) (Memᴰ.head refl)) (λ r n. f r (Memᴰ.tail n)))
      (λ least k d xs m e b. b)

  -- Kept or not is told by `keeps`, and what it asks of the key is that it is larger than all that are kept.
  pub kept-each : (n : ℕ) → Each s n
  kept-each n = record { takes = takes; drops = drops }
    where
      step : kept_of s (suc n) ≡ kept_of s n ++ cond (keeps s (least_from s 0 0 n) n) (record_at s n ∷ []) []
      step = let z : 0 + n ≡ n = omega arith in rw z at (kept-snoc 0 0 n)

      takes : Fine (record_at s n) → Largest s n (record_at s n) → kept_of s (suc n) ≡ kept_of s n ++ (record_at s n ∷ [])
      takes f h = step ∙ rw (fine-keeps (least_from s 0 0 n) n f (least_under (key (record_at s n)) 0 0 n zero-le h))

      drops : (Fine (record_at s n) → Largest s n (record_at s n) → ⊥) → kept_of s (suc n) ≡ kept_of s n
      drops h = step ∙ rw (untrue (keeps s (least_from s 0 0 n) n) kept-not) (append-nil (kept_of s n))
        where
          kept-not : keeps s (least_from s 0 0 n) n ≡ true → ⊥
          kept-not e = let f = keeps-fine (least_from s 0 0 n) n e in h f.0 (λ r m. omega (arith, least-over 0 0 n r m, f.1))

  -- of good records all are kept
  pub kept-all : (n : ℕ) → ((k : ℕ) → k < n → Fine (record_at s k)) → ((i j : ℕ) → i < j → j < n → key (record_at s i) < key (record_at s j))
      → kept_of s n ≡ routes_of s n
  unfolding kept_from routes_of tabulate
  kept-all zero each rises = refl
  kept-all (suc n) each rises = go (kept-all n (λ k l. each k (omega arith)) (λ i j l u. rises i j l (omega arith)))
    where
      go : kept_of s n ≡ routes_of s n → kept_of s (suc n) ≡ routes_of s (suc n)
      go q =
          (kept-each n).takes (each n (omega arith))
          (λ r m.
          let w = listed-record s n r (rw q at m) in
          rw (← w.2) (rises w.0 n w.1 (omega arith)))
          ∙ rw (q, tabulate-snoc n (record_at s))
