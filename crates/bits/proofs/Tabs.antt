-- Laws of lists by their elements.
use mathlib.Core.Path.{◌≡◌, refl, sym, ap, ap₂, ◌∙◌}
use mathlib.Core.Logic.{◌⊎◌, inl, inr, ⊎_elim}
use mathlib.Core.Bool.{Bool, true, false, cond, false≢true}
use mathlib.Core.List.{List, [], ◌∷◌, ◌++◌}
use Prim.Native.Nat.{ℕ, zero, suc, ◌+◌, ◌<◌, suc-le-suc, zero-le}
use native.Mathlib.Nat.{not-suc-le-zero, le_of_suc-le-suc, zero-add, suc-add, suc-ne-zero, suc_inj, le_step, le_refl, eq-or-lt_of_le}
use native.Mathlib.Omega.{arith}
use lib.Dec.{eqb}
use lib.ListN.{length, get_or, set, replicate, length-set}
use lib.Seq.{get_or-set_same, get_or-set_other}
use borrow.Author.Count.{below_more}
use borrow.Author.Tests.{eqb-true, eqb-false, eq-eqb}
use Rattle.bits.specs.Tab.{tabulate, every, same}
use Rattle.bits.proofs.Bools.{decided, both, and_split}

-- zeros are 0 at every place, past the end too
pub get_d-zeros : (n i : ℕ) → ◌≡◌ {A = ℕ} (get_or (replicate n 0) i 0) 0
get_d-zeros zero i = refl
get_d-zeros (suc n) zero = refl
get_d-zeros (suc n) (suc i) = get_d-zeros n i

module _ {ℓ} {A : Type ℓ} where
  pub length-tabulate : (n : ℕ) (f : ℕ → A) → length (tabulate n f) ≡ n
  unfolding tabulate
  length-tabulate zero f = refl
  length-tabulate (suc n) f = ap suc (length-tabulate n (λ i. f (suc i)))

  pub get_d_tabulate : (n : ℕ) (f : ℕ → A) (i : ℕ) (d : A) → i < n → get_or (tabulate n f) i d ≡ f i
  unfolding tabulate
  get_d_tabulate zero f i d h = absurd (not-suc-le-zero h)
  get_d_tabulate (suc n) f zero d h = refl
  get_d_tabulate (suc n) f (suc i) d h = get_d_tabulate n (λ i. f (suc i)) i d (le_of_suc-le-suc h)

  pub tabulate-snoc : (n : ℕ) (f : ℕ → A) → tabulate (suc n) f ≡ tabulate n f ++ (f n ∷ [])
  unfolding tabulate
  tabulate-snoc zero f = refl
  tabulate-snoc (suc n) f = ap {B = List A} (λ t. f zero ∷ t) (tabulate-snoc n (λ i. f (suc i)))

  pub tabulate-append : (m k : ℕ) (f : ℕ → A) → tabulate (m + k) f ≡ tabulate m f ++ tabulate k (λ i. f (m + i))
  unfolding tabulate
  tabulate-append zero k f = simp zero-add
  tabulate-append (suc m) k f = simp suc-add (ap {B = List A} (λ t. f zero ∷ t) (tabulate-append m k (λ i. f (suc i))))

  pub tabulate-ext : (n : ℕ) (f g : ℕ → A) → ((i : ℕ) → i < n → f i ≡ g i) → tabulate n f ≡ tabulate n g
  unfolding tabulate
  tabulate-ext zero f g h = refl
  tabulate-ext (suc n) f g h =
      let e : f zero ≡ g zero = h zero (suc-le-suc zero-le) in
      let t : tabulate n (λ i. f (suc i)) ≡ tabulate n (λ i. g (suc i)) = tabulate-ext n (λ i. f (suc i)) (λ i. g (suc i)) (λ i l. h (suc i) (suc-le-suc l)) in
      cc

  -- a list is the table of its elements
  pub is-tabulate : (d : A) (l : List A) (n : ℕ) (f : ℕ → A) → length l ≡ n → ((i : ℕ) → i < n → get_or l i d ≡ f i) → l ≡ tabulate n f
  unfolding tabulate
  is-tabulate d [] zero f e h = refl
  is-tabulate d [] (suc n) f e h = absurd (suc-ne-zero n (sym e))
  is-tabulate d (x ∷ l) zero f e h = absurd (suc-ne-zero (length l) e)
  is-tabulate d (x ∷ l) (suc n) f e h =
      let t = is-tabulate d l n (λ i. f (suc i)) (suc_inj e) (λ i h'. h (suc i) (suc-le-suc h')) in
      let z : x ≡ f zero = h zero (suc-le-suc zero-le) in
      cc

  -- a store to a table
  pub set-tabulate : (n : ℕ) (f : ℕ → A) (k : ℕ) (v : A) → set (tabulate n f) k v ≡ tabulate n (λ i. cond (eqb i k) v (f i))
  set-tabulate n f k v =
      is-tabulate v (set (tabulate n f) k v) n (λ i. cond (eqb i k) v (f i)) (length-set (tabulate n f) k v ∙ length-tabulate n f)
      (λ i h. ⊎_elim (λ e. same i h e) (λ e. other i h e) (decided (eqb i k)))
    where
      same : (i : ℕ) → i < n → eqb i k ≡ true → get_or (set (tabulate n f) k v) i v ≡ cond (eqb i k) v (f i)
      same i h e =
          let q : i ≡ k = eqb-true i k e in
          let l : i < length (tabulate n f) = rw length-tabulate h in
          rw (e, ← q) (get_or-set_same (tabulate n f) i v v l)

      other : (i : ℕ) → i < n → eqb i k ≡ false → get_or (set (tabulate n f) k v) i v ≡ cond (eqb i k) v (f i)
      other i h e = rw (e, get_or-set_other (tabulate n f) k i v v (eqb-false i k e)) (get_d_tabulate n f i v h)

-- a loop that stores one number a turn: what was stored before stands, and one more
pub stored_more : (f : ℕ → ℕ) (out : List ℕ) (i v : ℕ) → i < length out → ((k : ℕ) → k < i → get_or out k 0 ≡ f k) → v ≡ f i
    → (k : ℕ) → k < i + 1 → get_or (set out i v) k 0 ≡ f k
stored_more f out i v l h e =
    below_more (λ (k : ℕ). get_or (set out i v) k 0 ≡ f k) i (λ k b. get_or-set_other out i k v 0 (λ q. omega arith) ∙ h k b) (get_or-set_same out i v 0 l ∙ e)

-- tests
pub every_true : (p : ℕ → Bool) (n : ℕ) → every p n ≡ true → (i : ℕ) → i < n → p i ≡ true
unfolding every
every_true p zero e i h = absurd (not-suc-le-zero h)
every_true p (suc n) e i h = go (eq-or-lt_of_le (le_of_suc-le-suc h)) (and_split (p n) (every p n) e) (every_true p n)
  where
    go : (i ≡ n) ⊎ (i < n) → (p n ≡ true) × (every p n ≡ true) → (every p n ≡ true → (j : ℕ) → j < n → p j ≡ true) → p i ≡ true
    go (inl q) s ih = rw q s.0
    go (inr l) s ih = ih s.1 i l

pub true-every : (p : ℕ → Bool) (n : ℕ) → ((i : ℕ) → i < n → p i ≡ true) → every p n ≡ true
unfolding every
true-every p zero h = refl
true-every p (suc n) h = both (h n (le_refl (suc n))) (true-every p n (λ i l. h i (le_step l)))

pub same_true : (xs ys : List ℕ) → same xs ys ≡ true → xs ≡ ys
unfolding same
same_true [] [] e = refl
same_true [] (y ∷ ys) e = absurd (false≢true e)
same_true (x ∷ xs) [] e = absurd (false≢true e)
same_true (x ∷ xs) (y ∷ ys) e =
    let s = and_split (eqb x y) (same xs ys) e in
    ap₂ (λ (a : ℕ) (l : List ℕ). a ∷ l) (eqb-true x y s.0) (same_true xs ys s.1)

same_self : (xs : List ℕ) → same xs xs ≡ true
unfolding same
same_self [] = refl
same_self (x ∷ xs) = both (eq-eqb x x refl) (same_self xs)

pub true_same : (xs ys : List ℕ) → xs ≡ ys → same xs ys ≡ true
true_same xs ys e = rw e (same_self ys)
