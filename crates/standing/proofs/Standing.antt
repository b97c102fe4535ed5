-- A route put into a good list, and a prefix taken out of one: the list stays good, and what then stands, is long, and is best at a cell.
use mathlib.Core.Path.{◌≡◌, refl, sym, ◌∙◌, ap, ap₂}
use mathlib.Core.Logic.{◌⊎◌, inl, inr, ◌≢◌}
use mathlib.Core.Bool.{Bool, true, false, ◌||◌, cond, true≢false, false≢true, or-true}
use mathlib.Core.List.Memᴰ
use mathlib.Core.List.{List, [], ◌∷◌, Memᴰ}
use Prim.Native.Nat.{ℕ, suc, ◌-◌, ◌≤◌, ◌<◌}
use native.Mathlib.Omega.{arith}
use native.Mathlib.Nat.{le_refl}
use lib.Dec.{eqb, ltb}
use lib.ListN.{length}
use borrow.Author.Tests.{ltb-true, ltb-false, eqb-true, eqb-false, lt-ltb, le-ltb, eq-eqb, ne_eqb}
use Rattle.routes.specs.Route.{key, key_of, Fine, Good}
use Rattle.standing.specs.Cells.{any, first, long, within}
use Rattle.routes.specs.declared.Route.{Route}
use Rattle.bits.proofs.Bools.{decided, or_split}
use Rattle.standing.proofs.Frame.{SameBut}
use Rattle.standing.specs.Standing.{is_at, stands, insert, remove, Held, absent, stood, route_at}
use Rattle.routes.proofs.Goods.{key-parts}

-- the three cases of `insert`, as equations
module _ (r s : Route) (ss : List Route) where
  pub insert-before : key r < key s → insert r (s ∷ ss) ≡ r ∷ s ∷ ss
  unfolding insert
  insert-before h = rw (lt-ltb (key r) (key s) h)

  pub insert-same : key s ≡ key r → insert r (s ∷ ss) ≡ r ∷ ss
  unfolding insert
  insert-same h = rw (le-ltb (key r) (key s) (omega arith), eq-eqb (key s) (key r) h)

  pub insert-after : key s < key r → insert r (s ∷ ss) ≡ s ∷ insert r ss
  unfolding insert
  insert-after h = rw (le-ltb (key r) (key s) (omega arith), ne_eqb (key s) (key r) (λ e. omega arith))

data Order (m n : ℕ) : Type 0 where
  less : m < n → Order m n
  equal : n ≡ m → Order m n
  more : n < m → Order m n

order : (m n : ℕ) → Order m n
order m n = go (decided (ltb m n)) (decided (eqb n m))
  where
    go : (ltb m n ≡ true) ⊎ (ltb m n ≡ false) → (eqb n m ≡ true) ⊎ (eqb n m ≡ false) → Order m n
    go (inl h) e = less (ltb-true m n h)
    go (inr h) (inl e) = equal (eqb-true n m e)
    go (inr h) (inr e) = let ne = eqb-false n m e in let le = ltb-false m n h in more (omega arith)

-- two fine routes of one key have one prefix
pub one-prefix : (r s : Route) → Fine r → Fine s → key s ≡ key r → (s.addr ≡ r.addr) × (s.len ≡ r.len)
one-prefix r s f h e = key-parts s.addr s.len r.addr r.len h.prefix.len_ok f.prefix.len_ok e

-- members
pub insert-mem : (r : Route) (rs : List Route) (m : Route) → Memᴰ m (insert r rs) → (m ≡ r) ⊎ Memᴰ m rs
unfolding insert
insert-mem r [] m h = Memᴰ.cases_cons h
insert-mem r (s ∷ ss) m h = go (order (key r) (key s)) (insert-mem r ss m)
  where
    go : Order (key r) (key s) → (Memᴰ m (insert r ss) → (m ≡ r) ⊎ Memᴰ m ss) → (m ≡ r) ⊎ Memᴰ m (s ∷ ss)
    go (less o) ih = Memᴰ.cases_cons (rw (insert-before r s ss o) at h)
    go (equal o) ih = at (Memᴰ.cases_cons (rw (insert-same r s ss o) at h))
      where
        at : (m ≡ r) ⊎ Memᴰ m ss → (m ≡ r) ⊎ Memᴰ m (s ∷ ss)
        at (inl q) = inl q
        at (inr k) = inr (Memᴰ.tail k)
    go (more o) ih = at (Memᴰ.cases_cons (rw (insert-after r s ss o) at h))
      where
        deeper : (m ≡ r) ⊎ Memᴰ m ss → (m ≡ r) ⊎ Memᴰ m (s ∷ ss)
        deeper (inl q) = inl q
        deeper (inr k) = inr (Memᴰ.tail k)

        at : (m ≡ s) ⊎ Memᴰ m (insert r ss) → (m ≡ r) ⊎ Memᴰ m (s ∷ ss)
        at (inl q) = inr (Memᴰ.head q)
        at (inr k) = deeper (ih k)

pub insert-good : (r : Route) (rs : List Route) → Fine r → Good rs → Good (insert r rs)
unfolding insert Good
insert-good r [] f g = (f, (λ s m. absurd (Memᴰ.not-nil m)), tt)
insert-good r (s ∷ ss) f g = go (order (key r) (key s)) (insert-good r ss f g.2)
  where
    go : Order (key r) (key s) → Good (insert r ss) → Good (cond (ltb (key r) (key s)) (r ∷ s ∷ ss) (cond (eqb (key s) (key r)) (r ∷ ss) (s ∷ insert r ss)))
    go (less o) ih = rw (lt-ltb (key r) (key s) o) (f, (λ x m. at x (Memᴰ.cases_cons m)), g)
      where
        at : (x : Route) → (x ≡ s) ⊎ Memᴰ x ss → key r < key x
        at x (inl q) = rw q o
        at x (inr k) = omega (arith, g.1 x k)
    go (equal o) ih = rw (le-ltb (key r) (key s) (omega arith), eq-eqb (key s) (key r) o) (f, (λ x m. omega (arith, g.1 x m)), g.2)
    go (more o) ih = rw (le-ltb (key r) (key s) (omega arith), ne_eqb (key s) (key r) (λ e. omega arith)) (g.0, (λ x m. at x (insert-mem r ss x m)), ih)
      where
        at : (x : Route) → (x ≡ r) ⊎ Memᴰ x ss → key s < key x
        at x (inl q) = rw q o
        at x (inr k) = g.1 x k

-- a test of the prefix alone
pub OfPrefix : (Route → Bool) → Type 0
OfPrefix f = (r s : Route) → s.addr ≡ r.addr → s.len ≡ r.len → f s ≡ f r

pub of-within : (p i : ℕ) → OfPrefix (within p i)
unfolding OfPrefix
of-within p i r s a l = rw (a, l)

swap : (a b c : Bool) → (a || (b || c)) ≡ (b || (a || c))
swap true true c = refl
swap true false c = refl
swap false true c = refl
swap false false c = refl

twice : (a c : Bool) → (a || c) ≡ (a || (a || c))
twice true c = refl
twice false c = refl

pub insert-any : (f : Route → Bool) → OfPrefix f → (r : Route) (rs : List Route) → Fine r → Good rs → any f (insert r rs) ≡ (f r || any f rs)
unfolding insert any Good OfPrefix
insert-any f w r [] k g = refl
insert-any f w r (s ∷ ss) k g = go (order (key r) (key s)) (insert-any f w r ss k g.2)
  where
    go : Order (key r) (key s) → any f (insert r ss) ≡ (f r || any f ss)
        → any f (cond (ltb (key r) (key s)) (r ∷ s ∷ ss) (cond (eqb (key s) (key r)) (r ∷ ss) (s ∷ insert r ss))) ≡ (f r || (f s || any f ss))
    go (less o) ih = rw (lt-ltb (key r) (key s) o)
    go (equal o) ih =
        let p = one-prefix r s k g.0 o in
        rw (le-ltb (key r) (key s) (omega arith), eq-eqb (key s) (key r) o, w r s p.0 p.1) (twice (f r) (any f ss))
    go (more o) ih = rw (le-ltb (key r) (key s) (omega arith), ne_eqb (key s) (key r) (λ e. omega arith), ih) (swap (f s) (f r) (any f ss))

-- which cells are long after a route is put in
pub insert-long : (r : Route) (rs : List Route) → Fine r → Good rs → (p i : ℕ) → long (insert r rs) p i ≡ (within p i r || long rs p i)
insert-long r rs f g p i = insert-any (within p i) (of-within p i) r rs f g

-- what stands for a prefix after a route is put in
pub insert-stands : (k : ℕ) (r : Route) (rs : List Route) → route_at k (insert r rs) ≡ cond (eqb (key r) k) (stood r) (route_at k rs)
unfolding insert route_at
insert-stands k r [] = refl
insert-stands k r (s ∷ ss) = go (order (key r) (key s)) (insert-stands k r ss)
  where
    go : Order (key r) (key s) → route_at k (insert r ss) ≡ cond (eqb (key r) k) (stood r) (route_at k ss)
        → route_at k (cond (ltb (key r) (key s)) (r ∷ s ∷ ss) (cond (eqb (key s) (key r)) (r ∷ ss) (s ∷ insert r ss)))
        ≡ cond (eqb (key r) k) (stood r) (cond (eqb (key s) k) (stood s) (route_at k ss))
    go (less o) ih = rw (lt-ltb (key r) (key s) o)
    go (equal o) ih = rw (le-ltb (key r) (key s) (omega arith), eq-eqb (key s) (key r) o, o) (absorb (eqb (key r) k) _ _ _)
      where
        absorb : (b : Bool) (x y z : Held) → cond b x z ≡ cond b x (cond b y z)
        absorb true x y z = refl
        absorb false x y z = refl
    go (more o) ih =
        rw (le-ltb (key r) (key s) (omega arith), ne_eqb (key s) (key r) (λ e. omega arith), ih)
        (order-of (decided (eqb (key r) k)) (decided (eqb (key s) k)))
      where
        order-of : (eqb (key r) k ≡ true) ⊎ (eqb (key r) k ≡ false) → (eqb (key s) k ≡ true) ⊎ (eqb (key s) k ≡ false)
            → cond (eqb (key s) k) (stood s) (cond (eqb (key r) k) (stood r) (route_at k ss))
            ≡ cond (eqb (key r) k) (stood r) (cond (eqb (key s) k) (stood s) (route_at k ss))
        order-of (inl a) (inl b) = let x = eqb-true (key r) k a in let y = eqb-true (key s) k b in absurd (omega arith)
        order-of (inl a) (inr b) = rw (a, b)
        order-of (inr a) b = rw a

-- no test that fails at the prefix tells the lists apart
module _ (r : Route) (f : Route → Bool) (w : (s : Route) → s.addr ≡ r.addr → s.len ≡ r.len → f s ≡ false) where
  insert-any-but : (rs : List Route) → Fine r → Good rs → any f rs ≡ any f (insert r rs)
  unfolding insert any Good
  insert-any-but [] k g = rw (w r refl refl)
  insert-any-but (s ∷ ss) k g = go (order (key r) (key s)) (insert-any-but ss k g.2)
    where
      go : Order (key r) (key s) → any f ss ≡ any f (insert r ss)
          → (f s || any f ss) ≡ any f (cond (ltb (key r) (key s)) (r ∷ s ∷ ss) (cond (eqb (key s) (key r)) (r ∷ ss) (s ∷ insert r ss)))
      go (less o) ih = rw (lt-ltb (key r) (key s) o, w r refl refl)
      go (equal o) ih =
          let p = one-prefix r s k g.0 o in
          rw (le-ltb (key r) (key s) (omega arith), eq-eqb (key s) (key r) o, w r refl refl, w s p.0 p.1)
      go (more o) ih = rw (le-ltb (key r) (key s) (omega arith), ne_eqb (key s) (key r) (λ e. omega arith), ih)

  insert-first-but : (rs : List Route) → Fine r → Good rs → first f rs ≡ first f (insert r rs)
  unfolding insert first Good
  insert-first-but [] k g = rw (w r refl refl)
  insert-first-but (s ∷ ss) k g = go (order (key r) (key s)) (insert-first-but ss k g.2)
    where
      go : Order (key r) (key s) → first f ss ≡ first f (insert r ss)
          → cond (f s) (suc s.hop) (first f ss) ≡ first f (cond (ltb (key r) (key s)) (r ∷ s ∷ ss) (cond (eqb (key s) (key r)) (r ∷ ss) (s ∷ insert r ss)))
      go (less o) ih = rw (lt-ltb (key r) (key s) o, w r refl refl)
      go (equal o) ih =
          let p = one-prefix r s k g.0 o in
          rw (le-ltb (key r) (key s) (omega arith), eq-eqb (key s) (key r) o, w r refl refl, w s p.0 p.1)
      go (more o) ih = rw (le-ltb (key r) (key s) (omega arith), ne_eqb (key s) (key r) (λ e. omega arith), ih)

pub insert-but : (r : Route) (rs : List Route) → Fine r → Good rs → SameBut r.addr r.len rs (insert r rs)
insert-but r rs k g = record {
  same_any = λ f h. insert-any-but r f h rs k g;
  same_first = λ f h. insert-first-but r f h rs k g;
}

-- lengths
pub insert-length : (r : Route) (rs : List Route) → length (insert r rs) ≤ suc (length rs)
unfolding insert
insert-length r [] = le_refl 1
insert-length r (s ∷ ss) = go (ltb (key r) (key s)) (eqb (key s) (key r)) (insert-length r ss)
  where
    go : (a b : Bool) → length (insert r ss) ≤ suc (length ss) → length (cond a (r ∷ s ∷ ss) (cond b (r ∷ ss) (s ∷ insert r ss))) ≤ suc (suc (length ss))
    go true b ih = omega arith
    go false true ih = omega arith
    go false false ih = omega arith

-- where the prefix stands already, the list grows no longer
pub insert-replaces : (r : Route) (rs : List Route) → Good rs → stands (key r) rs ≡ true → length (insert r rs) ≡ length rs
unfolding insert any Good
insert-replaces r [] g e = absurd (false≢true e)
insert-replaces r (s ∷ ss) g e = go (order (key r) (key s)) (insert-replaces r ss g.2)
  where
    later : key r < key s → any (is_at (key r)) ss ≡ false
    later o = none ss g.1
      where
        none : (l : List Route) → ((x : Route) → Memᴰ x l → key s < key x) → any (is_at (key r)) l ≡ false
        none [] h = refl
        none (x ∷ l) h = rw (ne_eqb (key x) (key r) (λ q. let z = h x (Memᴰ.head refl) in omega arith)) (none l (λ y m. h y (Memᴰ.tail m)))

    go : Order (key r) (key s) → (any (is_at (key r)) ss ≡ true → length (insert r ss) ≡ length ss)
        → length (cond (ltb (key r) (key s)) (r ∷ s ∷ ss) (cond (eqb (key s) (key r)) (r ∷ ss) (s ∷ insert r ss))) ≡ suc (length ss)
    go (less o) ih = absurd (true≢false (sym e ∙ rw (ne_eqb (key s) (key r) (λ q. omega arith)) (later o)))
    go (equal o) ih = rw (le-ltb (key r) (key s) (omega arith), eq-eqb (key s) (key r) o)
    go (more o) ih =
        let n : eqb (key s) (key r) ≡ false = ne_eqb (key s) (key r) (λ q. omega arith) in
        rw (le-ltb (key r) (key s) (omega arith), n) (ap suc (ih (rw n at e)))

-- removed
pub remove-mem : (k : ℕ) (rs : List Route) (m : Route) → Memᴰ m (remove k rs) → Memᴰ m rs
unfolding remove
remove-mem k [] m h = h
remove-mem k (s ∷ ss) m h = go (decided (is_at k s)) (remove-mem k ss m)
  where
    go : (is_at k s ≡ true) ⊎ (is_at k s ≡ false) → (Memᴰ m (remove k ss) → Memᴰ m ss) → Memᴰ m (s ∷ ss)
    go (inl e) ih = Memᴰ.tail (ih (rw e at h))
    go (inr e) ih = at (Memᴰ.cases_cons (rw e at h))
      where
        at : (m ≡ s) ⊎ Memᴰ m (remove k ss) → Memᴰ m (s ∷ ss)
        at (inl q) = Memᴰ.head q
        at (inr x) = Memᴰ.tail (ih x)

pub remove-good : (k : ℕ) (rs : List Route) → Good rs → Good (remove k rs)
unfolding remove Good
remove-good k [] g = tt
remove-good k (s ∷ ss) g = go (is_at k s) (remove-good k ss g.2)
  where
    go : (b : Bool) → Good (remove k ss) → Good (cond b (remove k ss) (s ∷ remove k ss))
    go true ih = ih
    go false ih = (g.0, (λ x m. g.1 x (remove-mem k ss x m)), ih)

pub remove-length : (k : ℕ) (rs : List Route) → length (remove k rs) ≤ length rs
unfolding remove
remove-length k [] = le_refl 0
remove-length k (s ∷ ss) = go (is_at k s) (remove-length k ss)
  where
    go : (b : Bool) → length (remove k ss) ≤ length ss → length (cond b (remove k ss) (s ∷ remove k ss)) ≤ suc (length ss)
    go true ih = omega arith
    go false ih = omega arith

pub remove-any : (f : Route → Bool) (k : ℕ) (rs : List Route) → any f (remove k rs) ≡ true → any f rs ≡ true
unfolding remove any
remove-any f k [] e = e
remove-any f k (s ∷ ss) e = go (is_at k s) (remove-any f k ss) e
  where
    go : (b : Bool) → (any f (remove k ss) ≡ true → any f ss ≡ true) → any f (cond b (remove k ss) (s ∷ remove k ss)) ≡ true → (f s || any f ss) ≡ true
    go true ih e = rw (ih e) (or-true (f s))
    go false ih e = at (or_split (f s) (any f (remove k ss)) e)
      where
        at : (f s ≡ true) ⊎ (any f (remove k ss) ≡ true) → (f s || any f ss) ≡ true
        at (inl x) = rw x
        at (inr x) = rw (ih x) (or-true (f s))

pub remove-stands : (k j : ℕ) (rs : List Route) → route_at j (remove k rs) ≡ cond (eqb k j) absent (route_at j rs)
unfolding remove route_at
remove-stands k j [] = go (eqb k j)
  where
    go : (b : Bool) → absent ≡ cond b absent absent
    go true = refl
    go false = refl
remove-stands k j (s ∷ ss) = go (decided (eqb (key s) k)) (decided (eqb k j)) (remove-stands k j ss)
  where
    go : (eqb (key s) k ≡ true) ⊎ (eqb (key s) k ≡ false) → (eqb k j ≡ true) ⊎ (eqb k j ≡ false)
        → route_at j (remove k ss) ≡ cond (eqb k j) absent (route_at j ss)
        → route_at j (cond (eqb (key s) k) (remove k ss) (s ∷ remove k ss)) ≡ cond (eqb k j) absent (cond (eqb (key s) j) (stood s) (route_at j ss))
    go (inl a) (inl b) ih = rw (a, b) (ih ∙ rw b)
    go (inl a) (inr b) ih = rw (a, b, ne_eqb (key s) j (λ q. eqb-false k j b (sym (eqb-true (key s) k a) ∙ q))) (ih ∙ rw b)
    go (inr a) (inl b) ih = rw (a, b, ne_eqb (key s) j (λ q. eqb-false (key s) k a (q ∙ sym (eqb-true k j b)))) (ih ∙ rw b)
    go (inr a) (inr b) ih = rw (a, ih, b)

module _ (a l : ℕ) (small : l ≤ 32) (f : Route → Bool) (w : (s : Route) → s.addr ≡ a → s.len ≡ l → f s ≡ false) where
  remove-any-but : (rs : List Route) → Good rs → any f rs ≡ any f (remove (key_of a l) rs)
  unfolding remove any Good
  remove-any-but [] g = refl
  remove-any-but (s ∷ ss) g = go (decided (eqb (key s) (key_of a l))) (remove-any-but ss g.2)
    where
      go : (eqb (key s) (key_of a l) ≡ true) ⊎ (eqb (key s) (key_of a l) ≡ false) → any f ss ≡ any f (remove (key_of a l) ss)
          → (f s || any f ss) ≡ any f (cond (eqb (key s) (key_of a l)) (remove (key_of a l) ss) (s ∷ remove (key_of a l) ss))
      go (inl e) ih =
          let p = key-parts s.addr s.len a l g.0.prefix.len_ok small (eqb-true (key s) (key_of a l) e) in
          rw (e, w s p.0 p.1) ih
      go (inr e) ih = rw (e, ih)

  remove-first-but : (rs : List Route) → Good rs → first f rs ≡ first f (remove (key_of a l) rs)
  unfolding remove first Good
  remove-first-but [] g = refl
  remove-first-but (s ∷ ss) g = go (decided (eqb (key s) (key_of a l))) (remove-first-but ss g.2)
    where
      go : (eqb (key s) (key_of a l) ≡ true) ⊎ (eqb (key s) (key_of a l) ≡ false) → first f ss ≡ first f (remove (key_of a l) ss)
          → cond (f s) (suc s.hop) (first f ss) ≡ first f (cond (eqb (key s) (key_of a l)) (remove (key_of a l) ss) (s ∷ remove (key_of a l) ss))
      go (inl e) ih =
          let p = key-parts s.addr s.len a l g.0.prefix.len_ok small (eqb-true (key s) (key_of a l) e) in
          rw (e, w s p.0 p.1) ih
      go (inr e) ih = rw (e, ih)

pub remove-but : (a l : ℕ) (rs : List Route) → l ≤ 32 → Good rs → SameBut a l rs (remove (key_of a l) rs)
remove-but a l rs h g = record {
  same_any = λ f w. remove-any-but a l h f w rs g;
  same_first = λ f w. remove-first-but a l h f w rs g;
}

pub later-absent : (k : ℕ) (rs : List Route) → ((s : Route) → Memᴰ s rs → k < key s) → route_at k rs ≡ absent
unfolding route_at
later-absent k [] h = refl
later-absent k (s ∷ ss) h = rw (ne_eqb (key s) k (λ q. let z = h s (Memᴰ.head refl) in omega arith)) (later-absent k ss (λ x m. h x (Memᴰ.tail m)))

not-absent : (s : Route) → stood s ≡ absent → ⊥
not-absent s e = let z : ◌≡◌ {A = ℕ} 0 1 = cc in omega arith

-- a good list is known by what stands in it for each prefix
pub same-standing : (xs ys : List Route) → Good xs → Good ys → ((k : ℕ) → route_at k xs ≡ route_at k ys) → xs ≡ ys
unfolding Good route_at
same-standing [] [] g h e = refl
same-standing [] (y ∷ ys) g h e = absurd (not-absent y (sym (e (key y) ∙ rw (eq-eqb (key y) (key y) refl))))
same-standing (x ∷ xs) [] g h e = absurd (not-absent x (sym (rw (eq-eqb (key x) (key x) refl)) ∙ e (key x)))
same-standing (x ∷ xs) (y ∷ ys) g h e = go (order (key x) (key y)) (same-standing xs ys g.2 h.2)
  where
    go : Order (key x) (key y) → (((k : ℕ) → route_at k xs ≡ route_at k ys) → xs ≡ ys) → ◌≡◌ {A = List Route} (x ∷ xs) (y ∷ ys)
    go (less o) ih =
        let z = e (key x) in
        let none = later-absent (key x) ys (λ s m. omega (arith, h.1 s m)) in
        absurd (not-absent x (rw (eq-eqb (key x) (key x) refl, ne_eqb (key y) (key x) (λ q. omega arith), none) at z))
    go (more o) ih =
        let z = e (key y) in
        let none = later-absent (key y) xs (λ s m. omega (arith, g.1 s m)) in
        absurd (not-absent y (sym (rw (eq-eqb (key y) (key y) refl, ne_eqb (key x) (key y) (λ q. omega arith), none) at z)))
    go (equal o) ih =
        let z = e (key x) in
        let u : stood x ≡ stood y = rw (eq-eqb (key x) (key x) refl, eq-eqb (key y) (key x) o) at z in
        let r : x ≡ y = cc in
        let t = ih (λ k. rest k (decided (eqb (key x) k))) in
        ap₂ (λ (s : Route) (l : List Route). s ∷ l) r t
      where
        rest : (k : ℕ) → (eqb (key x) k ≡ true) ⊎ (eqb (key x) k ≡ false) → route_at k xs ≡ route_at k ys
        rest k (inl q) =
            let z = eqb-true (key x) k q in
            later-absent k xs (λ s m. omega (arith, g.1 s m)) ∙ sym (later-absent k ys (λ s m. omega (arith, h.1 s m)))
        rest k (inr q) =
            let w : eqb (key y) k ≡ false = rw o q in
            rw (q, w) at (e k)
