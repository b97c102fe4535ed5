-- How many long routes a cell holds after one route is put in or taken out.
use mathlib.Core.Path.{◌≡◌, refl, sym, ◌∙◌, ap}
use mathlib.Core.Logic.{◌⊎◌, inl, inr}
use mathlib.Core.Bool.{Bool, true, false, ◌&&◌, cond, true≢false}
use mathlib.Core.List.{List, [], ◌∷◌, ◌++◌, Memᴰ}
use Prim.Native.Nat.{ℕ, suc, ◌+◌, ◌≤◌, ◌<◌}
use native.Mathlib.Omega.{arith}
use lib.Dec.{eqb, ltb}
use borrow.Author.Tests.{ltb-true, eqb-true, lt-ltb, le-ltb, eq-eqb, ne_eqb}
use Rattle.bits.specs.Count.{bit}
use Rattle.bits.specs.Slot.{slot}
use Rattle.bits.proofs.Bools.{decided, or-none}
use Rattle.routes.specs.Route.{key, key_of, Fine, Good}
use Rattle.routes.specs.declared.Route.{Route}
use Rattle.routes.proofs.Goods.{key-parts}
use Rattle.standing.specs.Cells.{any, within}
use Rattle.standing.specs.Standing.{is_at, stands, insert, remove}
use Rattle.standing.proofs.Changed.{remove_absent}
use Rattle.standing.proofs.Standing.{one-prefix}
use Rattle.counts.specs.Counts.{how_many, OneMore}

-- a prefix that does not stand is counted once more after it is put in
insert-more : (r : Route) (rs : List Route) → stands (key r) rs ≡ false → (p i : ℕ) → how_many (insert r rs) p i ≡ bit (within p i r) + how_many rs p i
unfolding insert any how_many
insert-more r [] e p i = refl
insert-more r (s ∷ ss) e p i = let n = or-none (is_at (key r) s) (stands (key r) ss) e in rw n.0 (go (ltb (key r) (key s)) (insert-more r ss n.1 p i))
  where
    go : (b : Bool) → how_many (insert r ss) p i ≡ bit (within p i r) + how_many ss p i
        → how_many (cond b (r ∷ s ∷ ss) (s ∷ insert r ss)) p i ≡ bit (within p i r) + (bit (within p i s) + how_many ss p i)
    go true ih = refl
    go false ih = omega arith

pub many-insert : (r : Route) (rs : List Route) → stands (key r) rs ≡ false → OneMore r.addr r.len rs (insert r rs)
many-insert r rs e = record { counts = insert-more r rs e }

-- a replacement changes no count
pub many-replace : (r : Route) (rs : List Route) → Fine r → Good rs → stands (key r) rs ≡ true → (p i : ℕ) → how_many (insert r rs) p i ≡ how_many rs p i
unfolding insert any how_many Good
many-replace r [] f g e p i = absurd (true≢false (sym e))
many-replace r (s ∷ ss) f g e p i = go (decided (ltb (key r) (key s))) (decided (is_at (key r) s)) (many-replace r ss f g.2)
  where
    -- a route that comes later has another prefix
    none : key r < key s → (l : List Route) → ((x : Route) → Memᴰ x l → key s < key x) → stands (key r) l ≡ false
    none o [] h = refl
    none o (x ∷ l) h = rw (ne_eqb (key x) (key r) (λ q. let z = h x (Memᴰ.head refl) in omega arith)) (none o l (λ y m. h y (Memᴰ.tail m)))

    go : (ltb (key r) (key s) ≡ true) ⊎ (ltb (key r) (key s) ≡ false) → (is_at (key r) s ≡ true) ⊎ (is_at (key r) s ≡ false)
        → (stands (key r) ss ≡ true → (p i : ℕ) → how_many (insert r ss) p i ≡ how_many ss p i)
        → how_many (cond (ltb (key r) (key s)) (r ∷ s ∷ ss) (cond (eqb (key s) (key r)) (r ∷ ss) (s ∷ insert r ss))) p i ≡ bit (within p i s) + how_many ss p i
    go (inl a) (inl b) ih = absurd (omega (arith, ltb-true (key r) (key s) a, eqb-true (key s) (key r) b))
    go (inl a) (inr b) ih = absurd (true≢false (sym (rw b at e) ∙ none (ltb-true (key r) (key s) a) ss g.1))
    go (inr a) (inl b) ih =
        let z = one-prefix r s f g.0 (eqb-true (key s) (key r) b) in
        rw (a, b, z.0, z.1)
    go (inr a) (inr b) ih = rw (a, b, ih (rw b at e) p i)

-- a prefix that stands was counted once more before it is taken out
remove-more : (a len : ℕ) (rs : List Route) → len ≤ 32 → Good rs → stands (key_of a len) rs ≡ true
    → (p i : ℕ) → how_many rs p i ≡ bit (ltb p len && eqb (slot p a) i) + how_many (remove (key_of a len) rs) p i
unfolding remove any how_many Good
remove-more a len [] h g e p i = absurd (true≢false (sym e))
remove-more a len (s ∷ ss) h g e p i = go (decided (is_at (key_of a len) s)) (remove-more a len ss h g.2)
  where
    k : ℕ
    k = key_of a len

    none : key s ≡ k → (l : List Route) → ((x : Route) → Memᴰ x l → key s < key x) → stands k l ≡ false
    none o [] u = refl
    none o (x ∷ l) u = rw (ne_eqb (key x) k (λ q. let z = u x (Memᴰ.head refl) in omega arith)) (none o l (λ y m. u y (Memᴰ.tail m)))

    go : (is_at k s ≡ true) ⊎ (is_at k s ≡ false)
        → (stands k ss ≡ true → (p i : ℕ) → how_many ss p i ≡ bit (ltb p len && eqb (slot p a) i) + how_many (remove k ss) p i)
        → bit (within p i s) + how_many ss p i ≡ bit (ltb p len && eqb (slot p a) i) + how_many (cond (is_at k s) (remove k ss) (s ∷ remove k ss)) p i
    go (inl b) ih =
        let q = eqb-true (key s) k b in
        let z = key-parts s.addr s.len a len g.0.prefix.len_ok h q in
        rw (b, z.0, z.1, remove_absent k ss (none q ss g.1))
    go (inr b) ih = rw b (let z = ih (rw b at e) p i in omega arith)

pub many-remove : (a len : ℕ) (rs : List Route) → len ≤ 32 → Good rs → stands (key_of a len) rs ≡ true → OneMore a len (remove (key_of a len) rs) rs
many-remove a len rs h g e = record { counts = remove-more a len rs h g e }

-- a route put in after all others
snoc-more : (rs : List Route) (r : Route) (p i : ℕ) → how_many (rs ++ (r ∷ [])) p i ≡ bit (within p i r) + how_many rs p i
unfolding how_many
snoc-more [] r p i = refl
snoc-more (s ∷ ss) r p i = omega (arith, snoc-more ss r p i)

pub many-snoc : (rs : List Route) (r : Route) → OneMore r.addr r.len rs (rs ++ (r ∷ []))
many-snoc rs r = record { counts = snoc-more rs r }

-- What one route more changes: its own cell at the levels that it is longer than, and no other.
module _ (a len : ℕ) (rs rs' : List Route) (m : OneMore a len rs rs') (p : ℕ) where
  pub more-own : p < len → how_many rs' p (slot p a) ≡ suc (how_many rs p (slot p a))
  more-own l =
      let z : (ltb p len && eqb (slot p a) (slot p a)) ≡ true = rw (lt-ltb p len l, eq-eqb (slot p a) (slot p a) refl) in
      omega (arith, m.counts p (slot p a), ap bit z)

  pub more-other : (i : ℕ) → (slot p a ≡ i → ⊥) → how_many rs' p i ≡ how_many rs p i
  more-other i n = omega (arith, m.counts p i, ap bit (off (ltb p len)))
    where
      off : (b : Bool) → (b && eqb (slot p a) i) ≡ false
      off true = ne_eqb (slot p a) i n
      off false = refl

  pub more-short : len ≤ p → (i : ℕ) → how_many rs' p i ≡ how_many rs p i
  more-short l i =
      let z : (ltb p len && eqb (slot p a) i) ≡ false = rw (le-ltb p len l) in
      omega (arith, m.counts p i, ap bit z)
