-- The owners of a pool as a table sees them that adds `top` to its own: 1 + the place that a chunk of its own hangs from, and 0 for every other chunk.
use mathlib.Core.Path.{◌≡◌, refl, sym, ◌∙◌, ap}
use mathlib.Core.Logic.{◌⊎◌, inl, inr, ◌≢◌}
use mathlib.Core.Bool.{Bool, true, false, cond}
use mathlib.Core.List.{List, [], ◌∷◌, map}
use Prim.Native.Nat.{ℕ, zero, suc, ◌+◌, ◌-◌, ◌≤◌, ◌<◌}
use native.Mathlib.Omega.{arith}
use lib.Dec.{ltb}
use lib.ListN.{get_or, length, set, length-map, length-set}
use lib.Seq.{get_or-set_same, get_or-set_other}
use borrow.Author.Tests.{lt-ltb, le-ltb}
use Rattle.bits.specs.Count.{bit, count}
use Rattle.bits.proofs.Bools.{below?, equal?}
use Rattle.routes.specs.declared.Route.{Route}
use Rattle.sail.specs.Level.{Level, chunks_of, entry, in_use}
use Rattle.sail.specs.Sound.{used}
use Rattle.sail_theory.specs.Render.{find}
use Rattle.sail_theory.specs.Calls.{grant, open_at}
use Rattle.sail_theory.proofs.owners.Chunks.{chunk-at, chunk-before, chunk-is, chunk-none, chunk-le, free-zero}
use Rattle.sail_theory.proofs.owners.GrantKeep.{grant-had, grant-new}
use Rattle.sail_owners.specs.Owners.{granted, open_from, NoneOwn}
use Rattle.sail_owners.proofs.Packs.{granted-had, granted-new}

unfoldable pub seen_from : ℕ → ℕ → ℕ
seen_from top o = cond (ltb (o - top) 2147483648) (o - top) 0

unfoldable pub sight : ℕ → List ℕ → List ℕ
sight top own = map (seen_from top) own

-- one owner
module _ (top : ℕ) where
  pub seen_none : seen_from top 0 ≡ 0
  unfolding seen_from
  seen_none = let e : 0 - top ≡ 0 = omega arith in rw e

  pub seen-own : (q : ℕ) → suc q < 2147483648 → seen_from top (top + suc q) ≡ suc q
  unfolding seen_from
  seen-own q h = let e : top + suc q - top ≡ suc q = omega arith in rw (e, lt-ltb (suc q) 2147483648 h)

  pub seen-is : (o q : ℕ) → seen_from top o ≡ suc q → (o ≡ top + suc q) × (suc q < 2147483648)
  unfolding seen_from
  seen-is o q e = go (below? (o - top) 2147483648)
    where
      go : (o - top < 2147483648) ⊎ (2147483648 ≤ o - top) → (o ≡ top + suc q) × (suc q < 2147483648)
      go (inl l) = let s : o - top ≡ suc q = rw (lt-ltb (o - top) 2147483648 l) at e in (omega arith, omega arith)
      go (inr l) = let s : ◌≡◌ {A = ℕ} 0 (suc q) = rw (le-ltb (o - top) 2147483648 l) at e in absurd (omega arith)

-- the owners of a pool
map-set : (f : ℕ → ℕ) (l : List ℕ) (i a : ℕ) → map f (set l i a) ≡ set (map f l) i (f a)
map-set f [] i a = refl
map-set f (x ∷ l) zero a = refl
map-set f (x ∷ l) (suc i) a = ap (λ (t : List ℕ). f x ∷ t) (map-set f l i a)

module _ (top : ℕ) where
  pub length-sight : (own : List ℕ) → length (sight top own) ≡ length own
  unfolding sight
  length-sight own = length-map own (seen_from top)

  pub get_d-sight : (own : List ℕ) (c : ℕ) → get_or (sight top own) c 0 ≡ seen_from top (get_or own c 0)
  unfolding sight
  get_d-sight [] c = sym (seen_none top)
  get_d-sight (o ∷ own) zero = refl
  get_d-sight (o ∷ own) (suc c) = get_d-sight own c

  pub sight-set : (own : List ℕ) (c q : ℕ) → suc q < 2147483648 → sight top (set own c (top + suc q)) ≡ set (sight top own) c (suc q)
  unfolding sight
  sight-set own c q h = map-set (seen_from top) own c (top + suc q) ∙ ap (set (map (seen_from top) own) c) (seen-own top q h)

  pub sight-free : (own : List ℕ) (c : ℕ) → get_or own c 0 ≡ 0 → get_or (sight top own) c 0 ≡ 0
  sight-free own c e = get_d-sight own c ∙ ap (seen_from top) e ∙ seen_none top

  pub sight-own : (own : List ℕ) (c q : ℕ) → suc q < 2147483648 → get_or own c 0 ≡ top + suc q → get_or (sight top own) c 0 ≡ suc q
  sight-own own c q h e = get_d-sight own c ∙ ap (seen_from top) e ∙ seen-own top q h

  pub sight-is : (own : List ℕ) (c q : ℕ) → get_or (sight top own) c 0 ≡ suc q → get_or own c 0 ≡ top + suc q
  sight-is own c q e = (seen-is top (get_or own c 0) q (sym (get_d-sight own c) ∙ e)).0

  -- where the table has no chunk, it sees none
  pub sight-none : (own : List ℕ) → NoneOwn top own → (c : ℕ) → get_or (sight top own) c 0 ≡ 0
  sight-none own n c = go (equal? (get_or (sight top own) c 0) 0)
    where
      go : (get_or (sight top own) c 0 ≡ 0) ⊎ (get_or (sight top own) c 0 ≢ 0) → get_or (sight top own) c 0 ≡ 0
      go (inl e) = e
      go (inr e) =
          let is : get_or (sight top own) c 0 ≡ suc (get_or (sight top own) c 0 - 1) = omega arith in
          let k = seen-is top (get_or own c 0) _ (sym (get_d-sight own c) ∙ is) in
          absurd (n.none c _ k.1 k.0)

  -- the chunk that hangs from q, found by its owner
  pub find-sight : (own : List ℕ) (q : ℕ) → suc q < 2147483648 → find own (top + suc q) ≡ find (sight top own) (suc q)
  find-sight own q h = go (below? c (length own))
    where
      see : List ℕ
      see = sight top own

      c : ℕ
      c = find (sight top own) (suc q)

      before : (j : ℕ) → j < find (sight top own) (suc q) → get_or own j 0 ≢ top + suc q
      before j l e = chunk-before (chunks_of (sight top own)) (suc q) j l (sight-own own j q h e)

      go : (find (sight top own) (suc q) < length own) ⊎ (length own ≤ find (sight top own) (suc q)) → find own (top + suc q) ≡ find (sight top own) (suc q)
      go (inl l) =
          chunk-is (chunks_of own) (top + suc q) c l
          (sight-is own c q (chunk-at (chunks_of see) (suc q) (omega (arith, l, length-sight own)))) before
      go (inr l) =
          chunk-none (chunks_of own) (top + suc q) (λ j i. before j (omega arith))
          ∙ omega (arith, l, length-sight own, chunk-le (chunks_of see) (suc q))

  -- a chunk granted
  sight-granted : (own : List ℕ) (q : ℕ) → suc q < 2147483648 → sight top (granted own (top + suc q)) ≡ grant (sight top own) (find own 0) q
  sight-granted own q h = go (below? (find own (top + suc q)) (length own))
    where
      go : (find own (top + suc q) < length own) ⊎ (length own ≤ find own (top + suc q))
          → sight top (granted own (top + suc q)) ≡ grant (sight top own) (find own 0) q
      go (inl l) =
          ap (sight top) (granted-had own (top + suc q) l)
          ∙ sym (grant-had (sight top own) (find own 0) q (omega (arith, l, length-sight own, find-sight own q h)))
      go (inr l) =
          ap (sight top) (granted-new own (top + suc q) l) ∙ sight-set own (find own 0) q h
          ∙ sym (grant-new (sight top own) (find own 0) q (omega (arith, l, length-sight own, find-sight own q h)))

  -- a chunk opened for a route
  pub sight-open : (v : Level) (own : List ℕ) (r : Route) → (ltb v.bits r.len ≡ true → suc (v.serving r.addr) < 2147483648)
      → sight top (open_from top v.bits (v.serving r.addr) own r) ≡ open_at v (sight top own) (find own 0) r
  unfolding open_from open_at
  sight-open v own r small = go (ltb v.bits r.len) refl
    where
      q : ℕ
      q = v.serving r.addr

      go : (b : Bool) → ltb v.bits r.len ≡ b → sight top (cond b (granted own (top + suc (v.serving r.addr))) own)
          ≡ cond b (grant (sight top own) (find own 0) (v.serving r.addr)) (sight top own)
      go true e = sight-granted own q (small e)
      go false e = refl

-- What became of a pool's owners: each is what it was, or its chunk was free and is now the table's own.
pub record Since (top : ℕ) (start own : List ℕ) : Type 0 where
  pub many : length own ≡ length start
  pub each : (c : ℕ) → (get_or own c 0 ≡ get_or start c 0) ⊎ ((get_or start c 0 ≡ 0) × (1 ≤ get_or own c 0) × (1 ≤ get_or (sight top own) c 0))

pub since-start : (top : ℕ) (start : List ℕ) → Since top start start
since-start top start = record { many = refl; each = λ c. inl refl }

module _ (top : ℕ) (start own : List ℕ) (s : Since top start own) where
  -- one chunk more
  since-set : (q : ℕ) → suc q < 2147483648 → find own 0 < length own → Since top start (set own (find own 0) (top + suc q))
  since-set q h l = record { many = length-set own (find own 0) (top + suc q) ∙ s.many; each = λ c. go c (equal? c (find own 0)) (s.each c) }
    where
      f : ℕ
      f = find own 0

      now : List ℕ
      now = set own (find own 0) (top + suc q)

      go : (c : ℕ) → (c ≡ find own 0) ⊎ (c ≢ find own 0)
          → (get_or own c 0 ≡ get_or start c 0) ⊎ ((get_or start c 0 ≡ 0) × (1 ≤ get_or own c 0) × (1 ≤ get_or (sight top own) c 0))
          → (get_or (set own (find own 0) (top + suc q)) c 0 ≡ get_or start c 0)
          ⊎ ((get_or start c 0 ≡ 0) × (1 ≤ get_or (set own (find own 0) (top + suc q)) c 0) × (1 ≤ get_or (sight top (set own (find own 0) (top + suc q))) c 0))
      go c (inr n) (inl e) = inl (get_or-set_other own f c (top + suc q) 0 n ∙ e)
      go c (inr n) (inr e) =
          let same = get_or-set_other own f c (top + suc q) 0 n in
          inr (e.0, omega (arith, same, e.1), omega (arith, get_d-sight top now c, get_d-sight top own c, ap (seen_from top) same, e.2))
      go c (inl n) (inr e) = absurd (omega (arith, e.1, free-zero own, ap (entry own) n))
      go c (inl n) (inl e) =
          let is : get_or (set own (find own 0) (top + suc q)) c 0 ≡ top + suc q = rw n (get_or-set_same own f (top + suc q) 0 l) in
          inr (omega (arith, e, free-zero own, ap (entry own) n), omega arith, omega (arith, sight-own top now c q h is))

  pub since-open : (p q : ℕ) (r : Route) → (p < r.len → suc q < 2147483648)
      → (p < r.len → length own ≤ find own (top + suc q) → find own 0 < length own) → Since top start (open_from top p q own r)
  unfolding open_from
  since-open p q r small space = go (below? p r.len) (below? (find own (top + suc q)) (length own))
    where
      go : (p < r.len) ⊎ (r.len ≤ p) → (find own (top + suc q) < length own) ⊎ (length own ≤ find own (top + suc q))
          → Since top start (cond (ltb p r.len) (granted own (top + suc q)) own)
      go (inr h) l = rw (le-ltb p r.len h) s
      go (inl h) (inl l) = rw (lt-ltb p r.len h, granted-had own (top + suc q) l) s
      go (inl h) (inr l) = rw (lt-ltb p r.len h, granted-new own (top + suc q) l) (since-set q (small h) (space h l))

  -- as many chunks are in use as were, and those of the table's own
  module _ (none : NoneOwn top start) where
    one_more : (c : ℕ) → bit (in_use (entry own) c) ≡ bit (in_use (entry start) c) + bit (in_use (entry (sight top own)) c)
    one_more c = go (s.each c)
      where
        go : (get_or own c 0 ≡ get_or start c 0) ⊎ ((get_or start c 0 ≡ 0) × (1 ≤ get_or own c 0) × (1 ≤ get_or (sight top own) c 0))
            → bit (ltb 0 (get_or own c 0)) ≡ bit (ltb 0 (get_or start c 0)) + bit (ltb 0 (get_or (sight top own) c 0))
        go (inl e) =
            let z : get_or (sight top own) c 0 ≡ 0
            = get_d-sight top own c ∙ ap (seen_from top) e ∙ sym (get_d-sight top start c) ∙ sight-none top start none c in
            rw (e, z) (omega arith)
        go (inr e) = rw (e.0, lt-ltb 0 (get_or own c 0) e.1, lt-ltb 0 (get_or (sight top own) c 0) e.2)

    counted : (n : ℕ) → count (in_use (entry own)) n ≡ count (in_use (entry start)) n + count (in_use (entry (sight top own))) n
    unfolding count
    counted zero = refl
    counted (suc n) = omega (arith, one_more n, counted n)

    pub used-since : used own ≡ used start + used (sight top own)
    used-since = rw (length-sight top own, s.many) (counted (length start))
