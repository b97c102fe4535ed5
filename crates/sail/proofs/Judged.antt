-- What a lookup says, in a table sound or not: what stands beside the case that holds (`Lookup`, specs/Cases.antt), and nothing else. A cell is a
-- leaf, a chunk's number, or neither, so each step of the walk has three ways on.
use mathlib.Core.Path.{◌≡◌, refl, ◌∙◌}
use mathlib.Core.Logic.{◌⊎◌, inl, inr}
use Prim.Native.Nat.{ℕ, ◌≤◌, ◌<◌}
use native.Mathlib.Omega.{arith}
use lib.ListN.{length}
use borrow.Author.Tests.{le-leb, lt-leb, eq-eqb}
use Rattle.bits.proofs.Bools.{below?}
use Rattle.routes.specs.Said.{Said, refused}
use Rattle.sail.specs.Lent.{Lent}
use Rattle.sail.specs.Sizes.{sizes_fault, Sized}
use Rattle.sail.specs.Walk.{leaf_said, step_said, one_of, shut, walk_said, found_said, lookup_said}
use Rattle.sail.specs.Reads.{Leads}
use Rattle.sail.specs.declared.geometry.Geometry.{Geometry}
use Rattle.sail.specs.declared.table.Table.{Table}
use Rattle.sail.proofs.Fitting.{Fault, fault-is, none_is}
use Rattle.sail.specs.Cases.{Sizing, Stray, v1, v2, v3, Lookup}

-- one step of the walk
module _ (n m v : ℕ) (on : Said) where
  at_leaf : 32768 ≤ v → step_said n (one_of m) v on ≡ leaf_said n v
  unfolding step_said
  at_leaf h = rw (le-leb 32768 v h)

  at-chunk : Leads v m → step_said n (one_of m) v on ≡ on
  unfolding step_said
  at-chunk h = rw (lt-leb 32768 v h.low, le-leb 1 v h.one, le-leb v m h.last)

  at-stray : Stray v m → step_said n (one_of m) v on ≡ refused 5
  unfolding step_said
  at-stray h = go h.none
    where
      go : (v ≡ 0) ⊎ (m < v) → step_said n (one_of m) v on ≡ refused 5
      go (inl e) = rw (lt-leb 32768 v h.low, lt-leb 1 v (omega arith))
      go (inr l) = rw (lt-leb 32768 v h.low, le-leb 1 v (omega arith), lt-leb v m l)

-- a leaf, a chunk's number, or neither
by-cell : (v m : ℕ) (P : Type 0) → (32768 ≤ v → P) → (Stray v m → P) → (Leads v m → P) → P
by-cell v m P leaf stray leads = go (below? v 32768) (below? v 1) (below? m v)
  where
    go : (v < 32768) ⊎ (32768 ≤ v) → (v < 1) ⊎ (1 ≤ v) → (m < v) ⊎ (v ≤ m) → P
    go (inr h) x y = leaf h
    go (inl h) (inl x) y = stray (record { low = h; none = inl (omega arith) })
    go (inl h) (inr x) (inl y) = stray (record { low = h; none = inr y })
    go (inl h) (inr x) (inr y) = leads (record { low = h; one = x; last = y })

third-leaf : (v : ℕ) → 32768 ≤ v → step_said 3 shut v (refused 5) ≡ leaf_said 3 v
unfolding step_said
third-leaf v h = rw (le-leb 32768 v h)

third-low : (v : ℕ) → v < 32768 → step_said 3 shut v (refused 5) ≡ refused 5
unfolding step_said
third-low v h = rw (lt-leb 32768 v h)

module _ (t : Table) (l : Lent) (a : ℕ) where
  abbrev g : Geometry
  g = t.geometry

  abbrev many2 : ℕ
  many2 = length l.own2

  abbrev many3 : ℕ
  many3 = length l.own3

  sized-said : Sized g l → lookup_said t l a
      ≡ step_said 1 (one_of many2) (v1 t l a) (step_said 2 (one_of many3) (v2 t l a) (step_said 3 shut (v3 t l a) (refused 5)))
  unfolding lookup_said found_said walk_said
  sized-said z = rw (eq-eqb (sizes_fault g l) 0 (none_is g l z))

  sizing-said : {n m : ℕ} → Sizing t l n → Fault g l m → sizes_fault g l ≡ m → lookup_said t l a ≡ refused n
  unfolding lookup_said
  sizing-said (Sizing.limits h) (Fault.none z) e = absurd (h z.valid)
  sizing-said (Sizing.limits h) (Fault.limits k) e = rw e
  sizing-said (Sizing.limits h) (Fault.size v k) e = absurd (h v)
  sizing-said (Sizing.size v h) (Fault.none z) e = absurd (h z)
  sizing-said (Sizing.size v h) (Fault.limits k) e = absurd (k v)
  sizing-said (Sizing.size v h) (Fault.size w k) e = rw e

  two-chunks : Sized g l → Leads (v1 t l a) many2 → Leads (v2 t l a) many3 → lookup_said t l a ≡ step_said 3 shut (v3 t l a) (refused 5)
  two-chunks z k j = sized-said z ∙ at-chunk 1 many2 (v1 t l a) _ k ∙ at-chunk 2 many3 (v2 t l a) _ j

  pub lookup-only : (s : Said) → Lookup t l a s → lookup_said t l a ≡ s
  lookup-only s (Lookup.sizing n h) = sizing-said h (fault-is g l) refl
  lookup-only s (Lookup.first_leaf z h) = sized-said z ∙ at_leaf 1 many2 (v1 t l a) _ h
  lookup-only s (Lookup.first_stray z h) = sized-said z ∙ at-stray 1 many2 (v1 t l a) _ h
  lookup-only s (Lookup.second_leaf z k h) = sized-said z ∙ at-chunk 1 many2 (v1 t l a) _ k ∙ at_leaf 2 many3 (v2 t l a) _ h
  lookup-only s (Lookup.second_stray z k h) = sized-said z ∙ at-chunk 1 many2 (v1 t l a) _ k ∙ at-stray 2 many3 (v2 t l a) _ h
  lookup-only s (Lookup.third_is_leaf z k j h) = two-chunks z k j ∙ third-leaf (v3 t l a) h
  lookup-only s (Lookup.third_no_leaf z k j h) = two-chunks z k j ∙ third-low (v3 t l a) h

  pub lookup-judged : Lookup t l a (lookup_said t l a)
  lookup-judged = go (fault-is g l)
    where
      Its : Type 0
      Its = Lookup t l a (lookup_said t l a)

      told : {s : Said} → Lookup t l a s → Its
      told c = rw (lookup-only _ c) c

      last : Sized g l → Leads (v1 t l a) many2 → Leads (v2 t l a) many3 → (v3 t l a < 32768) ⊎ (32768 ≤ v3 t l a) → Its
      last z k j (inl h) = told (Lookup.third_no_leaf z k j h)
      last z k j (inr h) = told (Lookup.third_is_leaf z k j h)

      second : Sized g l → Leads (v1 t l a) many2 → Its
      second z k =
          by-cell (v2 t l a) many3 Its (λ h. told (Lookup.second_leaf z k h)) (λ h. told (Lookup.second_stray z k h))
          (λ j. last z k j (below? (v3 t l a) 32768))

      go : {m : ℕ} → Fault g l m → Its
      go (Fault.limits h) = told (Lookup.sizing 1 (Sizing.limits h))
      go (Fault.size v h) = told (Lookup.sizing 2 (Sizing.size v h))
      go (Fault.none z) = by-cell (v1 t l a) many2 Its (λ h. told (Lookup.first_leaf z h)) (λ h. told (Lookup.first_stray z h)) (second z)
