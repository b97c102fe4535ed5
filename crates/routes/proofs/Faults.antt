-- What each way through the tests of a record says of its fault.
use mathlib.Core.Path.{◌≡◌, ap, ◌∙◌}
use mathlib.Core.Bool.{Bool, true, false, not}
use mathlib.Core.List.{List}
use Prim.Native.Nat.{ℕ, ◌-◌, ◌^◌, ◌≤◌, ◌<◌}
use native.Mathlib.Nat.{pos_of_ne-zero}
use lib.Dec.{leb, eqb}
use borrow.Author.Tests.{lt-ltb, le-ltb, lt-leb, le-leb, eq-eqb, ne_eqb}
use Rattle.bits.specs.Slot.{cut}
use Rattle.routes.specs.Route.{key}
use Rattle.routes.specs.Record.{record_at}
use Rattle.routes.specs.Input.{proper_prefix, hop_fine, route_fault, in_order, fault_at}
use Rattle.routes.specs.declared.Route.{Route}

module _ (a l x : ℕ) (e : x ≡ l) where
  pub too_long : 32 < x → false ≡ proper_prefix a l
  unfolding proper_prefix
  too_long h = simp (lt-leb l 32 (rw e at h))

  pub tested : x ≤ 32 → a < 2 ^ 32 → (y : ℕ) → y ≡ cut x a → eqb y a ≡ proper_prefix a l
  unfolding proper_prefix
  tested h u y q = simp (le-leb l 32 (rw e at h), lt-ltb a (2 ^ 32) u, ← e, ← q)

pub hop-zero : (h : ℕ) → h ≡ 0 → false ≡ hop_fine h
unfolding hop_fine
hop-zero h e = simp e

pub hop-tested : (h : ℕ) → (h ≡ 0 → ⊥) → leb h 32767 ≡ hop_fine h
unfolding hop_fine
hop-tested h e = simp (le-leb 1 h (pos_of_ne-zero e))

module _ (r : Route) (b : Bool) (e : b ≡ proper_prefix r.addr r.len) where
  pub bad_prefix : not b ≡ true → 3 ≡ route_fault r
  unfolding route_fault
  bad_prefix t = simp (← e, t)

  module _ (t : not b ≡ false) (h : Bool) (q : h ≡ hop_fine r.hop) where
    pub bad_hop : not h ≡ true → 4 ≡ route_fault r
    unfolding route_fault
    bad_hop u = simp (← e, t, ← q, u)

    pub bad-mark : not h ≡ false → 1 < r.mark → 10 ≡ route_fault r
    unfolding route_fault
    bad-mark u z = simp (← e, t, ← q, u, lt-ltb 1 r.mark z)

    pub no-fault : not h ≡ false → r.mark ≤ 1 → 0 ≡ route_fault r
    unfolding route_fault
    no-fault u z = simp (← e, t, ← q, u, le-ltb 1 r.mark z)

module _ (s : List ℕ) (k : ℕ) (r : Route) (e : r ≡ record_at s k) (f : ℕ) (q : f ≡ route_fault r) where
  is-fault : f ≡ route_fault (record_at s k)
  is-fault = q ∙ ap route_fault e

  pub by_itself : (f ≡ 0 → ⊥) → f ≡ fault_at s k
  unfolding fault_at
  by_itself h = simp (← is-fault, ne_eqb f 0 h)

  pub the-first : f ≡ 0 → k ≡ 0 → 0 ≡ fault_at s k
  unfolding fault_at in_order
  the-first h z = simp (← is-fault, eq-eqb f 0 h, eq-eqb k 0 z)

  pub rising : (a b : ℕ) → a ≡ key (record_at s (k - 1)) → b ≡ key (record_at s k) → f ≡ 0 → (k ≡ 0 → ⊥) → a < b → 0 ≡ fault_at s k
  unfolding fault_at in_order
  rising a b p p' h z o = simp (← is-fault, eq-eqb f 0 h, ne_eqb k 0 z, ← p, ← p', lt-ltb a b o)

  pub not-rising : (a b : ℕ) → a ≡ key (record_at s (k - 1)) → b ≡ key (record_at s k) → f ≡ 0 → (k ≡ 0 → ⊥) → b ≤ a → 10 ≡ fault_at s k
  unfolding fault_at in_order
  not-rising a b p p' h z o = simp (← is-fault, eq-eqb f 0 h, ne_eqb k 0 z, ← p, ← p', le-ltb a b o)
