-- Owners that change where no long route is leave the counts of the level below: a chunk that is opened or closed there has none to count.
-- Said of any level; then of a chunk that is opened for a route that comes, and of those that are closed.
use mathlib.Core.Path.{◌≡◌, sym, ◌∙◌, ap}
use mathlib.Core.Logic.{◌⊎◌, inl, inr, ◌≢◌}
use mathlib.Core.Bool.{true, false}
use mathlib.Core.List.{List}
use Prim.Native.Nat.{ℕ, suc, ◌+◌, ◌-◌, ◌*◌, ◌/◌, ◌%◌, ◌^◌, ◌≤◌, ◌<◌}
use native.Mathlib.Omega.{arith}
use lib.Dec.{ltb}
use lib.ListN.{get_or, set}
use lib.Seq.{get_or-set_same, get_or-set_other}
use borrow.Author.Tests.{ltb-true, ltb-false, lt-ltb, le-ltb}
use Rattle.bits.specs.Slot.{slot}
use Rattle.bits.proofs.Bools.{decided, below?, equal?}
use Rattle.standing.specs.Cells.{long}
use Rattle.routes.specs.declared.Route.{Route}
use Rattle.counts.specs.Counts.{how_many}
use Rattle.counts.proofs.Many.{many-none}
use Rattle.sail.specs.Level.{Level, Chunks, deep, chunks_of, below}
use Rattle.sail_theory.specs.Calls.{open_at, keep}
use Rattle.standing.proofs.TwoLevels.{short-down}
use Rattle.sail_theory.proofs.places.Places.{part_up}
use Rattle.sail_theory.proofs.owners.StillFit.{Closed}
use Rattle.sail_theory.proofs.owners.GrantKeep.{keep-closed}
use Rattle.sail_theory.proofs.owners.OpenAt.{OpenReady, length-open, open-short, open-had, open-new}
use Rattle.sail.specs.Sound.{Counted}

-- from k to k' the owner of c stays; or c is opened or closed, and hangs from a cell that no longer route has
pub data Turned (rs : List Route) (v : Level) (k k' : Chunks) (c : ℕ) : Type 0 where
  stayed : k'.own c ≡ k.own c → Turned rs v k k' c
  came : (q : ℕ) → k.own c ≡ 0 → k'.own c ≡ suc q → deep rs v q ≡ false → Turned rs v k k' c
  went : (q : ℕ) → k.own c ≡ suc q → k'.own c ≡ 0 → deep rs v q ≡ false → Turned rs v k k' c

module _ (rs : List Route) (v : Level) (p : ℕ) (h : v.bits ≤ p) (u : p ≤ 32) where
  abbrev d : ℕ
  d = p - v.bits

  -- a place in a chunk that hangs from a cell that is not deep counts none
  none-under : (k : Chunks) (x q : ℕ) → k.own (x / 2 ^ d) ≡ suc q → deep rs v q ≡ false → how_many rs p ((below v k p).at x) ≡ 0
  none-under k x q o n =
      let e : k.own (x / 2 ^ d) - 1 ≡ q = omega arith in
      many-none rs p _ (short-down rs v.bits p _ h u (ap (long rs v.bits) (part_up v k p x ∙ ap v.at e) ∙ n))

  pub owners-counted : (k k' : Chunks) → k'.many ≡ k.many → ((c : ℕ) → Turned rs v k k' c) → (counts : List ℕ)
      → Counted rs (below v k p) counts → Counted rs (below v k' p) counts
  owners-counted k k' same turn counts c = record {
    true_there = λ q l e. there q (rw same at l) e (turn (q / 2 ^ d));
    blank = λ q l e. blank q (rw same at l) e (turn (q / 2 ^ d));
  }
    where
      there : (q : ℕ) → q < (below v k p).places → (below v k' p).live q ≡ true → Turned rs v k k' (q / 2 ^ d)
          → get_or counts q 0 ≡ how_many rs p ((below v k' p).at q)
      there q l e (stayed y) =
          c.true_there q l (sym (ap (ltb 0) y) ∙ e) ∙ ap (λ (o : ℕ). how_many rs p (v.at (o - 1) * 2 ^ d + q % 2 ^ d)) (sym y)
      there q l e (came x y z n) = c.blank q l (le-ltb 0 (k.own (q / 2 ^ d)) (omega arith)) ∙ sym (none-under k' q x z n)
      there q l e (went x y z n) = absurd (omega (arith, ltb-true 0 (k'.own (q / 2 ^ d)) e))

      blank : (q : ℕ) → q < (below v k p).places → (below v k' p).live q ≡ false → Turned rs v k k' (q / 2 ^ d) → get_or counts q 0 ≡ 0
      blank q l e (stayed y) = c.blank q l (sym (ap (ltb 0) y) ∙ e)
      blank q l e (came x y z n) = absurd (omega (arith, ltb-false 0 (k'.own (q / 2 ^ d)) e))
      blank q l e (went x y z n) = c.true_there q l (lt-ltb 0 (k.own (q / 2 ^ d)) (omega arith)) ∙ none-under k q x y n

-- a chunk is opened for a route that comes: no longer route had its cell
module _ (rs : List Route) (r : Route) (v : Level) (own : List ℕ) (c : ℕ) (w : OpenReady rs r v own c) where
  open-turned : (j : ℕ) → Turned rs v (chunks_of own) (chunks_of (open_at v own c r)) j
  open-turned j = go (below? v.bits r.len) (decided (long rs v.bits (slot v.bits r.addr)))
    where
      own' : List ℕ
      own' = open_at v own c r

      same : own' ≡ own → Turned rs v (chunks_of own) (chunks_of own') j
      same e = stayed (ap (λ (o : List ℕ). get_or o j 0) e)

      go : (v.bits < r.len) ⊎ (r.len ≤ v.bits)
          → (long rs v.bits (slot v.bits r.addr) ≡ true) ⊎ (long rs v.bits (slot v.bits r.addr) ≡ false)
          → Turned rs v (chunks_of own) (chunks_of own') j
      go (inr l) e = same (open-short rs r v own c w l)
      go (inl l) (inl e) = same (open-had rs r v own c w e)
      go (inl l) (inr e) = at (equal? j c)
        where
          longer : ltb v.bits r.len ≡ true
          longer = lt-ltb v.bits r.len l

          is : own' ≡ set own c (suc (v.serving r.addr))
          is = (open-new rs r v own c w l e).1

          at : (j ≡ c) ⊎ (j ≢ c) → Turned rs v (chunks_of own) (chunks_of own') j
          at (inl y) =
              let free = w.space longer e in
              came (v.serving r.addr) (rw y free.1)
              (ap (λ (o : List ℕ). get_or o j 0) is ∙ rw y (get_or-set_same own c (suc (v.serving r.addr)) 0 free.0))
              (ap (long rs v.bits) (w.served longer).stands ∙ e)
          at (inr y) = stayed (ap (λ (o : List ℕ). get_or o j 0) is ∙ get_or-set_other own c j (suc (v.serving r.addr)) 0 y)

  pub open-counted : (p : ℕ) → v.bits ≤ p → p ≤ 32 → (counts : List ℕ) → Counted rs (below v (chunks_of own) p) counts
      → Counted rs (below v (chunks_of (open_at v own c r)) p) counts
  open-counted p h u = owners-counted rs v p h u (chunks_of own) (chunks_of (open_at v own c r)) (length-open v own c r) open-turned

-- what is closed hung from a cell that no longer route has
closed-turned : (rs : List Route) (v : Level) (k k' : Chunks) → Closed rs v k k' → (c : ℕ) → Turned rs v k k' c
closed-turned rs v k k' z c = go (equal? (k.own c) 0) (equal? (k'.own c) 0) (decided (deep rs v (k.own c - 1)))
  where
    -- the owner that is left is the one that was
    left : k'.own c ≢ 0 → Turned rs v k k' c
    left n = let o : k'.own c ≡ suc (k'.own c - 1) = omega (arith, n) in stayed (o ∙ sym (z.was c (k'.own c - 1) o).0)

    go : (k.own c ≡ 0) ⊎ (k.own c ≢ 0) → (k'.own c ≡ 0) ⊎ (k'.own c ≢ 0) → (deep rs v (k.own c - 1) ≡ true) ⊎ (deep rs v (k.own c - 1) ≡ false)
        → Turned rs v k k' c
    go a (inr n) e = left n
    go (inl a) (inl b) e = stayed (b ∙ sym a)
    go (inr a) (inl b) (inl e) =
        let o : k.own c ≡ suc (k.own c - 1) = omega (arith, a) in
        absurd (omega (arith, z.stays c (k.own c - 1) o e))
    go (inr a) (inl b) (inr e) = went (k.own c - 1) (omega (arith, a)) b e

pub keep-counted : (rs : List Route) (v : Level) (own : List ℕ) (p : ℕ) → v.bits ≤ p → p ≤ 32 → (counts : List ℕ)
    → Counted rs (below v (chunks_of own) p) counts → Counted rs (below v (chunks_of (keep rs v own)) p) counts
keep-counted rs v own p h u =
    let z = keep-closed rs v own in
    owners-counted rs v p h u (chunks_of own) (chunks_of (keep rs v own)) z.many (closed-turned rs v (chunks_of own) (chunks_of (keep rs v own)) z)
