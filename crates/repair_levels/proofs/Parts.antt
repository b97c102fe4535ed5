-- At how many places the cells of a level differ from what is asked, by its parts: places where a leaf is asked for or 0, counted place by place;
-- and places from which a chunk hangs, counted chunk by chunk, for these match one to one. Said of any level.
use mathlib.Core.Path.{◌≡◌, ◌∙◌, ap}
use mathlib.Core.Logic.{◌⊎◌, inl, inr}
use mathlib.Core.Bool.{Bool, true, false, not, ◌&&◌, cond}
use mathlib.Core.List.{List}
use Prim.Native.Nat.{ℕ, zero, suc, ◌+◌, ◌-◌, ◌<◌}
use native.Mathlib.Omega.{arith}
use lib.Dec.{eqb, ltb}
use lib.ListN.{length, get_or}
use borrow.Author.Tests.{ltb-true, lt-ltb, ne_eqb}
use Rattle.bits.specs.Count.{bit, count}
use Rattle.bits.proofs.Counts.{count-ext, Matched, count-matched}
use Rattle.bits.proofs.Tabs.{get_d_tabulate}
use Rattle.bits.proofs.Bools.{decided, both, and_split}
use Rattle.standing.specs.Cells.{best}
use Rattle.routes.specs.declared.Route.{Route}
use Rattle.plan.specs.Plan.{plan}
use Rattle.sail.specs.Level.{Level, Chunks, chunk_for, deep, entry}
use Rattle.sail_theory.specs.Render.{shown, block, pool, Fits}
use Rattle.sail_theory.proofs.owners.Chunks.{chunk-at}
use Rattle.sail_theory.proofs.places.Pools.{shown-node, shown-leaf}
use Rattle.repair_theory.specs.Repair.{differ}
use Rattle.repair_leaves.specs.Leaves.{off_at}
use Rattle.repair_levels.specs.Levels.{off_name}

-- a test that is one of two, and never both
count-sum : (f g h : ℕ → Bool) → ((q : ℕ) → bit (f q) ≡ bit (g q) + bit (h q)) → (n : ℕ) → count f n ≡ count g n + count h n
unfolding count
count-sum f g h e zero = omega arith
count-sum f g h e (suc n) = omega (arith, e n, count-sum f g h e n)

module _ (rs : List Route) (v : Level) (k : Chunks) (f : Fits rs v k) (cells : List ℕ) (size : length cells ≡ v.places) where
  -- what is asked at a place, and whether the cell there holds something else
  abbrev due : ℕ → ℕ
  due q = cond (v.live q) (shown rs v k q) 0

  abbrev apart : ℕ → Bool
  apart q = not (eqb (get_or cells q 0) (due q))

  abbrev plain : ℕ → Bool
  plain q = off_at rs v.bits v.live v.at (entry cells) q

  -- the cell is to name a chunk, and does not name it
  abbrev unnamed : ℕ → Bool
  unnamed q = v.live q && (deep rs v q && apart q)

  split : (q : ℕ) → bit (apart q) ≡ bit (plain q) + bit (unnamed q)
  unfolding plan
  split q = go (decided (v.live q)) (decided (deep rs v q))
    where
      go : (v.live q ≡ true) ⊎ (v.live q ≡ false) → (deep rs v q ≡ true) ⊎ (deep rs v q ≡ false) → bit (apart q) ≡ bit (plain q) + bit (unnamed q)
      go (inr u) d = rw u (omega arith)
      go (inl u) (inl d) = rw (u, d) (omega arith)
      go (inl u) (inr d) = rw (u, d, shown-leaf rs v k q d, ne_eqb (32768 + best rs v.bits (v.at q)) 0 (λ e. omega arith)) (omega arith)

  matched : Matched unnamed (off_name k.own (entry cells)) (λ q. chunk_for k (suc q)) (λ c. k.own c - 1) v.places k.many
  matched = record { there = there; back = back }
    where
      there : (q : ℕ) → q < v.places → unnamed q ≡ true
          → (chunk_for k (suc q) < k.many) × (off_name k.own (entry cells) (chunk_for k (suc q)) ≡ true) × (k.own (chunk_for k (suc q)) - 1 ≡ q)
      there q l e =
          let a = and_split (v.live q) (deep rs v q && apart q) e in
          let b = and_split (deep rs v q) (apart q) a.1 in
          let h = f.has q l a.0 b.0 in
          let o = chunk-at k (suc q) h in
          let z : suc q - 1 ≡ q = omega arith in
          let w : not (eqb (get_or cells q 0) (suc (chunk_for k (suc q)))) ≡ true = rw (a.0, shown-node rs v k q b.0) at b.1 in
          (h, rw (o, z) (both (lt-ltb 0 (suc q) (omega arith)) w), rw o z)

      back : (c : ℕ) → c < k.many → off_name k.own (entry cells) c ≡ true
          → (k.own c - 1 < v.places) × (unnamed (k.own c - 1) ≡ true) × (chunk_for k (suc (k.own c - 1)) ≡ c)
      back c l e =
          let a = and_split (ltb 0 (k.own c)) _ e in
          let z : k.own c ≡ suc (k.own c - 1) = omega (arith, ltb-true 0 (k.own c) a.0) in
          let y = f.lies c (k.own c - 1) l z in
          let w = f.once c (k.own c - 1) l z in
          (y.0, both y.1 (both y.2 (rw (y.1, shown-node rs v k (k.own c - 1) y.2, w) a.1)), w)

  pub differ-parts : differ cells (pool rs v k) ≡ count plain v.places + count (off_name k.own (entry cells)) k.many
  unfolding differ block
  differ-parts =
      count-ext _ apart (length cells) (λ q l. ap (λ (x : ℕ). not (eqb (get_or cells q 0) x)) (get_d_tabulate v.places _ q 0 (rw size at l)))
      ∙ ap (count apart) size
      ∙ count-sum apart plain unnamed split v.places
      ∙ ap (λ (n : ℕ). count plain v.places + n) (count-matched unnamed (off_name k.own (entry cells)) _ _ v.places k.many matched)
