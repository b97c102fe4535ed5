-- A chunk beside its plan or 0, and a pool chunk by chunk.
use mathlib.Core.Path.{◌≡◌, refl, sym, ◌∙◌, ap}
use mathlib.Core.Bool.{Bool}
use mathlib.Core.List.{List}
use Prim.Native.Nat.{ℕ, ◌+◌, ◌-◌, ◌*◌, ◌^◌, ◌≤◌, ◌<◌}
use native.Mathlib.Omega.{arith}
use native.Mathlib.Nat.{add-mul, one-mul, mul-le-mul}
use lib.Arith.{digits_div, digits_mod}
use lib.ListN.{length, get_or, take, drop}
use lib.Pow.{pow_mono}
use lib.Seq.{get_or-take, get_or-drop}
use borrow.Author.Tests.{lt-ltb}
use borrow.Rule.Slice.PartMut.{mid_len}
use Rattle.bits.specs.Count.{count}
use Rattle.bits.proofs.Counts.{count-ext}
use Rattle.routes.specs.declared.Route.{Route}
use Rattle.plan.specs.Plan.{plan}
use Rattle.sail.specs.Level.{live_in, part_of, entry}
use Rattle.sail_paint.specs.Paint.{stands_for}
use Rattle.sail_paint.proofs.Chunks.{chunk_part, pool-chunk}
use Rattle.repair_leaves.specs.Leaves.{off_plan, off_zero, off_at, CountIs, DiffBlockReady, DiffChunkReady, DiffPoolReady}
use Rattle.repair_leaves.proofs.Counts.{count_add}
use Rattle.repair_leaves.proofs.Blocks.{counted-as}

module _ (ws par : List ℕ) (l p : ℕ) (up : List ℕ) (e o : ℕ) (cells : List ℕ) (c : ℕ) (want : List ℕ) (h : DiffChunkReady ws par l p up e o cells c want) where
  -- the chunk begins at a and has n cells
  module _ (a n : ℕ) (begins : a ≡ c * 2 ^ (p - l)) (size : n ≡ 1 * 2 ^ (p - l)) where
    is-size : a + n - a ≡ 2 ^ (p - l)
    is-size = let z = one-mul (2 ^ (p - l)) in omega arith

    inside : a + n ≤ length cells
    inside = let z = one-mul (2 ^ (p - l)) in omega (arith, h.chunk.inside)

    pub free-counted : (rs : List Route) → o ≡ 0 → (r : ℕ)
        → CountIs r (λ j. off_zero (get_or (take (a + n - a) (drop a cells)) j 0)) (length (take (a + n - a) (drop a cells)))
        → CountIs r (λ j. off_at rs p (live_in (λ _. o) (p - l)) (part_of (λ _. o) (p - l) (stands_for e up)) (entry cells) (c * 2 ^ (p - l) + j)) (2 ^ (p - l))
    free-counted rs z r k =
        counted-as r _ _ _ (2 ^ (p - l)) (mid_len a (a + n) cells inside ∙ is-size)
        (λ j u.
        let y : get_or (take (a + n - a) (drop a cells)) j 0 ≡ get_or cells (c * 2 ^ (p - l) + j) 0
        = get_or-take (a + n - a) (drop a cells) j 0 (rw is-size u) ∙ get_or-drop a cells j 0 ∙ ap (λ (x : ℕ). get_or cells (x + j) 0) begins in
        rw (y, z)) k

    pub used-counted : (rs : List Route) → (o ≡ 0 → ⊥) → (i base : ℕ) → i ≡ stands_for e up (o - 1) → base ≡ i * 2 ^ (p - l) → (r : ℕ)
        → CountIs r (λ j. off_plan (plan rs p (base + j)) (get_or cells (a + j) 0)) (a + n - a)
        → CountIs r (λ j. off_at rs p (live_in (λ _. o) (p - l)) (part_of (λ _. o) (p - l) (stands_for e up)) (entry cells) (c * 2 ^ (p - l) + j)) (2 ^ (p - l))
    used-counted rs some i base cell from r k =
        counted-as r _ _ _ (2 ^ (p - l)) is-size
        (λ j u. rw (lt-ltb 0 o (omega (arith, some)), digits_mod c u, from, cell, begins)) k

    pub chunk-block : (some : o ≡ 0 → ⊥) (i base : ℕ) → i ≡ stands_for e up (o - 1) → base ≡ i * 2 ^ (p - l)
        → DiffBlockReady ws par l i p base cells a (a + n) want
    chunk-block some i base cell from = record {
      part = chunk_part ws par 0 l p up e o cells c h.chunk some i a base n cell begins size from;
      small = omega (arith, is-size, pow_mono h.chunk.levels.small);
      room = h.room;
    }

module _ (ws par : List ℕ) (l p : ℕ) (up : List ℕ) (e : ℕ) (own cells want : List ℕ) (h : DiffPoolReady ws par l p up e own cells want) where
  abbrev d : ℕ
  d = p - l

  small : 2 ^ (p - l) ≤ 1024
  small = omega (arith, pow_mono h.pool.levels.small)

  pub chunk_of : (room : List ℕ) → length room ≡ 1024 → (c o : ℕ) → c < length own → (o ≡ get_or own c 0) × (o < 4294967296)
      → DiffChunkReady ws par l p up e o cells c room
  chunk_of room r c o k is = record { chunk = pool-chunk ws par 0 l p up e own cells cells c o h.pool refl k is; room = r }

  -- so many cells are passed after c chunks
  step : (c : ℕ) → (c + 1) * 2 ^ (p - l) ≡ c * 2 ^ (p - l) + 2 ^ (p - l)
  step c = add-mul c 1 (2 ^ (p - l)) ∙ ap (λ (x : ℕ). c * 2 ^ (p - l) + x) (one-mul (2 ^ (p - l)))

  pub pool-fits : (m c r : ℕ) → m ≤ c * 2 ^ (p - l) → c < length own → r ≤ 2 ^ (p - l) → (m + r < 2 ^ 64) × (m + r ≤ (c + 1) * 2 ^ (p - l))
  pool-fits m c r a b k =
      let y : c ≤ 4096 = omega (arith, h.pool.few) in
      let z = mul-le-mul y small in
      (omega (arith, small), omega (arith, step c))

  module _ (rs : List Route) where
    abbrev off : ℕ → Bool
    off = off_at rs p (live_in (entry own) d) (part_of (entry own) d (stands_for e up)) (entry cells)

    pub pool-more : (m c o r : ℕ) → (o ≡ get_or own c 0) × (o < 4294967296) → m ≡ count off (c * 2 ^ (p - l))
        → CountIs r (λ j. off_at rs p (live_in (λ _. o) (p - l)) (part_of (λ _. o) (p - l) (stands_for e up)) (entry cells) (c * 2 ^ (p - l) + j)) (2 ^ (p - l))
        → m + r ≡ count off ((c + 1) * 2 ^ (p - l))
    pool-more m c o r is e k =
        let x : r ≡ count (λ j. off (c * 2 ^ (p - l) + j)) (2 ^ (p - l)) =
        k.is ∙ count-ext _ (λ j. off (c * 2 ^ (p - l) + j)) (2 ^ (p - l)) (λ j u. rw (digits_div c u, ← is.0)) in
        rw (step c) (omega (arith, count_add off (c * 2 ^ (p - l)) (2 ^ (p - l))))

    pub pool-all : (m c : ℕ) → c ≤ length own → length own ≤ c → m ≤ c * 2 ^ (p - l) → m ≡ count off (c * 2 ^ (p - l)) → CountIs m off (length cells)
    pool-all m c u k a e =
        let z : c ≡ length own = omega arith in
        let y : c * 2 ^ (p - l) ≡ length cells = ap (λ (x : ℕ). x * 2 ^ (p - l)) z ∙ sym h.pool.chunks in
        record { is = e ∙ ap (count off) y; few = omega arith }

    pub pool-start : 0 ≡ count off (0 * 2 ^ (p - l))
    unfolding count
    pool-start = let z : 0 * 2 ^ (p - l) ≡ 0 = omega arith in rw z
