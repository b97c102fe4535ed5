-- The chunks of a pool that hang from cells which meet a prefix, painted one by one.
use mathlib.Core.Path.{◌≡◌, refl, sym, ap, ◌∙◌}
use mathlib.Core.Logic.{◌⊎◌, inl, inr}
use mathlib.Core.Bool.{Bool, true, false, not, ◌&&◌, and-true, and-false}
use mathlib.Core.List.{List}
use Prim.Native.Nat.{ℕ, ◌+◌, ◌-◌, ◌*◌, ◌/◌, ◌%◌, ◌^◌, ◌≤◌, ◌<◌}
use native.Mathlib.Nat.{div-add-mod', one-mul, mul-le-mul_right, add-mul}
use native.Mathlib.Omega.{arith}
use lib.Dec.{eqb, ltb}
use lib.ListN.{length, get_or}
use borrow.Author.Tests.{not-true, not-false, eqb-true, eqb-false, lt-ltb, le-ltb, ltb-true}
use Rattle.bits.proofs.Bools.{decided, both, and_split, same}
use Rattle.routes.specs.declared.Route.{Route}
use Rattle.buffers.specs.Fill.{between}
use Rattle.sail.specs.Level.{part_of, entry}
use Rattle.sail_theory.proofs.places.Places.{chunk-lt}
use Rattle.sail_paint.specs.Stale.{meets}
use Rattle.sail_paint.specs.Paint.{overpainted, stands_for, stale_in, stale_of, Above, Part, ChunkOf, Pool}
use Rattle.sail_paint.proofs.Places.{block-is}
use Rattle.sail_paint.proofs.Overs.{length_over, over_none, over-ext, over-more}

-- the chunks before c of a pool are painted
pub record PaintedTo (rs : List Route) (a len l p d e : ℕ) (up own cells₀ : List ℕ) (c : ℕ) (cells : List ℕ) : Type 0 where
  pub is : cells ≡ overpainted rs p (λ q. ltb (q / 2 ^ d) c && stale_in a len l d (stands_for e up) (entry own) q) (part_of (entry own) d (stands_for e up)) cells₀

module _ (rs : List Route) (a len l p d e : ℕ) (up : List ℕ) where
  -- the cell that a place of the level above stands for
  abbrev at : ℕ → ℕ
  at = stands_for e up

  -- one chunk
  module _ (cells : List ℕ) (c o : ℕ) where
    abbrev Wanted : List ℕ
    Wanted = overpainted rs p (stale_of a len l d at c o) (part_of (λ _. o) d at) cells

    -- free, or it hangs from a cell that does not meet the prefix: it stays
    pub chunk-free : o ≡ 0 → cells ≡ Wanted
    chunk-free z = over_none rs p _ _ cells (λ q k. rw z (and-false (eqb (q / 2 ^ d) c)))

    pub chunk-apart : (i : ℕ) (b : Bool) → i ≡ at (o - 1) → b ≡ meets a len l i → not b ≡ true → cells ≡ Wanted
    chunk-apart i b ei is n =
        let z : meets a len l (at (o - 1)) ≡ false = ap (meets a len l) (sym ei) ∙ sym is ∙ not-true b n in
        over_none rs p _ _ cells (λ q k. rw (z, and-false (ltb 0 o)) (and-false (eqb (q / 2 ^ d) c)))

    -- or it is painted
    pub chunk-over : (i from base n : ℕ) (b : Bool) (after : List ℕ) → (o ≡ 0 → ⊥) → i ≡ at (o - 1) → b ≡ meets a len l i → not b ≡ false → from
        ≡ c * 2 ^ d → n ≡ 1 * 2 ^ d → base ≡ i * 2 ^ d
        → after ≡ overpainted rs p (between from (from + n)) (λ q. base + (q - from)) cells → after ≡ Wanted
    chunk-over i from base n b after some ei is t ef en eb was =
        let z : meets a len l (at (o - 1)) ≡ true = ap (meets a len l) (sym ei) ∙ sym is ∙ not-false b t in
        let u : ltb 0 o ≡ true = lt-ltb 0 o (omega arith) in
        was ∙ over-ext rs p (between from (from + n)) (stale_of a len l d at c o) (λ q. base + (q - from)) (part_of (λ _. o) d at) cells
        (λ q k. rw (ef, en, one-mul, block-is c d q, u, z) (sym (and-true (eqb (q / 2 ^ d) c))))
        (λ q k s.
        let f : q / 2 ^ d * 2 ^ d ≡ c * 2 ^ d = ap (λ (x : ℕ). x * 2 ^ d) (eqb-true (q / 2 ^ d) c (and_split (eqb (q / 2 ^ d) c) _ s).0) in
        let g = div-add-mod' q (2 ^ d) in
        let j : i * 2 ^ d ≡ at (o - 1) * 2 ^ d = ap (λ (x : ℕ). x * 2 ^ d) ei in
        omega arith)

  -- the pool, up to chunk c
  module _ (own cells₀ : List ℕ) where
    abbrev up_to : ℕ → ℕ → Bool
    up_to c q = ltb (q / 2 ^ d) c && stale_in a len l d at (entry own) q

    pub pool-none : PaintedTo rs a len l p d e up own cells₀ 0 cells₀
    pool-none = record { is = over_none rs p (up_to 0) _ cells₀ (λ q k. rw (le-ltb (q / 2 ^ d) 0 (omega arith))) }

    pub pool-more : (c o : ℕ) (cells after : List ℕ) → (o ≡ get_or own c 0) × (o < 4294967296) → PaintedTo rs a len l p d e up own cells₀ c cells
        → after ≡ overpainted rs p (stale_of a len l d at c o) (part_of (λ _. o) d at) cells → PaintedTo rs a len l p d e up own cells₀ (c + 1) after
    pool-more c o cells after o_is was eq = record {
      is =
          eq ∙ ap (overpainted rs p (stale_of a len l d at c o) (part_of (λ _. o) d at)) was.is
          ∙ over-more rs p (up_to c) (stale_of a len l d at c o) (up_to (c + 1)) (part_of (entry own) d at) (part_of (λ _. o) d at) cells₀ new old;
    }
      where
        chunks_of : (q : ℕ) → eqb (q / 2 ^ d) c ≡ true → o ≡ get_or own (q / 2 ^ d) 0
        chunks_of q t = o_is.0 ∙ ap (entry own) (sym (eqb-true (q / 2 ^ d) c t))

        new : (q : ℕ) → q < length cells₀ → stale_of a len l d at c o q ≡ true → (up_to (c + 1) q ≡ true) × (part_of (λ _. o) d at q ≡ part_of (entry own) d at q)
        new q k t =
            let s = and_split (eqb (q / 2 ^ d) c) _ t in
            let f = chunks_of q s.0 in
            let z = eqb-true (q / 2 ^ d) c s.0 in
            (both (lt-ltb (q / 2 ^ d) (c + 1) (omega arith)) (rw f at s.1), ap (λ (x : ℕ). at (x - 1) * 2 ^ d + q % 2 ^ d) f)

        old : (q : ℕ) → q < length cells₀ → stale_of a len l d at c o q ≡ false → up_to (c + 1) q ≡ up_to c q
        old q k t = go (decided (eqb (q / 2 ^ d) c))
          where
            go : (eqb (q / 2 ^ d) c ≡ true) ⊎ (eqb (q / 2 ^ d) c ≡ false) → up_to (c + 1) q ≡ up_to c q
            go (inl y) =
                let z : stale_in a len l d at (entry own) q ≡ false = sym (ap (λ (x : ℕ). ltb 0 x && meets a len l (at (x - 1))) (chunks_of q y)) ∙ rw y at t in
                rw z (and-false (ltb (q / 2 ^ d) (c + 1)) ∙ sym (and-false (ltb (q / 2 ^ d) c)))
            go (inr y) = ap (λ (b : Bool). b && stale_in a len l d at (entry own) q) (more (q / 2 ^ d) (eqb-false (q / 2 ^ d) c y))
              where
                more : (x : ℕ) → (x ≡ c → ⊥) → ltb x (c + 1) ≡ ltb x c
                more x n = same (ltb x (c + 1)) (ltb x c) (λ t. let w = ltb-true x (c + 1) t in lt-ltb x c (omega arith))
                    (λ t. let w = ltb-true x c t in lt-ltb x (c + 1) (omega arith))

    pub pool-all : (c : ℕ) (cells : List ℕ) → length own ≤ c → length cells₀ ≡ length own * 2 ^ d → PaintedTo rs a len l p d e up own cells₀ c cells
        → cells ≡ overpainted rs p (stale_in a len l d at (entry own)) (part_of (entry own) d at) cells₀
    pool-all c cells u size was =
        was.is ∙ over-ext rs p (up_to c) (stale_in a len l d at (entry own)) _ _ cells₀
        (λ q k. rw (lt-ltb (q / 2 ^ d) c (let z = chunk-lt d (length own) q (rw size at k) in omega arith)))
        (λ q k t. refl)

    pub length-pooled : (c : ℕ) (cells : List ℕ) → PaintedTo rs a len l p d e up own cells₀ c cells → length cells ≡ length cells₀
    length-pooled c cells was = ap length was.is ∙ length_over rs p (up_to c) (part_of (entry own) d at) cells₀

-- what painting one chunk asks
module _ (ws par : List ℕ) (len l p : ℕ) (up : List ℕ) (e o : ℕ) (cells : List ℕ) (c : ℕ) (h : ChunkOf ws par len l p up e o cells c) (some : o ≡ 0 → ⊥) where
  pub chunk-above : Above up e (o - 1)
  chunk-above = h.hangs.above (o - 1) (omega arith)

  pub chunk-cell : (i : ℕ) → i ≡ stands_for e up (o - 1) → (i < 2 ^ l) × (l + (p - l) ≤ 32)
  chunk-cell i is =
      let z = h.levels in
      (rw is (h.hangs.cell (o - 1) (omega arith)), omega arith)

  pub chunk_part : (i from base n : ℕ) → i ≡ stands_for e up (o - 1) → from ≡ c * 2 ^ (p - l) → n ≡ 1 * 2 ^ (p - l) → base ≡ i * 2 ^ (p - l)
      → Part ws par l i p base cells from (from + n)
  chunk_part i from base n is ef en eb =
      let z = h.levels in
      let w = h.inside in
      let k : n ≡ 2 ^ (p - l) = en ∙ one-mul _ in
      record {
        rises = omega arith;
        inside = omega arith;
        block = record {
          ready = z.ready;
          cell = record { level = omega arith; inside = (chunk-cell i is).0 };
          deeper = z.deeper;
          deep = z.deep;
          from = omega arith;
          to = omega arith;
        };
      }

-- and each chunk of a pool has it
pub pool-chunk : (ws par : List ℕ) (len l p : ℕ) (up : List ℕ) (e : ℕ) (own cells₀ cells : List ℕ) (c o : ℕ) → Pool ws par len l p up e own cells₀
    → length cells ≡ length cells₀ → c < length own → (o ≡ get_or own c 0) × (o < 4294967296)
    → ChunkOf ws par len l p up e o cells c
pool-chunk ws par len l p up e own cells₀ cells c o h n k is = record {
  levels = h.levels;
  hangs = rw is.0 (h.hangs c k);
  few = let z = h.few in omega arith;
  inside =
      let z = h.chunks in
      let m = mul-le-mul_right (2 ^ (p - l)) (let y : c + 1 ≤ length own = omega arith in y) in
      let f : (c + 1) * 2 ^ (p - l) ≡ c * 2 ^ (p - l) + 2 ^ (p - l) = add-mul c 1 _ ∙ ap (λ (x : ℕ). c * 2 ^ (p - l) + x) (one-mul _) in
      omega arith;
}
