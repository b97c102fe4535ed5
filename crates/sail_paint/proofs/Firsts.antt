-- The first cells that meet a prefix, painted block by block.
use mathlib.Core.Path.{◌≡◌, refl, sym, ap, ◌∙◌}
use mathlib.Core.Bool.{Bool, false, true≢false}
use mathlib.Core.List.{List}
use Prim.Native.Nat.{ℕ, ◌+◌, ◌-◌, ◌*◌, ◌/◌, ◌^◌, ◌≤◌}
use native.Mathlib.Omega.{arith}
use lib.ListN.{length}
use lib.Pow.{pow-add}
use Rattle.bits.specs.Slot.{slot}
use Rattle.routes.specs.declared.Route.{Route}
use Rattle.buffers.specs.Fill.{between}
use Rattle.buffers.proofs.Ranges.{Side, below, inside, above, side, between_in, between-below, between-above}
use Rattle.sail.specs.Level.{itself}
use Rattle.sail_paint.specs.Stale.{meets}
use Rattle.sail_paint.specs.Paint.{overpainted, Part, FirstPaintReady, BlockEnd}
use Rattle.sail_paint.proofs.Places.{between-parts, range-is, range-fits}
use Rattle.sail_paint.proofs.Overs.{length_over, over_none, over-ext, over-more}

-- no cell is between a and a
none_between : (a q : ℕ) → between a a q ≡ false
none_between a q = go (side a a q)
  where
    go : Side a a q → between a a q ≡ false
    go (below l) = between-below a a q l
    go (inside l u) = absurd (omega arith)
    go (above l u) = between-above a a q u

-- one block more
grown : (a lo hi q : ℕ) → a ≤ lo → lo ≤ hi → between lo hi q ≡ false → between a hi q ≡ between a lo q
grown a lo hi q l u n = go (side a lo q) (side lo hi q)
  where
    go : Side a lo q → Side lo hi q → between a hi q ≡ between a lo q
    go (below x) z = rw (between-below a lo q x) (between-below a hi q x)
    go (inside x y) z = rw (between_in a lo q x y) (between_in a hi q x (omega arith))
    go (above x y) (below z) = absurd (omega arith)
    go (above x y) (inside z w) = absurd (true≢false (sym (between_in lo hi q z w) ∙ n))
    go (above x y) (above z w) = rw (between-above a lo q y) (between-above a hi q w)

module _ (rs : List Route) (p : ℕ) (first₀ : List ℕ) (from : ℕ) where
  pub first-none : first₀ ≡ overpainted rs p (between from from) itself first₀
  first-none = over_none rs p (between from from) itself first₀ (λ q l. none_between from q)

  pub first_more : (first after : List ℕ) (lo hi : ℕ) → from ≤ lo → lo ≤ hi → first ≡ overpainted rs p (between from lo) itself first₀
      → after ≡ overpainted rs p (between lo hi) (λ q. lo + (q - lo)) first → after ≡ overpainted rs p (between from hi) itself first₀
  first_more first after lo hi l u was e =
      e ∙ ap (overpainted rs p (between lo hi) (λ q. lo + (q - lo))) was
      ∙ over-more rs p (between from lo) (between lo hi) (between from hi) itself (λ q. lo + (q - lo)) first₀
      (λ q k t. let s = between-parts lo hi q t in (between_in from hi q (omega (arith, s.0)) s.1, omega (arith, s.0)))
      (λ q k t. grown from lo hi q l u t)

module _ (ws par : List ℕ) (p a len : ℕ) (first₀ : List ℕ) (h : FirstPaintReady ws par p a len first₀) where
  powers : 2 ^ p ≡ 2 ^ (p - 10) * 1024
  powers = let e : p ≡ p - 10 + 10 = let z = h.low in omega arith in ap (λ (n : ℕ). 2 ^ n) e ∙ pow-add 2 (p - 10) 10

  -- a block lies in one cell of level p - 10
  pub first_part : (rs : List Route) (f : ℕ → Bool) (first : List ℕ) (from end lo hi : ℕ) → from ≡ slot p a → end ≡ from + 2 ^ (p - len) → first
      ≡ overpainted rs p f itself first₀ → BlockEnd lo end hi
      → Part ws par (p - 10) (lo / 1024) p lo first lo hi
  first_part rs f first from end lo hi s e was b =
      let k : p - (p - 10) ≡ 10 = let z = h.low in omega arith in
      let w = powers in
      let r = range-fits a len p h.prefix h.deep in
      let n : length first ≡ 2 ^ p = ap length was ∙ length_over rs p f itself first₀ ∙ h.cells in
      record {
        rises = omega arith;
        inside = omega arith;
        block = record {
          ready = h.ready;
          cell = record { level = omega arith; inside = omega arith };
          deeper = omega arith;
          deep = h.deep;
          from = rw k (omega arith);
          to = rw k (omega arith);
        };
      }

  pub first-all : (rs : List Route) (first : List ℕ) (from end lo : ℕ) → from ≡ slot p a → end ≡ from + 2 ^ (p - len) → lo ≤ end → end ≤ lo → first
      ≡ overpainted rs p (between from lo) itself first₀
      → first ≡ overpainted rs p (meets a len p) itself first₀
  first-all rs first from end lo s e l u was =
      let z : lo ≡ slot p a + 2 ^ (p - len) = omega arith in
      was ∙ over-ext rs p _ _ itself itself first₀ (λ q k. rw (s, z) (range-is a len p h.prefix h.deep q)) (λ q k t. refl)
