-- The test is linear in what is lent, whatever the arrays hold: its way down is taken only where the bases are those of the fixed order, and then it
-- meets no node twice. The nodes of a stretch have their children in a stretch of its own, which begins after it.
use mathlib.Core.Path.{◌≡◌, refl, sym, ◌∙◌, ap}
use mathlib.Core.Bool.{true}
use mathlib.Core.List.{List}
use Prim.Native.Nat.{ℕ, zero, suc, ◌+◌, ◌-◌, ◌/◌, ◌^◌, ◌≤◌}
use native.Mathlib.Omega.{arith}
use lib.Count.{ones}
use lib.ListN.{length}
use Rattle.tree_image.specs.Node.{bits_of, child_of}
use Rattle.tree_same.specs.Order.{exts, Order}
use Rattle.tree_formed.specs.WellFormed.{nodes_used, ordered}
use Rattle.tree_formed.specs.Visits.{sum_from, visits}
use Rattle.tree_formed.proofs.Meaning.{ordered-is}
use Rattle.tree_formed.proofs.Held.{exts-next, exts-mono}

-- two stretches end to end
sum-split : (f : ℕ → ℕ) (m n a : ℕ) → sum_from f (m + n) a ≡ sum_from f m a + sum_from f n (a + m)
unfolding sum_from
sum-split f zero n a =
    let p : 0 + n ≡ n = omega arith in
    let q : a + 0 ≡ a = omega arith in
    ap (λ (k : ℕ). sum_from f k a) p ∙ sym (ap (λ (k : ℕ). sum_from f n k) q) ∙ omega arith
sum-split f (suc m) n a =
    let p : suc m + n ≡ suc (m + n) = omega arith in
    let q : a + 1 + m ≡ a + suc m = omega arith in
    let e : sum_from f n (a + 1 + m) ≡ sum_from f n (a + suc m) = ap (sum_from f n) q in
    ap (λ (k : ℕ). sum_from f k a) p ∙ omega (arith, sum-split f m n (a + 1), e)

sum_ones : (ws : List ℕ) (n a : ℕ) → sum_from (visits 0 ws) n a ≡ n
unfolding sum_from visits
sum_ones ws zero a = refl
sum_ones ws (suc n) a = omega (arith, sum_ones ws n (a + 1))

module _ (ws : List ℕ) (n : ℕ) (o : Order ws n) where
  -- the k nodes from a on have their children one after the other, d of them
  below-them : (e k a d : ℕ) → a + k ≤ n → exts ws (a + k) ≡ exts ws a + d
      → sum_from (visits (suc e) ws) k a ≡ k + sum_from (visits e ws) d (1 + exts ws a)
  unfolding sum_from visits
  below-them e zero a d l q =
      let s : a + 0 ≡ a = omega arith in
      let z : d ≡ 0 = omega (arith, ap (exts ws) s) in
      rw z (omega arith)
  below-them e (suc k) a d l q =
      let s : a + suc k ≡ a + 1 + k = omega arith in
      let t : a + 1 ≡ suc a = omega arith in
      let here : exts ws (a + 1) ≡ exts ws a + ones (bits_of ws a / 2 ^ 16) = ap (exts ws) t ∙ exts-next ws a in
      let far : exts ws (a + suc k) ≡ exts ws (a + 1 + k) = ap (exts ws) s in
      let more : exts ws (a + 1) ≤ exts ws (a + 1 + k) = exts-mono ws (a + 1) (a + 1 + k) (omega arith) in
      let r : ones (bits_of ws a / 2 ^ 16) + (d - ones (bits_of ws a / 2 ^ 16)) ≡ d = omega (arith, here, far, more, q) in
      let rest = below-them e k (a + 1) (d - ones (bits_of ws a / 2 ^ 16)) (omega arith) (omega (arith, here, far, more, q)) in
      let first : child_of ws a ≡ 1 + exts ws a = o.child a (omega arith) in
      let next : 1 + exts ws a + ones (bits_of ws a / 2 ^ 16) ≡ 1 + exts ws (a + 1) = omega (arith, here) in
      let joined = sum-split (visits e ws) (ones (bits_of ws a / 2 ^ 16)) (d - ones (bits_of ws a / 2 ^ 16)) (1 + exts ws a) in
      omega (
        arith,
        rest,
        ap (sum_from (visits e ws) (ones (bits_of ws a / 2 ^ 16))) first,
        ap (λ (k : ℕ). sum_from (visits e ws) k (1 + exts ws a)) r,
        ap (sum_from (visits e ws) (d - ones (bits_of ws a / 2 ^ 16))) next,
        joined,
      )

  -- a stretch that ends before the children of its first node begin: what is met from it on lies in the n nodes
  met : (e k a : ℕ) → a + k ≤ n → a + k ≤ 1 + exts ws a → a + sum_from (visits e ws) k a ≤ n
  met zero k a l u = omega (arith, sum_ones ws k a)
  met (suc e) k a l u =
      let up : exts ws a ≤ exts ws (a + k) = exts-mono ws a (a + k) (omega arith) in
      let end : exts ws (a + k) ≤ exts ws n = exts-mono ws (a + k) n l in
      let ahead : exts ws (a + k) ≤ exts ws (1 + exts ws a) = exts-mono ws (a + k) (1 + exts ws a) u in
      let below = met e (exts ws (a + k) - exts ws a) (1 + exts ws a) (omega (arith, up, end, o.whole)) (omega (arith, up, ahead)) in
      omega (arith, below-them e k a (exts ws (a + k) - exts ws a) l (omega (arith, up)), below)

  pub visits-few : (e : ℕ) → visits e ws 0 ≤ n
  unfolding sum_from
  visits-few e = omega (arith, met e 1 0 (omega (arith, o.whole)) (omega arith))

-- the way down from the root is taken where the bases are in order, and then meets at most the nodes that are lent
pub test-linear : (ws : List ℕ) → ordered ws ≡ true → visits 8 ws 0 ≤ length ws / 3
test-linear ws e = let o = ordered-is ws e in omega (arith, visits-few ws (nodes_used ws) o 8, o.lent)
