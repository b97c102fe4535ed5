-- A loop that copies goes from the start up, so what it leaves is the front copied up to where it stands. With zeros after it nothing of the
-- old list is left.
use mathlib.Core.Path.{◌≡◌, refl, sym, ◌∙◌, ap}
use mathlib.Core.Logic.{◌⊎◌, inl, inr, ◌≢◌}
use mathlib.Core.Bool.{cond}
use mathlib.Core.List.{List}
use Prim.Native.Nat.{ℕ, ◌+◌, ◌-◌, ◌<◌, ◌≤◌, zero-le}
use native.Mathlib.Nat.{le_refl}
use native.Mathlib.Omega.{arith}
use lib.Dec.{ltb, eqb}
use lib.ListN.{length, get_or, set, take, drop, replicate, length-set, get_or-eq_default}
use borrow.Rule.Slice.PartMut.{put_mid}
use borrow.Author.Tests.{lt-ltb, le-ltb, eq-eqb, ne_eqb}
use Rattle.bits.proofs.Bools.{below?, equal?}
use Rattle.bits.specs.Tab.{tabulate}
use Rattle.bits.proofs.Tabs.{length-tabulate, get_d_tabulate, tabulate-ext, is-tabulate, set-tabulate}
use Rattle.buffers.specs.Fill.{between, filled, padded}
use Rattle.buffers.proofs.Parts.{filled_part}
use Rattle.buffers.proofs.Ranges.{between_in, between-below}

-- the list with its first n elements those of s
unfoldable pub copied : List ℕ → List ℕ → ℕ → List ℕ
copied l s n = tabulate (length l) (λ i. cond (ltb i n) (get_or s i 0) (get_or l i 0))

copied_none : (l s : List ℕ) → l ≡ copied l s 0
unfolding copied
copied_none l s = is-tabulate 0 l (length l) _ refl (λ i h. rw (le-ltb i 0 zero-le))

length-copied : (l s : List ℕ) (n : ℕ) → length (copied l s n) ≡ length l
unfolding copied
length-copied l s n = length-tabulate (length l) _

copied_more : (l s : List ℕ) (i : ℕ) → set (copied l s i) i (get_or s i 0) ≡ copied l s (i + 1)
unfolding copied
copied_more l s i = set-tabulate (length l) _ i (get_or s i 0) ∙ tabulate-ext (length l) _ _ (λ j h. go j (get_or l j 0) (equal? j i) (below? j i))
  where
    go : (j x : ℕ) → (j ≡ i) ⊎ (j ≢ i) → (j < i) ⊎ (i ≤ j) → cond (eqb j i) (get_or s i 0) (cond (ltb j i) (get_or s j 0) x) ≡ cond (ltb j (i + 1)) (get_or s j 0) x
    go j x (inl e) b = rw (eq-eqb j i e, lt-ltb j (i + 1) (omega arith)) (ap (λ (k : ℕ). get_or s k 0) (sym e))
    go j x (inr e) (inl b) = rw (ne_eqb j i e, lt-ltb j i b, lt-ltb j (i + 1) (omega arith))
    go j x (inr e) (inr b) = rw (ne_eqb j i e, le-ltb j i b, le-ltb j (i + 1) (omega arith))

get_d-copied : (l s : List ℕ) (n i : ℕ) → i < length l → i < n → get_or (copied l s n) i 0 ≡ get_or s i 0
unfolding copied
get_d-copied l s n i h b = get_d_tabulate {A = ℕ} (length l) _ i 0 h ∙ rw (lt-ltb i n b)

-- the loop: the first i elements are those of s, and the rest is as it was in l
pub record Copying (l s : List ℕ) (n : ℕ) (out : List ℕ) (i : ℕ) : Type 0 where
  pub within : i ≤ n
  pub size : length out ≡ length l
  pub is : out ≡ copied l s i

pub copying-none : {l s : List ℕ} {n : ℕ} → Copying l s n l 0
copying-none {l} {s} = record { within = zero-le; size = refl; is = copied_none l s }

module _ {l s : List ℕ} {n : ℕ} {out : List ℕ} {i : ℕ} (c : Copying l s n out i) where
  pub copying-more : i < n → Copying l s n (set out i (get_or s i 0)) (i + 1)
  copying-more t = record {
    within = omega arith;
    size = length-set out i _ ∙ c.size;
    is = ap (λ (x : List ℕ). set x i (get_or s i 0)) c.is ∙ copied_more l s i;
  }

  pub copying-all : n ≤ i → out ≡ copied l s n
  copying-all t = let e : i ≡ n = omega (arith, c.within) in c.is ∙ rw e

-- the bytes of s, and zeros after them
padded-is : (l s : List ℕ) → length s ≤ length l → filled (copied l s (length s)) (length s) (length (copied l s (length s))) 0 ≡ padded s (length l)
unfolding filled padded
padded-is l s h =
    is-tabulate 0 _ (length l) _ (length-tabulate (length (copied l s (length s))) _ ∙ length-copied l s (length s))
    (λ i k.
    let u : i < length (copied l s (length s)) = rw length-copied k in
    get_d_tabulate {A = ℕ} (length (copied l s (length s))) _ i 0 u ∙ go i k u (below? i (length s)))
  where
    go : (i : ℕ) → i < length l → i < length (copied l s (length s)) → (i < length s) ⊎ (length s ≤ i) → cond
        (between (length s) (length (copied l s (length s))) i) 0 (get_or (copied l s (length s)) i 0) ≡ get_or s i 0
    go i k u (inl b) = rw (between-below (length s) (length (copied l s (length s))) i b) (get_d-copied l s (length s) i k b)
    go i k u (inr b) = rw (between_in (length s) (length (copied l s (length s))) i b u) (sym (get_or-eq_default s 0 b))

pub copied_is : (l s x z : List ℕ) → length s ≤ length l → x ≡ copied l s (length s)
    → z ≡ replicate (length (take (length x - length s) (drop (length s) x))) 0 → length s ≤ length x
    → put_mid (length s) (length x - length s) x z ≡ padded s (length l)
copied_is l s x z h e f r =
    filled_part x z (length s) (length x) 0 (record { rises = r; fits = le_refl (length x) }) f ∙ rw e (padded-is l s h)
