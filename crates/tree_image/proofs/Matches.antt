-- Which bits of a node decide, for every word that it may hold, damaged ones too. Above depth 8 the deepest match is the longest inner length whose
-- bit is set. At depth 8 there are no bits left, so that bit 0 alone matches; bit 15 is looked at there as everywhere.
use Rattle.std.specs.Prelude.{Option, Some, None}
use mathlib.Core.Path.{◌≡◌, refl, sym, ap, subst, ◌∙◌}
use mathlib.Core.Logic.{◌⊎◌, inl, inr}
use mathlib.Core.Bool.{Bool, true, false, cond, not, ◌&&◌}
use mathlib.Core.List.{List}
use Prim.Native.Nat.{ℕ, zero, suc, ◌+◌, ◌/◌, ◌%◌, ◌^◌, ◌<◌}
use native.Mathlib.Nat.{add-zero}
use native.Mathlib.Omega.{arith}
use lib.Count.{ones}
use lib.Dec.{ltb}
use lib.ListN.{length}
use Rattle.bits.proofs.Bools.{decided}
use Rattle.routes.specs.Said.{refused}
use Rattle.tree_image.specs.Node.{bits_of, base_of, is_set, sound, try_bit, match_bit, Deepest, match, none, deepest_of, better_of}
use Rattle.tree_image.specs.Walk.{fetched_from, last_match, walk_from}

-- the four inner lengths
by_length : (P : ℕ → Type 0) → P 0 → P 1 → P 2 → P 3 → (k : ℕ) → k < 4 → P k
by_length P a b c d zero l = a
by_length P a b c d (suc zero) l = b
by_length P a b c d (suc (suc zero)) l = c
by_length P a b c d (suc (suc (suc zero))) l = d
by_length P a b c d (suc (suc (suc (suc k)))) l = absurd (omega arith)

-- The bits are tried from the longest inner length down, so the first that is set is that of the longest.
pub deepest-longest : (w v : ℕ) → v < 16 → Deepest w v (deepest_of w v)
unfolding deepest_of try_bit
deepest-longest w v l = go (decided (set 3)) (decided (set 2)) (decided (set 1)) (decided (set 0))
  where
    set : ℕ → Bool
    set j = is_set w (match_bit j v)

    own : match_bit 0 v ≡ 0
    own = omega arith

    at_own : {t : Bool} → set 0 ≡ t → is_set w 0 ≡ t
    at_own e = ap (is_set w) (sym own) ∙ e

    above : (j : ℕ) → (j < 1 → set 1 ≡ false) → (j < 2 → set 2 ≡ false) → (j < 3 → set 3 ≡ false) → (k : ℕ) → j < k → k < 4 → set k ≡ false
    above j one two three k lo hi = by_length (λ k. j < k → set k ≡ false) (λ z. absurd (omega arith)) one two three k hi lo

    go : (set 3 ≡ true) ⊎ (set 3 ≡ false) → (set 2 ≡ true) ⊎ (set 2 ≡ false) → (set 1 ≡ true) ⊎ (set 1 ≡ false) → (set 0 ≡ true) ⊎ (set 0 ≡ false)
        → Deepest w v (cond (set 3) (Some (match_bit 3 v)) (cond (set 2) (Some (match_bit 2 v)) (cond (set 1) (Some (match_bit 1 v)) (cond (is_set w 0) (Some 0) None))))
    go (inl a) b c d = rw a (match 3 (omega arith) a (above 3 (λ z. absurd (omega arith)) (λ z. absurd (omega arith)) (λ z. absurd (omega arith))))
    go (inr a) (inl b) c d = rw (a, b) (match 2 (omega arith) b (above 2 (λ z. absurd (omega arith)) (λ z. absurd (omega arith)) (λ z. a)))
    go (inr a) (inr b) (inl c) d = rw (a, b, c) (match 1 (omega arith) c (above 1 (λ z. absurd (omega arith)) (λ z. b) (λ z. a)))
    go (inr a) (inr b) (inr c) (inl d) = rw (a, b, c, at_own d) (subst (λ (b : ℕ). Deepest w v (Some b)) own (match 0 (omega arith) d (above 0 (λ z. c) (λ z. b) (λ z. a))))
    go (inr a) (inr b) (inr c) (inr d) = rw (a, b, c, at_own d) (none (by_length (λ k. set k ≡ false) d c b a))

-- "At depth 8 only internal bit 0 and bit 15 are looked at": bit 0 leads to the hop at the hop base, since no bits are below it
module _ (ws hs : List ℕ) (a i : ℕ) (best : Option ℕ) where
  pub last-match : last_match ws i best ≡ cond (is_set (bits_of ws i) 0) (Some (base_of ws i)) best
  unfolding better_of try_bit ones
  last-match = go (is_set (bits_of ws i) 0)
    where
      below : base_of ws i + ones (bits_of ws i % 2 ^ 0) ≡ base_of ws i
      below =
          let none : bits_of ws i % 2 ^ 0 ≡ 0 = omega arith in
          ap (λ (x : ℕ). base_of ws i + ones x) none ∙ add-zero (base_of ws i)

      go : (b : Bool) → better_of (bits_of ws i) (base_of ws i) (cond b (Some 0) None) best ≡ cond b (Some (base_of ws i)) best
      go true = ap Some below
      go false = refl

  pub last-walk : walk_from zero ws hs a i best
      ≡ cond (ltb i (length ws / 3) && not (is_set (bits_of ws i) 15)) (fetched_from hs 9 (cond (is_set (bits_of ws i) 0) (Some (base_of ws i)) best)) (refused 13)
  unfolding walk_from sound
  last-walk = rw last-match refl
