-- One word of each node of a stretch changed alike, one store at a time.
use mathlib.Core.Path.{◌≡◌, refl, sym, ◌∙◌, ap}
use mathlib.Core.Logic.{◌⊎◌, inl, inr}
use mathlib.Core.Bool.{Bool, true, cond, ◌&&◌}
use mathlib.Core.List.{List}
use Prim.Native.Nat.{ℕ, ◌+◌, ◌*◌, ◌/◌, ◌%◌, ◌≤◌, ◌<◌}
use native.Mathlib.Omega.{arith}
use lib.Dec.{eqb, leb, ltb}
use lib.ListN.{length, get_or, set, get_or-eq_default}
use lib.Seq.{ext_get_or}
use borrow.Author.Tests.{eq-eqb, ne_eqb, eqb-true, le-leb, leb-true, lt-ltb, ltb-true}
use Rattle.bits.proofs.Bools.{both, and_split, below?, equal?, untrue, same}
use Rattle.bits.proofs.Tabs.{length-tabulate, get_d_tabulate, tabulate-ext, set-tabulate}
use Rattle.tree_hold.specs.Moves.{among, each}

-- nothing stands past the end of a list
pub past : (xs : List ℕ) (j : ℕ) → length xs ≤ j → get_or xs j 0 ≡ 0
past xs j l = get_or-eq_default xs 0 {n = j} l

among-is : (d a b i : ℕ) → d < 3 → a ≤ i → i < b → among d a b (3 * i + d) ≡ true
among-is d a b i l u v =
    both (eq-eqb ((3 * i + d) % 3) d (omega arith)) (both (le-leb a ((3 * i + d) / 3) (omega arith)) (lt-ltb ((3 * i + d) / 3) b (omega arith)))

among-parts : (d a b j : ℕ) → among d a b j ≡ true → (j % 3 ≡ d) × (a ≤ j / 3) × (j / 3 < b)
among-parts d a b j t =
    let s = and_split (eqb (j % 3) d) (leb a (j / 3) && ltb (j / 3) b) t in
    let r = and_split (leb a (j / 3)) (ltb (j / 3) b) s.1 in
    (eqb-true (j % 3) d s.0, leb-true a (j / 3) r.0, ltb-true (j / 3) b r.1)

module _ (f : ℕ → ℕ) (ws : List ℕ) (d a : ℕ) where
  pub each-length : (b : ℕ) → length (each f ws d a b) ≡ length ws
  unfolding each
  each-length b = length-tabulate (length ws) _

  pub each_in : (b i : ℕ) → d < 3 → a ≤ i → i < b → 3 * i + d < length ws → get_or (each f ws d a b) (3 * i + d) 0 ≡ f (get_or ws (3 * i + d) 0)
  unfolding each
  each_in b i l u v r = get_d_tabulate (length ws) _ (3 * i + d) 0 r ∙ rw (among-is d a b i l u v) refl

  pub each-out : (b j : ℕ) → (j % 3 ≡ d → a ≤ j / 3 → j / 3 < b → ⊥) → get_or (each f ws d a b) j 0 ≡ get_or ws j 0
  unfolding each
  each-out b j n = go (below? j (length ws))
    where
      go : (j < length ws) ⊎ (length ws ≤ j) → get_or (each f ws d a b) j 0 ≡ get_or ws j 0
      go (inl l) =
          get_d_tabulate (length ws) _ j 0 l
          ∙ ap (λ (t : Bool). cond t (f (get_or ws j 0)) (get_or ws j 0)) (untrue (among d a b j) (λ t. let s = among-parts d a b j t in n s.0 s.1 s.2))
      go (inr l) = past (each f ws d a b) j (omega (arith, each-length b)) ∙ sym (past ws j l)

  pub each_none : ws ≡ each f ws d a a
  each_none = ext_get_or 0 ws (each f ws d a a) (sym (each-length a)) (λ j u. sym (each-out a j (λ e v w. omega arith)))

  -- the next node's word
  pub each_more : (i : ℕ) → d < 3 → a ≤ i → set (each f ws d a i) (3 * i + d) (f (get_or ws (3 * i + d) 0)) ≡ each f ws d a (i + 1)
  unfolding each
  each_more i l u = set-tabulate (length ws) _ (3 * i + d) _ ∙ tabulate-ext (length ws) _ _ (λ j v. go j (equal? j (3 * i + d)))
    where
      v : ℕ → ℕ
      v j = get_or ws j 0

      go : (j : ℕ) → (j ≡ 3 * i + d) ⊎ (j ≡ 3 * i + d → ⊥)
          → cond (eqb j (3 * i + d)) (f (v (3 * i + d))) (cond (among d a i j) (f (v j)) (v j)) ≡ cond (among d a (i + 1) j) (f (v j)) (v j)
      go j (inl e) = rw (e, eq-eqb (3 * i + d) (3 * i + d) refl, among-is d a (i + 1) i l u (omega arith)) refl
      go j (inr n) =
          rw (ne_eqb j (3 * i + d) n)
          (ap (λ (t : Bool). cond t (f (v j)) (v j))
          (same (among d a i j) (among d a (i + 1) j)
          (λ t. let s = among-parts d a i j t in both (eq-eqb (j % 3) d s.0) (both (le-leb a (j / 3) s.1) (lt-ltb (j / 3) (i + 1) (omega (arith, s.2)))))
          (λ t.
          let s = among-parts d a (i + 1) j t in
          both (eq-eqb (j % 3) d s.0) (both (le-leb a (j / 3) s.1) (lt-ltb (j / 3) i (below s (below? (j / 3) i)))))))
        where
          below : (j % 3 ≡ d) × (a ≤ j / 3) × (j / 3 < i + 1) → (j / 3 < i) ⊎ (i ≤ j / 3) → j / 3 < i
          below s (inl w) = w
          below s (inr w) = let x = s.0 in let y = s.2 in absurd (n (omega arith))
