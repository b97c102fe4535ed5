-- The three words of a node stored: what stands in their places, and that nothing else changes.
use mathlib.Core.Path.{◌≡◌, ◌∙◌}
use mathlib.Core.Logic.{◌⊎◌, inl, inr}
use mathlib.Core.List.{List}
use Prim.Native.Nat.{ℕ, ◌+◌, ◌*◌, ◌≤◌, ◌<◌}
use native.Mathlib.Omega.{arith}
use lib.ListN.{length, get_or, set, length-set}
use lib.Seq.{get_or-set_same, get_or-set_other}
use Rattle.tree_node.specs.Queue.{put3}

-- three words
module _ (ws : List ℕ) (x a b d : ℕ) where
  pub put3-length : length (put3 ws x a b d) ≡ length ws
  put3-length = simp length-set

  pub put3-other : (j : ℕ) → (j < 3 * x) ⊎ (3 * x + 3 ≤ j) → get_or (put3 ws x a b d) j 0 ≡ get_or ws j 0
  put3-other j o =
      get_or-set_other (set (set ws (3 * x) a) (3 * x + 1) b) (3 * x + 2) j d 0 (λ (q : j ≡ 3 * x + 2). far o 2 (omega arith) q)
      ∙ get_or-set_other (set ws (3 * x) a) (3 * x + 1) j b 0 (λ (q : j ≡ 3 * x + 1). far o 1 (omega arith) q)
      ∙ get_or-set_other ws (3 * x) j a 0 (λ (q : j ≡ 3 * x). far o 0 (omega arith) (q ∙ omega arith))
    where
      far : (j < 3 * x) ⊎ (3 * x + 3 ≤ j) → (y : ℕ) → y < 3 → j ≡ 3 * x + y → ⊥
      far (inl l) y u q = omega arith
      far (inr l) y u q = omega arith

  pub put3-at : 3 * x + 3 ≤ length ws → (get_or (put3 ws x a b d) (3 * x) 0 ≡ a) × (get_or (put3 ws x a b d) (3 * x + 1) 0 ≡ b) ×
      (get_or (put3 ws x a b d) (3 * x + 2) 0 ≡ d)
  put3-at r = (
    get_or-set_other (set (set ws (3 * x) a) (3 * x + 1) b) (3 * x + 2) (3 * x) d 0 (λ (q : 3 * x ≡ 3 * x + 2). omega arith)
        ∙ get_or-set_other (set ws (3 * x) a) (3 * x + 1) (3 * x) b 0 (λ (q : 3 * x ≡ 3 * x + 1). omega arith)
        ∙ get_or-set_same ws (3 * x) a 0 (omega arith),
    get_or-set_other (set (set ws (3 * x) a) (3 * x + 1) b) (3 * x + 2) (3 * x + 1) d 0 (λ (q : 3 * x + 1 ≡ 3 * x + 2). omega arith)
        ∙ get_or-set_same (set ws (3 * x) a) (3 * x + 1) b 0 (simp length-set (omega arith)),
    get_or-set_same (set (set ws (3 * x) a) (3 * x + 1) b) (3 * x + 2) d 0 (simp length-set (omega arith)),
  )
