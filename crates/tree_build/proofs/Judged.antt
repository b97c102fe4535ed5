-- What the build of an image says: what stands beside the case that holds (`Build`, specs/Cases.antt), and nothing else. The input's check comes
-- first, then the nodes and the hops that its routes need.
use mathlib.Core.Path.{◌≡◌, ◌∙◌}
use mathlib.Core.Logic.{◌⊎◌, inl, inr}
use mathlib.Core.Bool.{false, true≢false}
use mathlib.Core.List.{List}
use Prim.Native.Nat.{ℕ, ◌/◌, ◌≤◌, ◌<◌}
use lib.ListN.{length}
use borrow.Author.Tests.{lt-ltb, le-ltb}
use Rattle.bits.proofs.Bools.{below?}
use Rattle.routes.specs.Input.{input_said}
use Rattle.routes.specs.Said.{Said, accepts}
use Rattle.tree_image.specs.Image.{node_need}
use Rattle.routes.specs.Record.{routes_in}
use Rattle.tree_build.specs.Built.{made_of, built}
use Rattle.tree_build.specs.Cases.{Build}
use Rattle.routes.specs.Cases.{Passes}
use Rattle.routes.proofs.Judged.{check-only, by-input}

-- build: the input's with its index, 6, 11, 12
module _ (s ws hs : List ℕ) where
  good-built : (n : ℕ) → Passes s n → (built s ws hs).said ≡ (made_of (routes_in s) ws hs).said
  unfolding built
  good-built n g = rw (check-only s _ g)

  bad-built : (x : Said) → input_said s ≡ x → accepts x ≡ false → (built s ws hs).said ≡ x
  unfolding built
  bad-built (Said.accepted vs) e h = absurd (true≢false h)
  bad-built (Said.refused n) e h = rw e
  bad-built (Said.refused_at n k) e h = rw e

  pub build-only : (x : Said) → Build s ws hs x → (built s ws hs).said ≡ x
  unfolding made_of
  build-only _ (Build.bad_input x b) = bad-built x (check-only s x b.checked) b.not_accepted
  build-only x (Build.few_nodes n g h) = good-built n g ∙ rw (lt-ltb _ _ h)
  build-only x (Build.few_hops n g h k) = good-built n g ∙ rw (le-ltb _ _ h, lt-ltb _ _ k)
  build-only x (Build.done n g h k) = good-built n g ∙ rw (le-ltb _ _ h, le-ltb _ _ k)

  pub build-judged : Build s ws hs (built s ws hs).said
  build-judged =
      by-input s (λ x. Build s ws hs (built s ws hs).said) (λ x b. told (Build.bad_input x b))
      (λ n g. at n g (below? (length ws / 3) (node_need (routes_in s))) (below? (length hs) (length (routes_in s))))
    where
      told : {x : Said} → Build s ws hs x → Build s ws hs (built s ws hs).said
      told c = rw (build-only _ c) c

      at : (n : ℕ) → Passes s n → (length ws / 3 < node_need (routes_in s)) ⊎ (node_need (routes_in s) ≤ length ws / 3)
          → (length hs < length (routes_in s)) ⊎ (length (routes_in s) ≤ length hs) → Build s ws hs (built s ws hs).said
      at n g (inl h) k = told (Build.few_nodes n g h)
      at n g (inr h) (inl k) = told (Build.few_hops n g h k)
      at n g (inr h) (inr k) = told (Build.done n g h k)
