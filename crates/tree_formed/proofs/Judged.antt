-- What the test of an image says: what stands beside the case that holds (`TreeTest`), and nothing else. An image passes exactly where some input
-- builds it.
use mathlib.Core.Path.{◌≡◌, sym, ◌∙◌}
use mathlib.Core.Logic.{◌⊎◌, inl, inr}
use mathlib.Core.Bool.{true, false, true≢false}
use mathlib.Core.List.{List}
use Prim.Native.Nat.{ℕ}
use Rattle.bits.proofs.Bools.{decided, untrue}
use Rattle.routes.specs.Said.{Said}
use Rattle.tree_formed.specs.Answers.{tested}
use Rattle.tree_formed.specs.Buildable.{Buildable}
use Rattle.tree_formed.specs.Cases.{Narrow, TreeTest}
use Rattle.tree_formed.specs.WellFormed.{well_formed}
use Rattle.tree_formed.proofs.AsBuilt.{buildable-told, unbuildable-told}
use Rattle.tree_formed.proofs.Exact.{passes-builds, builds-passes}

pub not-built : (ws hs : List ℕ) → well_formed ws hs ≡ false → Buildable ws hs → ⊥
not-built ws hs f b = true≢false (sym (builds-passes ws hs b) ∙ f)

module _ (ws hs : List ℕ) (narrow : Narrow ws) where
  pub no_image : (Buildable ws hs → ⊥) → well_formed ws hs ≡ false
  no_image n = untrue (well_formed ws hs) (λ t. n (passes-builds ws hs narrow t))

  pub tree-test-only : (s : Said) → TreeTest ws hs s → tested ws hs ≡ s
  tree-test-only _ (TreeTest.is_well_formed b) = buildable-told ws hs b
  tree-test-only _ (TreeTest.broken n) = unbuildable-told ws hs narrow n

  pub tree-test-judged : TreeTest ws hs (tested ws hs)
  tree-test-judged = go (decided (well_formed ws hs))
    where
      told : {s : Said} → TreeTest ws hs s → TreeTest ws hs (tested ws hs)
      told c = rw (tree-test-only _ c) c

      go : (well_formed ws hs ≡ true) ⊎ (well_formed ws hs ≡ false) → TreeTest ws hs (tested ws hs)
      go (inl t) = told (TreeTest.is_well_formed (passes-builds ws hs narrow t))
      go (inr f) = told (TreeTest.broken (not-built ws hs f))
