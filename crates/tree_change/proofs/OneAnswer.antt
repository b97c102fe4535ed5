-- Two outcomes that the statement of announce or of withdraw on an image allows are the same: the answer, the words and the hops.
use mathlib.Core.Path.{◌≡◌, sym, ◌∙◌, ap}
use mathlib.Core.List.{List}
use Prim.Native.Nat.{ℕ}
use Rattle.routes.specs.Said.{Said}
use Rattle.tree_build.specs.Built.{ImageOut, image_out}
use Rattle.tree_theory.specs.Changed.{means_tree_announced, means_tree_withdrawn}
use Rattle.tree_change.specs.Contract.{MeetsTreeAnnounce, MeetsTreeWithdraw}
use Rattle.std.specs.Prelude.{Result}
use Rattle.refusals.specs.declared.Refusal.{Refusal}
use Rattle.tree_image.specs.declared.Used.{Used}
use Rattle.tree_image.proofs.Useds.{used-plainly-injective}
use Rattle.tree_theory.specs.declared.Announced.{Announced}
use Rattle.tree_theory.proofs.Cases.{means_tree_announced-injective}

-- the answer is known from what it says, and the rest is part of the outcome
one_end : {A : Type 0} (says : A → Said) → ((a b : A) → says a ≡ says b → a ≡ b) → (x y : A) (ws ws' hs hs' : List ℕ) (o : ImageOut)
    → image_out (says x) ws hs ≡ o → image_out (says y) ws' hs' ≡ o → (x ≡ y) × (ws ≡ ws') × (hs ≡ hs')
one_end says injective x y ws ws' hs hs' o p q =
    let e = p ∙ sym q in
    (injective x y (ap (λ (u : ImageOut). u.said) e), ap (λ (u : ImageOut). u.words) e, ap (λ (u : ImageOut). u.hops) e)

module _ (words hops : List ℕ) (addr len : ℕ) where
  pub one-answer-tree-announce : (hop : ℕ) (x y : Result Announced Refusal) (ws ws' hs hs' : List ℕ)
      → MeetsTreeAnnounce words hops addr len hop x ws hs → MeetsTreeAnnounce words hops addr len hop y ws' hs' → (x ≡ y) × (ws ≡ ws') × (hs ≡ hs')
  one-answer-tree-announce hop x y ws ws' hs hs' = one_end means_tree_announced means_tree_announced-injective x y ws ws' hs hs' _

  pub one-answer-tree-withdraw : (x y : Result Used Refusal) (ws ws' hs hs' : List ℕ)
      → MeetsTreeWithdraw words hops addr len x ws hs → MeetsTreeWithdraw words hops addr len y ws' hs' → (x ≡ y) × (ws ≡ ws') × (hs ≡ hs')
  one-answer-tree-withdraw x y ws ws' hs hs' = one_end means_tree_withdrawn used-plainly-injective x y ws ws' hs hs' _
