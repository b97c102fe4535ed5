-- Two outcomes that the statement of a build allows are the same: its answer, the words and the hops.
use mathlib.Core.Path.{◌≡◌, sym, ◌∙◌, ap}
use mathlib.Core.List.{List}
use Prim.Native.Nat.{ℕ}
use Rattle.tree_build.specs.Built.{ImageOut}
use Rattle.tree_build.specs.Contract.{MeetsBuild}
use Rattle.std.specs.Prelude.{Result}
use Rattle.refusals.specs.declared.Refused.{Refused}
use Rattle.tree_image.specs.declared.Used.{Used}
use Rattle.tree_image.proofs.Useds.{used-injective}

pub one-answer-build : (input words hops : List ℕ) (x y : Result Used Refused) (ws ws' hs hs' : List ℕ)
    → MeetsBuild input words hops x ws hs → MeetsBuild input words hops y ws' hs' → (x ≡ y) × (ws ≡ ws') × (hs ≡ hs')
one-answer-build input words hops x y ws ws' hs hs' p q =
    let e = p ∙ sym q in
    (used-injective x y (ap (λ (u : ImageOut). u.said) e), ap (λ (u : ImageOut). u.words) e, ap (λ (u : ImageOut). u.hops) e)
