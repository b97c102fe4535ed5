-- Answers that are told the same are the same.
use Rattle.std.specs.Prelude.{◌≡◌, ℕ, List, [], ◌∷◌, refl, Option, Some, None, Result}
use Rattle.refusals.specs.declared.Refused.{Refused}
use Rattle.routes.proofs.Saids.{said-injective}
use Rattle.basic.specs.Calls.{if_hop, means_basic_found, means_basic_answer}

hop_in : List ℕ → Option ℕ
hop_in [] = None
hop_in (h ∷ vs) = Some h

hop-back : (o : Option ℕ) → hop_in (if_hop o) ≡ o
unfolding hop_in
hop-back None = refl
hop-back (Some h) = refl

pub basic-found-injective : (x y : Result (Option ℕ) Refused) → means_basic_found x ≡ means_basic_found y → x ≡ y
basic-found-injective = said-injective if_hop hop_in hop-back

pub basic-answer-injective : (x y : Result (Unit {0}) Refused) → means_basic_answer x ≡ means_basic_answer y → x ≡ y
basic-answer-injective = said-injective (λ _. []) (λ _. tt) (λ u. refl)
