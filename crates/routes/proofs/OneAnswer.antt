-- Two answers that the statement of a call on a record input allows are the same.
use Rattle.std.specs.Prelude.{◌≡◌, ℕ, List, [], ◌∷◌, refl, get_or, Option, Some, None, Result}
use Rattle.std.proofs.Common.{sym, ◌∙◌}
use Rattle.refusals.specs.declared.Refused.{Refused}
use Rattle.refusals.specs.declared.Refusal.{Refusal}
use Rattle.routes.specs.Answers.{if_there, means_got, reads_and, found_values, means_found}
use Rattle.routes.specs.declared.found.Found.{Found}
use Rattle.routes.specs.Contract.{MeetsCheckInput, MeetsRouteAt}
use Rattle.routes.specs.declared.Route.{Route}
use Rattle.routes.proofs.Inputs.{input-injective}
use Rattle.routes.proofs.Saids.{said-injective, plainly-injective}

pub one-answer-check-input : (bytes : List ℕ) (x y : Result ℕ Refused) → MeetsCheckInput bytes x → MeetsCheckInput bytes y → x ≡ y
one-answer-check-input bytes x y p q = input-injective x y (p ∙ sym q)

-- a route that is read back is read from what is said
read_got : List ℕ → Option Route
read_got [] = None
read_got (a ∷ vs) = Some (record { addr = a; len = get_or vs 0 0; mark = get_or vs 1 0; hop = get_or vs 2 0 })

read-got : (x : Option Route) → read_got (if_there x) ≡ x
unfolding read_got
read-got (Some r) = refl
read-got None = refl

-- two answers about a route that say the same are the same
pub got-injective : (x y : Result (Option Route) Refused) → means_got x ≡ means_got y → x ≡ y
got-injective = said-injective if_there read_got read-got

pub one-answer-route-at : (bytes : List ℕ) (index : ℕ) (x y : Result (Option Route) Refused)
    → MeetsRouteAt bytes index x → MeetsRouteAt bytes index y → x ≡ y
one-answer-route-at bytes index x y p q = got-injective x y (p ∙ sym q)

-- what a lookup found is read from what it says
hop_in : List ℕ → Option ℕ
hop_in [] = None
hop_in (n ∷ []) = None
hop_in (n ∷ h ∷ vs) = Some h

read_found : List ℕ → Found
read_found vs = record { hop = hop_in vs; reads = get_or vs 0 0 }

hop-back : (n : ℕ) (o : Option ℕ) → (hop_in (reads_and n o) ≡ o) × (get_or (reads_and n o) 0 0 ≡ n)
unfolding hop_in
hop-back n None = (refl, refl)
hop-back n (Some h) = (refl, refl)

read-found : (x : Found) → read_found (found_values x) ≡ x
unfolding read_found
read-found x = rw (hop-back x.reads x.hop).0 (rw (hop-back x.reads x.hop).1 refl)

-- two answers of a lookup that say the same are the same
pub found-injective : (x y : Result Found Refusal) → means_found x ≡ means_found y → x ≡ y
found-injective = plainly-injective found_values read_found read-found
