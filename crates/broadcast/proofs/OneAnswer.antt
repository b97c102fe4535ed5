-- Two answers that the statement of a broadcast allows are the same.
use Rattle.std.specs.Prelude.{◌≡◌, ℕ, Bool, true, false, List, [], ◌∷◌, refl, eqb, get_or, Result}
use Rattle.std.proofs.Common.{sym, ◌∙◌}
use Rattle.bits.specs.Count.{bit}
use Rattle.refusals.specs.declared.Refused.{Refused}
use Rattle.routes.proofs.Saids.{said-injective}
use Rattle.broadcast.specs.Cast.{means_cast}
use Rattle.broadcast.specs.Contract.{MeetsBroadcast}

bit-back : (b : Bool) → eqb (bit b) 1 ≡ b
bit-back true = refl
bit-back false = refl

-- two answers that say the same are the same
pub cast-injective : (x y : Result Bool Refused) → means_cast x ≡ means_cast y → x ≡ y
cast-injective = said-injective (λ b. bit b ∷ []) (λ vs. eqb (get_or vs 0 0) 1) bit-back

pub one-answer-broadcast : (version : ℕ) (input : List ℕ) (addr : ℕ) (x y : Result Bool Refused)
    → MeetsBroadcast version input addr x → MeetsBroadcast version input addr y → x ≡ y
one-answer-broadcast version input addr x y p q = cast-injective x y (p ∙ sym q)
