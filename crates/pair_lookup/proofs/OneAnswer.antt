-- Two answers that the statement of a party's lookup allows are the same.
use Rattle.std.specs.Prelude.{◌≡◌, ℕ, Result}
use Rattle.std.proofs.Common.{sym, ◌∙◌}
use Rattle.refusals.specs.declared.Refusal.{Refusal}
use Rattle.routes.specs.declared.found.Found.{Found}
use Rattle.routes.proofs.OneAnswer.{found-injective}
use Rattle.pair.specs.Party.{Party}
use Rattle.pair.specs.PairLent.{PairLent}
use Rattle.pair.specs.declared.Pair.{Pair}
use Rattle.pair_lookup.specs.Contract.{MeetsPairLookup}

pub one-answer-pair-lookup : (w : Party) (t : Pair) (b : PairLent) (addr : ℕ) (x y : Result Found Refusal)
    → MeetsPairLookup w t b addr x → MeetsPairLookup w t b addr y → x ≡ y
one-answer-pair-lookup w t b addr x y p q = found-injective x y (p ∙ sym q)
