-- Two outcomes that the statement of make for two parties allows are the same: its answer, and all that is lent.
use mathlib.Core.Path.{◌≡◌, sym, ◌∙◌, ap}
use Rattle.std.specs.Prelude.{Result}
use Rattle.refusals.specs.declared.Refusal.{Refusal}
use Rattle.sail_theory.specs.After.{state_after}
use Rattle.sail_theory.proofs.calls.OneState.{one_state_plainly}
use Rattle.pair.specs.PairLent.{PairLent}
use Rattle.pair.specs.PairCalls.{PairOut, pair_out}
use Rattle.pair.specs.declared.Pair.{Pair}
use Rattle.pair_make.specs.Contract.{means_made_pair, MeetsPairMake}

pub one-answer-pair-make : (t : Pair) (b : PairLent) (x y : Result Pair Refusal) (u v : PairLent) → MeetsPairMake t b x u → MeetsPairMake t b y v
    → (x ≡ y) × (u ≡ v)
one-answer-pair-make t b x y u v p q =
    let e : pair_out (means_made_pair x) (state_after t x) u ≡ pair_out (means_made_pair y) (state_after t y) v = p ∙ sym q in
    (one_state_plainly t x y (ap (λ (z : PairOut). z.said) e) (ap (λ (z : PairOut). z.state) e), ap (λ (z : PairOut). z.lent) e)
