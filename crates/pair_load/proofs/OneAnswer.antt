-- Two outcomes that the statement of a party's load allows are the same: its answer, and all that is lent.
use mathlib.Core.List.{List}
use mathlib.Core.Path.{◌≡◌, sym, ◌∙◌, ap}
use Prim.Native.Nat.{ℕ}
use Rattle.std.specs.Prelude.{Result}
use Rattle.refusals.specs.declared.Refused.{Refused}
use Rattle.sail_theory.specs.After.{state_after}
use Rattle.sail_theory.proofs.calls.OneState.{one_state}
use Rattle.pair.specs.Party.{Party}
use Rattle.pair.specs.PairLent.{PairLent}
use Rattle.pair.specs.PairCalls.{PairOut, pair_out}
use Rattle.pair.specs.declared.Pair.{Pair}
use Rattle.pair_load.specs.Contract.{means_loaded_pair, MeetsPairLoad}

pub one-answer-pair-load : (w : Party) (t : Pair) (b : PairLent) (input : List ℕ) (x y : Result Pair Refused) (u v : PairLent)
    → MeetsPairLoad w t b input x u → MeetsPairLoad w t b input y v → (x ≡ y) × (u ≡ v)
one-answer-pair-load w t b input x y u v p q =
    let e : pair_out (means_loaded_pair x) (state_after t x) u ≡ pair_out (means_loaded_pair y) (state_after t y) v = p ∙ sym q in
    (one_state t x y (ap (λ (z : PairOut). z.said) e) (ap (λ (z : PairOut). z.state) e), ap (λ (z : PairOut). z.lent) e)
