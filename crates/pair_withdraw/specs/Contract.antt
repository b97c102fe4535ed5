-- The statement of a party's withdrawal, as a predicate on what was given, what is answered, the state with it (both are r) and what is lent at exit (e).
use Rattle.std.specs.Prelude.{[], ◌≡◌, ℕ}
use Rattle.routes.specs.Said.{accepted}
use Rattle.sail_theory.specs.Calls.{or_say}
use Rattle.sail_withdraw.specs.Answers.{means_withdraw}
use Rattle.pair.specs.Party.{Party}
use Rattle.pair.specs.PairLent.{PairLent}
use Rattle.pair.specs.PairCalls.{pair_out, pair_taking, pair_withdrawn}
use Rattle.pair.specs.declared.Pair.{Pair}
use Rattle.pair_withdraw.specs.declared.answers.PairWithdrawn.{PairWithdrawn}
use Rattle.pair_withdraw.specs.declared.side.PairTaken.{PairTaken}

-- of a prefix with no bit set after its length: 0, or the number of the refusal
abbrev pub MeetsPairTake : Party → Pair → PairLent → ℕ → ℕ → PairTaken → PairLent → Type 0
MeetsPairTake w t b a len r e = pair_out (or_say r.number (accepted [])) r.state e ≡ pair_taking w t b a len

-- of any prefix: the call's `ensures`, which leaves one answer (proofs/OneAnswer.antt)
abbrev pub MeetsPairWithdraw : Party → Pair → PairLent → ℕ → ℕ → PairWithdrawn → PairLent → Type 0
MeetsPairWithdraw w t b addr len r e = pair_out (means_withdraw r.answer) r.state e ≡ pair_withdrawn w t b addr len
