-- The statement of a party's announcement, as a predicate on what was given, what is answered, the state with it (both are r) and what is lent at exit
-- (e). It is the call's `ensures`, and that it leaves one answer is shown of it in proofs/OneAnswer.antt.
use Rattle.std.specs.Prelude.{◌≡◌}
use Rattle.routes.specs.declared.Route.{Route}
use Rattle.sail_announce.specs.Answers.{means_announce}
use Rattle.pair.specs.Party.{Party}
use Rattle.pair.specs.PairLent.{PairLent}
use Rattle.pair.specs.PairCalls.{pair_out, pair_announced}
use Rattle.pair.specs.declared.Pair.{Pair}
use Rattle.pair_announce.specs.declared.turn.PairAnnounced.{PairAnnounced}

abbrev pub MeetsPairAnnounce : Party → Pair → PairLent → Route → PairAnnounced → PairLent → Type 0
MeetsPairAnnounce w t b route r e = pair_out (means_announce r.answer) r.state e ≡ pair_announced w t b route
