-- Two outcomes that the statement of a party's announcement allows are the same: its answer, the state, and all that is lent.
use mathlib.Core.Path.{◌≡◌, sym, ◌∙◌, ap, ap₂}
use Rattle.routes.specs.declared.Route.{Route}
use Rattle.sail_announce.specs.declared.answers.Announce.{Announce}
use Rattle.sail_announce.proofs.Injective.{announce-injective}
use Rattle.pair.specs.Party.{Party}
use Rattle.pair.specs.PairLent.{PairLent}
use Rattle.pair.specs.PairCalls.{PairOut}
use Rattle.pair.specs.declared.Pair.{Pair}
use Rattle.pair_announce.specs.Contract.{MeetsPairAnnounce}
use Rattle.pair_announce.specs.declared.turn.PairAnnounced.{PairAnnounced}

pub one-answer-pair-announce : (w : Party) (t : Pair) (b : PairLent) (r : Route) (x y : PairAnnounced) (u v : PairLent) → MeetsPairAnnounce w t b r x u
    → MeetsPairAnnounce w t b r y v → (x ≡ y) × (u ≡ v)
one-answer-pair-announce w t b r x y u v p q =
    let same = p ∙ sym q in
    let answer = announce-injective x.answer y.answer (ap (λ (o : PairOut). o.said) same) in
    let state = ap (λ (o : PairOut). o.state) same in
    (ap₂ (λ (a : Announce) (s : Pair). record { answer = a; state = s }) answer state, ap (λ (o : PairOut). o.lent) same)
