-- What the judge of a party's announcement finds before the room is looked at: the number of its refusal; or 0, and then the box is sound and the route
-- fine, and what the party sees is at hand.
use Rattle.std.specs.Prelude.{List, ℕ}
use Rattle.routes.specs.Route.{Fine}
use Rattle.routes.specs.declared.Route.{Route}
use Rattle.sail_theory.specs.Judge.{Judged}
use Rattle.pair.specs.Party.{Party}
use Rattle.pair.specs.PairLent.{PairLent}
use Rattle.pair.specs.PairSound.{PairSound}
use Rattle.pair.specs.PairCalls.{pair_announce_said}
use Rattle.pair.specs.declared.Pair.{Pair}
use Rattle.pair_sound.specs.BoxTest.{BoxSight}

pub record BoxProper (w : Party) (t : Pair) (b : PairLent) (r : Route) (see2 see3 ws par : List ℕ) : Type 0 where
  pub fine : Fine r
  pub sound : PairSound t b
  pub sight : BoxSight w t b see2 see3 ws par

abbrev pub BoxJudged : ℕ → Party → Pair → PairLent → Route → List ℕ → List ℕ → List ℕ → List ℕ → Type 0
BoxJudged n w t b r see2 see3 ws par = Judged n (pair_announce_said w t b r) (BoxProper w t b r see2 see3 ws par)
