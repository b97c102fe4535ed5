-- What the judge of a party's announcement answers, where the sizes are right.
use mathlib.Core.Path.{◌≡◌, refl, sym, ◌∙◌}
use mathlib.Core.Bool.{Bool, true, false, not, true≢false, false≢true}
use mathlib.Core.List.{List}
use Prim.Native.Nat.{ℕ}
use native.Mathlib.Omega.{arith}
use borrow.Author.Tests.{not-true, not-false}
use Rattle.routes.specs.Route.{Fine}
use Rattle.routes.specs.Input.{route_fault}
use Rattle.routes.specs.declared.Route.{Route}
use Rattle.routes.proofs.Meaning.{RouteChecked, route-checked}
use Rattle.sail_theory.specs.Calls.{announce_fault}
use Rattle.sail_theory.proofs.Judges.{or-said}
use Rattle.pair.specs.Party.{Party}
use Rattle.pair.specs.PairLent.{PairLent}
use Rattle.pair.specs.PairCalls.{pair_announce_said}
use Rattle.pair.specs.declared.Pair.{Pair}
use Rattle.pair.proofs.PairFresh.{sizes-none}
use Rattle.pair_sound.specs.BoxTest.{BothSized, BoxTold}
use Rattle.pair_announce.specs.Judged.{BoxJudged}

module _ (w : Party) (t : Pair) (b : PairLent) (r : Route) (z : BothSized t.geometry b) (n : ℕ) (e : n ≡ route_fault r) where
  -- what is wrong with the route alone
  pub wrong-route : (n ≡ 0 → ⊥) → (see2 see3 ws par : List ℕ) → BoxJudged n w t b r see2 see3 ws par
  unfolding pair_announce_said
  wrong-route h see2 see3 ws par = record { off = λ _. rw (sizes-none t.geometry b z.each) (or-said _ n _ e h); on = λ y. absurd (h y) }

  module _ (h : n ≡ 0) (d : Bool) (see2 see3 ws par : List ℕ) (told : BoxTold d w t b see2 see3 ws par) where
    fine : Fine r
    fine = go (rw (← e) at (route-checked r))
      where
        go : RouteChecked r n → Fine r
        go (RouteChecked.fine q g) = g
        go (RouteChecked.wrong q w) = absurd (omega arith)

    pub unsound-box : not d ≡ true → BoxJudged 5 w t b r see2 see3 ws par
    unfolding pair_announce_said announce_fault
    unsound-box y = record {
      off = λ _. rw (sizes-none t.geometry b z.each, sym e ∙ h, sym told.is ∙ not-true d y);
      on = λ k. absurd (omega arith);
    }

    pub proper-box : not d ≡ false → BoxJudged 0 w t b r see2 see3 ws par
    proper-box y =
        let s = not-false d y in
        record { off = λ k. absurd (k refl); on = λ _. record { fine = fine; sound = told.tells.0 s; sight = told.sight s } }
