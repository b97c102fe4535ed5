-- A part matches its plan exactly where it is as the routes ask.
use mathlib.Core.Path.{◌≡◌, sym, subst, ◌∙◌}
use mathlib.Core.Logic.{◌⊎◌, inl, inr}
use mathlib.Core.Bool.{Bool, true, false, cond}
use mathlib.Core.List.{List}
use Prim.Native.Nat.{ℕ, ◌+◌, ◌<◌}
use native.Mathlib.Omega.{arith}
use lib.ListN.{length, get_or}
use Rattle.bits.specs.Tab.{Tells}
use Rattle.bits.proofs.Tabs.{length-tabulate, get_d_tabulate}
use Rattle.bits.proofs.Bools.{decided}
use Rattle.standing.specs.Cells.{long, best}
use Rattle.routes.specs.declared.Route.{Route}
use Rattle.plan.specs.Plan.{plan, planned}
use Rattle.plan_test.specs.Part.{NamesBack, Matches, Right}
use Rattle.bits.proofs.Tells.{tells-same}

module _ (rs : List Route) (p base : ℕ) (part own : List ℕ) (o n : ℕ) where
  pub length-planned : length (planned rs p base n) ≡ n
  unfolding planned
  length-planned = length-tabulate n _

  plan-at : (j : ℕ) (b : Bool) → j < n → long rs p (base + j) ≡ b → get_or (planned rs p base n) j 0 ≡ cond b 0 (32768 + best rs p (base + j))
  unfolding planned plan
  plan-at j b l e = get_d_tabulate n _ j 0 l ∙ rw e

  pub matches-right : Matches part o (planned rs p base n) own → Right rs p base part own o n
  matches-right m = record {
    leaf = λ j l e. let v = plan-at j false l e in m.leaf j (rw length-planned l) (λ z. omega arith) ∙ v;
    node = λ j l e. m.node j (rw length-planned l) (plan-at j true l e);
  }

  pub right-matches : Right rs p base part own o n → Matches part o (planned rs p base n) own
  right-matches r = record {
    leaf = λ j u z. let l : j < n = rw length-planned at u in leaf j l z (decided (long rs p (base + j)));
    node = λ j u z. let l : j < n = rw length-planned at u in node j l z (decided (long rs p (base + j)));
  }
    where
      leaf : (j : ℕ) → j < n → (get_or (planned rs p base n) j 0 ≡ 0 → ⊥) → (long rs p (base + j) ≡ true) ⊎ (long rs p (base + j) ≡ false)
          → get_or part j 0 ≡ get_or (planned rs p base n) j 0
      leaf j l z (inl e) = absurd (z (plan-at j true l e))
      leaf j l z (inr e) = r.leaf j l e ∙ sym (plan-at j false l e)

      node : (j : ℕ) → j < n → get_or (planned rs p base n) j 0 ≡ 0 → (long rs p (base + j) ≡ true) ⊎ (long rs p (base + j) ≡ false) → NamesBack
          (get_or part j 0) own (o + j)
      node j l z (inl e) = r.node j l e
      node j l z (inr e) = let v = plan-at j false l e in absurd (omega arith)

  -- what `as_planned` tells, where its plan is that of the whole list
  pub tells-right : (b : Bool) (want : List ℕ) → want ≡ planned rs p base n → Tells b (Matches part o want own) → Tells b (Right rs p base part own o n)
  tells-right b want e t = tells-same matches-right right-matches (subst (λ (w : List ℕ). Tells b (Matches part o w own)) e t)
