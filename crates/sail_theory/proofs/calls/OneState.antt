-- Of a call that answers with the new state, or why there is none: where what it says and the state are known, no second answer goes with them.
use mathlib.Core.Path.{◌≡◌, refl, sym, ◌∙◌, ap}
use mathlib.Core.Bool.{Bool, true, false, true≢false}
use mathlib.Core.List.{List, []}
use Rattle.std.specs.Prelude.{ℕ, Result, Ok, Err, ⊤}
use Rattle.refusals.specs.declared.Refusal.{Refusal}
use Rattle.refusals.specs.declared.Refused.{Refused}
use Rattle.routes.specs.Said.{Said, accepts, said_by, said_plainly}
use Rattle.routes.proofs.Saids.{said-injective, plainly-injective, told-off}
use Rattle.sail.specs.Lent.{Lent}
use Rattle.sail.specs.declared.table.Table.{Table}
use Rattle.sail_theory.specs.Calls.{Out, out, Ends}
use Rattle.sail_theory.specs.After.{no_values, state_after}

-- why there is none; w where there is one
why_not : {A E : Type 0} → E → Result A E → E
why_not w (Ok a) = w
why_not w (Err v) = v

module _ {S : Type 0} (s : S) where
  pub one_state : (x y : Result S Refused) → said_by no_values x ≡ said_by no_values y → state_after s x ≡ state_after s y → x ≡ y
  unfolding said_by why_not
  one_state (Ok a) (Ok b) e q = ap (λ (u : S). Ok u) q
  one_state (Ok a) (Err w) e q = absurd (true≢false (ap accepts e ∙ told-off w))
  one_state (Err v) (Ok b) e q = absurd (true≢false (sym (ap accepts e) ∙ told-off v))
  one_state (Err v) (Err w) e q = ap (λ (r : Refused). Err r) (ap (why_not w) (said-injective {A = ⊤} no_values (λ _. tt) (λ _. refl) (Err v) (Err w) e))

  pub one_state_plainly : (x y : Result S Refusal) → said_plainly no_values x ≡ said_plainly no_values y → state_after s x ≡ state_after s y → x ≡ y
  unfolding said_plainly why_not
  one_state_plainly (Ok a) (Ok b) e q = ap (λ (u : S). Ok u) q
  one_state_plainly (Ok a) (Err w) e q = cc
  one_state_plainly (Err v) (Ok b) e q = cc
  one_state_plainly (Err v) (Err w) e q =
      ap (λ (r : Refusal). Err r) (ap (why_not w) (plainly-injective {A = ⊤} no_values (λ _. tt) (λ _. refl) (Err v) (Err w) e))

-- and all that is lent
module _ {E : Type 0} (t : Table) (says : Result Table E → Said)
    (one : (x y : Result Table E) → says x ≡ says y → state_after t x ≡ state_after t y → x ≡ y) where
  pub one_end_state : (x y : Result Table E) (u v : Lent) (o : Out) → Ends (says x) (state_after t x) u o → Ends (says y) (state_after t y) v o
      → (x ≡ y) × (u ≡ v)
  one_end_state x y u v o p q =
      let e : out (says x) (state_after t x) u ≡ out (says y) (state_after t y) v = p ∙ sym q in
      (one x y (ap (λ (z : Out). z.said) e) (ap (λ (z : Out). z.table) e), ap (λ (z : Out). z.lent) e)
