-- Of a call that changes a table: where what it says, the state and all that is lent are one outcome, no second answer goes with it.
use mathlib.Core.Path.{◌≡◌, sym, ◌∙◌, ap}
use Rattle.routes.specs.Said.{Said}
use Rattle.sail.specs.Lent.{Lent}
use Rattle.sail.specs.declared.table.Table.{Table}
use Rattle.sail_theory.specs.Calls.{Out, out, Ends}

-- The answer is known from what it says, and the rest is part of the outcome. `both` puts answer and state together as the call hands them back.
module _ {A R : Type 0} (says : A → Said) (injective : (a b : A) → says a ≡ says b → a ≡ b) (both : A → Table → R) where
  pub one_end : (a b : A) (s t : Table) (u v : Lent) (o : Out) → Ends (says a) s u o → Ends (says b) t v o → (both a s ≡ both b t) × (u ≡ v)
  one_end a b s t u v o p q =
      let e : out (says a) s u ≡ out (says b) t v = p ∙ sym q in
      let c = injective a b (ap (λ (z : Out). z.said) e) in
      ((λ i. both (c i) (e i).table), ap (λ (z : Out). z.lent) e)
