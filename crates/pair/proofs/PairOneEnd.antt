-- Of a call that changes a box: if what it returns, the state and all that is lent are one outcome, no second answer goes with it.
use mathlib.Core.Path.{◌≡◌, sym, ◌∙◌, ap}
use Rattle.routes.specs.Said.{Said}
use Rattle.pair.specs.PairLent.{PairLent}
use Rattle.pair.specs.PairCalls.{PairOut, pair_out}
use Rattle.pair.specs.declared.Pair.{Pair}

-- The answer is known from what it means, and the rest is part of the outcome. `both` puts answer and state together as the call hands them back.
module _ {A R : Type 0} (says : A → Said) (injective : (a b : A) → says a ≡ says b → a ≡ b) (both : A → Pair → R) where
  pub pair-one-end : (a b : A) (s t : Pair) (u v : PairLent) (o : PairOut) → pair_out (says a) s u ≡ o → pair_out (says b) t v ≡ o
      → (both a s ≡ both b t) × (u ≡ v)
  pair-one-end a b s t u v o p q =
      let e : pair_out (says a) s u ≡ pair_out (says b) t v = p ∙ sym q in
      let c = injective a b (ap (λ (z : PairOut). z.said) e) in
      ((λ i. both (c i) (e i).state), ap (λ (z : PairOut). z.lent) e)
