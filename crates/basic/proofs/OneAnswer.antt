-- Two outcomes that the statement of a lookup, or of many, allows are the same.
use mathlib.Core.Path.{◌≡◌, sym, ◌∙◌, ap}
use mathlib.Core.List.{List}
use Prim.Native.Nat.{ℕ}
use Rattle.basic.specs.Calls.{Many}
use Rattle.basic.specs.Contract.{MeetsBasicLookup, MeetsBasicMany}
use Rattle.std.specs.Prelude.{Option, Result}
use Rattle.refusals.specs.declared.Refused.{Refused}
use Rattle.basic.proofs.Injective.{basic-found-injective, basic-answer-injective}

module _ (input bits cells : List ℕ) where
  pub one-answer-basic-lookup : (addr : ℕ) (x y : Result (Option ℕ) Refused)
      → MeetsBasicLookup input bits cells addr x → MeetsBasicLookup input bits cells addr y → x ≡ y
  one-answer-basic-lookup addr x y p q = basic-found-injective x y (p ∙ sym q)

  pub one-answer-basic-lookup-many : (addrs words : List ℕ) (x y : Result (Unit {0}) Refused) (ws ws' : List ℕ)
      → MeetsBasicMany input bits cells addrs words x ws → MeetsBasicMany input bits cells addrs words y ws' → (x ≡ y) × (ws ≡ ws')
  one-answer-basic-lookup-many addrs words x y ws ws' p q =
      let e = p ∙ sym q in
      (basic-answer-injective x y (ap (λ (u : Many). u.said) e), ap (λ (u : Many). u.words) e)
