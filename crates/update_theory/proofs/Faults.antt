-- What refuses a message as a whole, in order: the sizes, then soundness, then the message itself.
use mathlib.Core.Path.{◌≡◌}
use mathlib.Core.Logic.{◌≢◌}
use mathlib.Core.Bool.{Bool, true, false}
use mathlib.Core.List.{List}
use Prim.Native.Nat.{ℕ}
use borrow.Author.Tests.{eq-eqb, ne_eqb}
use Rattle.fields.specs.Message.{message_fault}
use Rattle.update_theory.specs.Deal.{update_fault}

module _ (sizes : ℕ) (ok : Bool) (wd re : List ℕ) (hop : ℕ) where
  pub fault-sizes : sizes ≢ 0 → update_fault sizes ok wd re hop ≡ sizes
  unfolding update_fault
  fault-sizes n = rw (ne_eqb sizes 0 n)

  module _ (z : sizes ≡ 0) where
    pub fault-unsound : ok ≡ false → update_fault sizes ok wd re hop ≡ 5
    unfolding update_fault
    fault-unsound e = rw (eq-eqb sizes 0 z, e)

    pub fault-message : ok ≡ true → update_fault sizes ok wd re hop ≡ message_fault wd re hop
    unfolding update_fault
    fault-message e = rw (eq-eqb sizes 0 z, e)
