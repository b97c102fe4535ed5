-- What each return of the repair says: a refusal for sizes or words, and what the repair says and leaves.
use mathlib.Core.Path.{◌≡◌, sym, ◌∙◌, ap}
use mathlib.Core.List.{List}
use Prim.Native.Nat.{ℕ}
use lib.ListN.{length}
use borrow.Author.Tests.{eq-eqb, ne_eqb}
use Rattle.routes.specs.Said.{Said}
use Rattle.sail.specs.Lent.{Lent}
use Rattle.sail.specs.Sizes.{sizes_fault, SizesTold}
use Rattle.sail.specs.declared.table.Table.{Table}
use Rattle.sail_theory.specs.Calls.{Out, out}
use Rattle.packing_repairs.specs.Repairs.{pack_count, told_in, words_fault}
use Rattle.repair_theory.specs.Repair.{repaired}
use Rattle.repair_words.specs.Repairs.{repair_card, repair_card_of, repair_out}

module _ (t : Table) (l : Lent) (xs : List ℕ) (z f : ℕ) (check : SizesTold z t.geometry l) (fault : f ≡ words_fault z (length xs)) where
  fault-so : words_fault (sizes_fault t.geometry l) (length xs) ≡ f
  fault-so = rw (← check.number) (sym fault)

  pub repair-off : (f ≡ 0 → ⊥) → (r : ℕ) → r ≡ f → repair_card r l xs ≡ repair_out t l xs
  unfolding repair_out
  repair-off h r e = rw (fault-so, ne_eqb f 0 h, e)

  pub repair-on : f ≡ 0 → (s : Said) (u : Table) (v : Lent) → out s u v ≡ repaired t l → (ys : List ℕ) → ys ≡ told_in s xs → (r : ℕ) → r ≡ pack_count u.count s
      → repair_card r v ys ≡ repair_out t l xs
  unfolding repair_out
  repair-on h s u v is ys told r number =
      rw (fault-so, eq-eqb f 0 h) ((λ i. repair_card (number i) v (told i)) ∙ ap (λ (o : Out). repair_card_of o xs) is)
