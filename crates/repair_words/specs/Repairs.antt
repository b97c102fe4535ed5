-- What a repair with words beside it answers and leaves.
use Rattle.std.specs.Prelude.{cond, List, ℕ, eqb, length}
use Rattle.sail.specs.Lent.{Lent}
use Rattle.sail.specs.Sizes.{sizes_fault}
use Rattle.sail.specs.declared.table.Table.{Table}
use Rattle.sail_theory.specs.Calls.{Out}
use Rattle.packing_repairs.specs.Repairs.{pack_count, told_in, words_fault}
use Rattle.repair_theory.specs.Repair.{repaired}

-- an answer, all that is lent to a table, and the words beside it, at the end
pub record RepairCard : Type 0 where
  pub answer : ℕ
  pub lent : Lent
  pub out : List ℕ

abbrev pub repair_card : ℕ → Lent → List ℕ → RepairCard
repair_card r l xs = record { answer = r; lent = l; out = xs }

-- a repair that was judged: its number, and its values in the words, where it is accepted
abbrev pub repair_card_of : Out → List ℕ → RepairCard
repair_card_of o xs = repair_card (pack_count o.table.count o.said) o.lent (told_in o.said xs)

-- 1, 2 for what is lent, 2 where there are not four words; then what the repair says
unfoldable pub repair_out : Table → Lent → List ℕ → RepairCard
repair_out t l xs =
    cond (eqb (words_fault (sizes_fault t.geometry l) (length xs)) 0)
    (repair_card_of (repaired t l) xs)
    (repair_card (words_fault (sizes_fault t.geometry l) (length xs)) l xs)
