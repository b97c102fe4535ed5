-- What lookups answer as words: of one address, and of many.
use Rattle.std.specs.Prelude.{cond, List, ℕ, ◌%◌, ◌^◌, eqb, length, get_or}
use Rattle.bits.specs.Tab.{tabulate}
use Rattle.sail.specs.Lent.{Lent}
use Rattle.sail.specs.Sizes.{sizes_fault}
use Rattle.sail.specs.Walk.{lookup_said}
use Rattle.sail.specs.Word.{pack_found}
use Rattle.sail.specs.declared.table.Table.{Table}

-- the state, from the three numbers that stand for it
abbrev pub table_of : ℕ → ℕ → ℕ → Table
table_of p1 p2 count = record { geometry = record { p1 = p1; p2 = p2 }; count = count }

-- an answer, and one array
pub record WordsCard : Type 0 where
  pub answer : ℕ
  pub out : List ℕ

abbrev pub words_card : ℕ → List ℕ → WordsCard
words_card r xs = record { answer = r; out = xs }

-- the low 32 bits of what one lookup answers
abbrev pub low_found : Table → Lent → ℕ → ℕ
low_found t l a = pack_found (lookup_said t l a) % 2 ^ 32

-- 1, 2 for what is lent to the table, 2 for the two lengths; otherwise each address is looked up
unfoldable pub many_card : Table → Lent → List ℕ → List ℕ → WordsCard
many_card t l ads xs =
    cond (eqb (sizes_fault t.geometry l) 0)
    (cond (eqb (length xs) (length ads)) (words_card 0 (tabulate (length ads) (λ k. low_found t l (get_or ads k 0)))) (words_card 2 xs))
    (words_card (sizes_fault t.geometry l) xs)
