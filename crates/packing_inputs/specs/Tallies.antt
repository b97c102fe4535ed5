-- What a tally into words answers and leaves.
use Rattle.std.specs.Prelude.{cond, List, ℕ, eqb, length}
use Rattle.routes.specs.Input.{input_said}
use Rattle.runs.specs.Tally.{tally_of}
use Rattle.sail_words.specs.Lookups.{WordsCard, words_card}
use Rattle.packing.specs.Pack.{pack_none}

-- 2 where there are not 33 words; otherwise the counts, and zeros where the input is refused
unfoldable pub tally_card : List ℕ → List ℕ → WordsCard
tally_card s xs = cond (eqb (length xs) 33) (words_card (pack_none (input_said s)) (tally_of s)) (words_card 2 xs)
