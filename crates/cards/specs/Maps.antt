-- What the exported calls on bit maps answer and leave.
use Rattle.std.specs.Prelude.{List, ℕ}
use Rattle.basic.specs.Calls.{Many}
use Rattle.basic_build.specs.Built.{MapsOut}
use Rattle.packing.specs.Pack.{pack_none}
use Rattle.sail_words.specs.Lookups.{WordsCard, words_card}

-- an answer, and the two maps
pub record MapsCard : Type 0 where
  pub answer : ℕ
  pub bits : List ℕ
  pub cells : List ℕ

abbrev pub maps_card : ℕ → List ℕ → List ℕ → MapsCard
maps_card r bs cs = record { answer = r; bits = bs; cells = cs }

unfoldable pub maps_card_of : MapsOut → MapsCard
maps_card_of o = maps_card (pack_none o.said) o.bits o.cells

-- an answer, and the words of many lookups
unfoldable pub hops_card : Many → WordsCard
hops_card m = words_card (pack_none m.said) m.words
