-- What the exported calls that write answer and leave.
use Rattle.std.specs.Prelude.{List, ℕ}
use Rattle.sail.specs.Lent.{Lent}
use Rattle.sail_theory.specs.Calls.{Out}
use Rattle.tree_build.specs.Built as tree
use Rattle.packing.specs.Pack.{pack_change, pack_built}

-- an answer, and all that is lent to a table at the end
pub record Card : Type 0 where
  pub answer : ℕ
  pub lent : Lent

abbrev pub card : ℕ → Lent → Card
card r l = record { answer = r; lent = l }

unfoldable pub card_of : Out → Card
card_of o = card (pack_change o.table.count o.said) o.lent

-- an answer, and the two arrays of an image
pub record ImageCard : Type 0 where
  pub answer : ℕ
  pub words : List ℕ
  pub hops : List ℕ

abbrev pub image_card : ℕ → List ℕ → List ℕ → ImageCard
image_card r ws hs = record { answer = r; words = ws; hops = hs }

unfoldable pub image_card_of : tree.ImageOut → ImageCard
image_card_of o = image_card (pack_built o.said) o.words o.hops
