-- The header step, by any lookup: `look a` is what the lookup of the address a answers. Tables of one party and of two differ in it alone.
use Rattle.std.specs.Prelude.{cond, List, ℕ, eqb}
use Rattle.routes.specs.Record.{word32}
use Rattle.routes.specs.Said.{Said, refused}
use Rattle.sail.specs.Word.{pack_found, has_hop}
use Rattle.header.specs.Header.{header_fault, lowered}

-- what the step answers, and the packet at the end
pub record StepOut : Type 0 where
  pub said : Said
  pub packet : List ℕ

abbrev pub step_out : Said → List ℕ → StepOut
step_out s p = record { said = s; packet = p }

-- "looks up the destination": bytes 16 to 19
abbrev pub destination : List ℕ → ℕ
destination p = word32 p 16

-- "No route leaves the header as it was", and so does a refusal
abbrev pub hopped : Said → List ℕ → StepOut
hopped s p = step_out s (cond (has_hop s) (lowered p) p)

-- 19 to 22 "before lookup's"; then what the lookup of the destination answers
unfoldable pub stepped : (ℕ → Said) → List ℕ → StepOut
stepped look p = cond (eqb (header_fault p) 0) (hopped (look (destination p)) p) (step_out (refused (header_fault p)) p)

-- an answer packed as a lookup's, and the packet at the end
pub record StepCard : Type 0 where
  pub answer : ℕ
  pub packet : List ℕ

abbrev pub step_card : ℕ → List ℕ → StepCard
step_card r p = record { answer = r; packet = p }

unfoldable pub step_card_of : StepOut → StepCard
step_card_of o = step_card (pack_found o.said) o.packet
