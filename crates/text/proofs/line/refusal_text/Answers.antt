-- `text::line::refusal_text`: the number, then the index where there is one, and the line's end.
use native.Mathlib.Omega.{arith}
use borrow.Author.Rules.{rules}
use Rattle.text_pieces.specs.Pieces.{labelled, ascii}
use Rattle.text_pieces.proofs.Digits.{digits-few}
use Rattle.text_pieces.proofs.Pages.{given-back}
use Rattle.text.proofs.Lines.{room_index, told-none, told-index, room_end, refusal-writes}
use Rattle.text.proofs.line.refusal_text.Goals as goal
use Rattle.text.proofs.line.refusal_text.Goals.{in-Some, in_default}

pub labelled-requires : goal.labelled-requires
unfolding labelled ascii
labelled-requires c = record { room = omega (arith, digits-few 2 c.args.number (omega arith)) }

pub labelled-requires-in-Some : goal.labelled-requires-in-Some
unfolding labelled ascii
labelled-requires-in-Some c = room_index _ (omega arith) (omega arith) _ (omega arith) c.labelled.ensures

pub byte-requires : goal.byte-requires
unfolding labelled ascii
byte-requires c =
    room_end _ _ (omega arith) (omega arith) (elim c.match-index.branch [
      | in-Some w ↦ told-index _ _ _ (omega arith) w.in-Some.is c.labelled.ensures w.labelled-in-Some.ensures w.page-is
      | in_default w ↦ told-none _ _ (search rules) c.labelled.ensures w.page-is
    ])

pub returns : goal.returns
unfolding labelled ascii
returns c =
    given-back (refusal-writes _ _ (elim c.match-index.branch [
      | in-Some w ↦ told-index _ _ _ (omega arith) w.in-Some.is c.labelled.ensures w.labelled-in-Some.ensures w.page-is
      | in_default w ↦ told-none _ _ (search rules) c.labelled.ensures w.page-is
    ]) c.byte.ensures) (search rules)
