-- `text::line::put_head`. A table's first line.
use Rattle.text_pieces.specs.Pieces.{labelled, ascii}
use Rattle.text_pieces.proofs.Pages.{writes-more, room_rest}
use Rattle.text_pieces.proofs.Writes.{room-first}
use Rattle.text.specs.Text.{head_line}
use Rattle.text.proofs.line.put_head.Goals as goal

pub labelled-requires : goal.labelled-requires
unfolding head_line labelled ascii
labelled-requires c = room-first _ _ (room-first _ _ (room-first _ _ c.requires))

pub labelled-requires-2 : goal.labelled-requires-2
unfolding head_line labelled ascii
labelled-requires-2 c = room_rest (room-first _ _ (room-first _ _ c.requires)) c.labelled.ensures

pub labelled-requires-3 : goal.labelled-requires-3
unfolding head_line labelled ascii
labelled-requires-3 c = room_rest (room-first _ _ c.requires) (writes-more c.labelled.ensures c.labelled-2.ensures)

pub byte-requires : goal.byte-requires
unfolding head_line labelled ascii
byte-requires c =
    room_rest c.requires (writes-more (writes-more c.labelled.ensures c.labelled-2.ensures) c.labelled-3.ensures)

pub returns : goal.returns
unfolding head_line labelled ascii
returns c = writes-more (writes-more (writes-more c.labelled.ensures c.labelled-2.ensures) c.labelled-3.ensures) c.byte.ensures
