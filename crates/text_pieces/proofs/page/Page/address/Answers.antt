-- `text_pieces::page::Page::address`. An address, as four numbers with points between them.
use native.Mathlib.Omega.{arith}
use Rattle.text_pieces.proofs.Addresses.{room-bytes, writes-bytes}
use Rattle.text_pieces.proofs.Pages.{writes-more, room_rest}
use Rattle.text_pieces.proofs.Writes.{room-first}
use Rattle.text_pieces.proofs.page.Page.address.Goals as goal

pub number-requires : goal.number-requires
number-requires c = room-first _ _ (room-first _ _ (room-first _ _ (room-bytes _ _ c.to_be_bytes.ensures (omega arith) c.requires)))

pub labelled-requires : goal.labelled-requires
labelled-requires c =
    room_rest (room-first _ _ (room-first _ _ (room-bytes _ _ c.to_be_bytes.ensures (omega arith) c.requires))) c.number.ensures

pub labelled-requires-2 : goal.labelled-requires-2
labelled-requires-2 c =
    room_rest (room-first _ _ (room-bytes _ _ c.to_be_bytes.ensures (omega arith) c.requires)) (writes-more c.number.ensures c.labelled.ensures)

pub labelled-requires-3 : goal.labelled-requires-3
labelled-requires-3 c =
    room_rest (room-bytes _ _ c.to_be_bytes.ensures (omega arith) c.requires)
    (writes-more (writes-more c.number.ensures c.labelled.ensures) c.labelled-2.ensures)

pub returns : goal.returns
returns c =
    writes-bytes _ _ c.to_be_bytes.ensures (omega arith)
    (writes-more (writes-more (writes-more c.number.ensures c.labelled.ensures) c.labelled-2.ensures) c.labelled-3.ensures)
