-- `text_routes::put_route`: the pieces of the line one after the other. The room for the line is room for each piece.
use Rattle.text_pieces.specs.Pieces.{labelled, ascii}
use Rattle.text_routes.specs.RouteLine.{route_line}
use Rattle.text_pieces.proofs.Pages.{writes-more, room_rest}
use Rattle.text_pieces.proofs.Writes.{room-first}
use Rattle.text_routes.proofs.put_route.Goals as goal

pub address-requires : goal.address-requires
unfolding route_line labelled ascii
address-requires c = room-first _ _ (room-first _ _ (room-first _ _ (room-first _ _ c.requires)))

pub labelled-requires : goal.labelled-requires
unfolding route_line labelled ascii
labelled-requires c = room_rest (room-first _ _ (room-first _ _ (room-first _ _ c.requires))) c.address.ensures

pub labelled-requires-2 : goal.labelled-requires-2
unfolding route_line labelled ascii
labelled-requires-2 c = room_rest (room-first _ _ (room-first _ _ c.requires)) (writes-more c.address.ensures c.labelled.ensures)

pub put_mark-requires : goal.put_mark-requires
unfolding route_line labelled ascii
put_mark-requires c =
    room_rest (room-first _ _ c.requires) (writes-more (writes-more c.address.ensures c.labelled.ensures) c.labelled-2.ensures)

pub byte-requires : goal.byte-requires
unfolding route_line labelled ascii
byte-requires c =
    room_rest c.requires
    (writes-more (writes-more (writes-more c.address.ensures c.labelled.ensures) c.labelled-2.ensures) c.put_mark.ensures)

pub returns : goal.returns
unfolding route_line labelled ascii
returns c =
    writes-more
    (writes-more (writes-more (writes-more c.address.ensures c.labelled.ensures) c.labelled-2.ensures) c.put_mark.ensures)
    c.byte.ensures
