-- `text_pieces::page::Page::numbered`. Bytes, and then a number.
use Rattle.text_pieces.proofs.Pages.{writes-more, room_rest}
use Rattle.text_pieces.proofs.page.Page.numbered.Goals as goal

pub number-requires : goal.number-requires
number-requires c = room_rest c.requires c.bytes.ensures

pub returns : goal.returns
returns c = writes-more c.bytes.ensures c.number.ensures
