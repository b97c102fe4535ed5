-- `text_routes::put_mark`: the words where the test of the mark holds, and nothing where it does not.
use Rattle.text_pieces.specs.Pieces.{ascii}
use Rattle.text_routes.proofs.RouteLines.{attached-room, attached-writes, behind-writes}
use Rattle.text_routes.proofs.put_mark.Goals as goal

pub text-requires : goal.text-requires
unfolding ascii
text-requires c = search attached-room

pub returns-then-mark-eq1 : goal.returns-then-mark-eq1
unfolding ascii
returns-then-mark-eq1 c = search attached-writes

pub returns-else-mark-eq1 : goal.returns-else-mark-eq1
returns-else-mark-eq1 c = search behind-writes
