-- `text_pieces::page::Page::number`: the digits of the tenth part, where there is one, and then the last.
use native.Mathlib.Omega.{arith}
use Rattle.text_pieces.proofs.Numbers.{room_tenth, writes-no_heads, writes-heads, room_last, writes-last}
use Rattle.text_pieces.proofs.page.Page.+number.Goals as goal
use Rattle.text_pieces.proofs.page.Page.+number.Goals.{then-n-ge10, else-n-ge10}

pub number-requires : goal.number-requires
number-requires t c = (omega arith, room_tenth _ c.if-n-ge10.true c.requires)

pub byte-requires : goal.byte-requires
byte-requires t c =
    room_last {p = c.args.self.now} {q = c.if-n-ge10.self} _ c.requires (elim c.if-n-ge10.branch [
      | then-n-ge10 w ↦ writes-heads _ w.if-n-ge10.true w.number.ensures w.self-is
      | else-n-ge10 w ↦ writes-no_heads _ (omega arith) c.requires w.self-is
    ])

pub returns : goal.returns
returns t c =
    writes-last _ (elim c.if-n-ge10.branch [
      | then-n-ge10 w ↦ writes-heads _ w.if-n-ge10.true w.number.ensures w.self-is
      | else-n-ge10 w ↦ writes-no_heads _ (omega arith) c.requires w.self-is
    ]) c.byte.ensures
