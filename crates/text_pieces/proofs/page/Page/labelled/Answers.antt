-- `text_pieces::page::Page::labelled`. Words, and then a number.
use Rattle.text_pieces.proofs.page.Page.labelled.Goals as goal

pub numbered-requires : goal.numbered-requires
numbered-requires c = rw c.as_bytes.ensures.value c.requires

pub returns : goal.returns
returns c = rw c.as_bytes.ensures.value at c.numbered.ensures
