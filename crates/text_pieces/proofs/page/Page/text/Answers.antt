-- `text_pieces::page::Page::text`. Words.
use Rattle.text_pieces.proofs.page.Page.text.Goals as goal

pub bytes-requires : goal.bytes-requires
bytes-requires c = rw c.as_bytes.ensures.value c.requires

pub returns : goal.returns
returns c = rw c.as_bytes.ensures.value at c.bytes.ensures
