-- `text_pieces::page::Page::bytes`. Bytes as they are.
use mathlib.Core.Path.{refl}
use Rattle.text_pieces.proofs.Writes.{wrote-all}
use Rattle.text_pieces.proofs.page.Page.bytes.Goals as goal

pub returns : goal.returns
returns c = record { wrote = wrote-all c.requires c.copy_from_slice.ensures.after; same = refl }
