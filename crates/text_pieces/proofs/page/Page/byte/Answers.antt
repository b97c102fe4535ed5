-- `text_pieces::page::Page::byte`. A byte.
use mathlib.Core.Path.{refl}
use Rattle.text_pieces.proofs.Writes.{wrote_one}
use Rattle.text_pieces.proofs.page.Page.byte.Goals as goal

pub returns : goal.returns
returns c = record { wrote = search wrote_one; same = refl }
