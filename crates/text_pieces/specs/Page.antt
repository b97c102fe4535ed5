-- What a call writes on a page.
use Rattle.std.specs.Prelude.{ℕ, List, ◌≡◌}
use Rattle.text_pieces.specs.declared.page.Page.{Page}
use Rattle.text_pieces.specs.Wrote.{TextRoom, Wrote}

-- there is room for the text at the page's place
abbrev pub Room : Page → List ℕ → Type 0
Room p text = TextRoom p.out.now p.at text

-- the text stands there, and the place is the one after it; the page has the same buffer
pub record Writes (p : Page) (text : List ℕ) (q : Page) : Type 0 where
  pub wrote : Wrote p.out.now p.at text q.at q.out.now
  pub same : q.out.ghost_name ≡ p.out.ghost_name
