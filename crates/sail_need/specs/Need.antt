-- What counting the chunks that routes need asks for.
use Rattle.std.specs.Prelude.{List, ℕ, ◌≤◌}
use Rattle.routes.specs.Record.{Records}

-- n good records, and a level
pub record NeedReady (s : List ℕ) (n p : ℕ) : Type 0 where
  pub records : Records s n
  pub level : p ≤ 32
