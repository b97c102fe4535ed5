-- What is left to do once the list and the owners of a table are changed at a prefix.
use Rattle.std.specs.Prelude.{List, ◌≡◌, ℕ}
use Rattle.routes.specs.Record.{routes_of, Listed}
use Rattle.chain.specs.Words.{routes_of_words}
use Rattle.chain.specs.Cover.{ChainReady}
use Rattle.sail.specs.Lent.{Cells}
use Rattle.sail.specs.declared.geometry.Geometry.{Geometry}
use Rattle.sail_paint.specs.Stale.{Stale}

-- the list s holds n good records, and no live cell is wrong but those that a change at the prefix made stale
pub record Pending (g : Geometry) (n a len : ℕ) (s : List ℕ) (l : Cells) : Type 0 where
  pub listed : Listed s n
  pub stale : (ws par : List ℕ) → ChainReady ws par → routes_of_words ws ≡ routes_of s n → Stale g ws par a len l
