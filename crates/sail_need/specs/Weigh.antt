-- What weighing the routes of an input against what is lent asks for.
use Rattle.std.specs.Prelude.{List, ℕ}
use Rattle.routes.specs.Record.{Records}
use Rattle.sail.specs.Geometry.{Valid}
use Rattle.sail.specs.declared.geometry.Geometry.{Geometry}
use Rattle.sail_theory.specs.Calls.{Terms}

-- n good records, and a geometry
pub record Weighs (g : Geometry) (s : List ℕ) (n : ℕ) : Type 0 where
  pub valid : Valid g
  pub records : Records s n

-- room for records and chunks
abbrev pub terms : Geometry → ℕ → ℕ → ℕ → Terms
terms g room most2 most3 = record { geometry = g; room = room; most2 = most2; most3 = most3 }
