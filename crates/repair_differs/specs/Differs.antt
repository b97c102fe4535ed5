-- What counting the cells asks for that differ from those that a load would leave.
use Rattle.std.specs.Prelude.{List, ◌≡◌, ℕ, ◌*◌, ◌/◌, length, replicate}
use Rattle.chain.specs.List.{Scratch}
use Rattle.sail.specs.Lent.{cells}
use Rattle.sail.specs.Level.{chunks_of, level1, level2}
use Rattle.sail.specs.Sizes.{Celled}
use Rattle.sail.specs.declared.geometry.Geometry.{Geometry}
use Rattle.sail_theory.specs.Render.{Fits}
use Rattle.sail_theory.specs.Calls.{Owners, owners_after, input_routes}
use Rattle.sail_owners.specs.Owners.{owners, Ownable}

-- the owners of a load of the input's routes into n2 and n3 free chunks
abbrev pub fresh_owners : Geometry → List ℕ → ℕ → ℕ → Owners
fresh_owners g input n2 n3 = owners_after g (owners (replicate n2 0) (replicate n3 0)) (input_routes input)

-- an input whose routes may be loaded into n2 and n3 chunks, and cells of the right number
pub record DiffReady (g : Geometry) (input : List ℕ) (n2 n3 : ℕ) (first second third : List ℕ) : Type 0 where
  pub whole : length input ≡ length input / 8 * 8
  pub ownable : Ownable g input (replicate n2 0) (replicate n3 0)
  pub celled : Celled g (cells first second third (replicate n2 0) (replicate n3 0))
  pub fits2 : Fits (input_routes input) (level1 g) (chunks_of (fresh_owners g input n2 n3).own2)
  pub fits3 : Fits (input_routes input) (level2 g (chunks_of (fresh_owners g input n2 n3).own2)) (chunks_of (fresh_owners g input n2 n3).own3)

-- the same, with owners of none in use, room for words and their chain, and for the plan of a block
pub record DiffRoom (g : Geometry) (input first second third own2 own3 ws par want : List ℕ) : Type 0 where
  pub countable : DiffReady g input (length own2) (length own3) first second third
  pub none2 : own2 ≡ replicate (length own2) 0
  pub none3 : own3 ≡ replicate (length own3) 0
  pub scratch : Scratch ws par
  pub room : length want ≡ 1024
