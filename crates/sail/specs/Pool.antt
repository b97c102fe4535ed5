-- What the code asks for where it works out a place in a pool, and where it reads a cell there.
use Rattle.std.specs.Prelude.{◌≡◌, ℕ, ◌*◌, ◌^◌, ◌≤◌}
use Rattle.sail.specs.Geometry.{Valid}
use Rattle.sail.specs.declared.geometry.Geometry.{Geometry}

-- c is the number of a chunk, or an owner number, both counted from 1; and a chunk has 2 ^ d cells
pub record Numbered (c d : ℕ) : Type 0 where
  pub one : 1 ≤ c
  pub few : c ≤ 4294967296
  pub size : d ≤ 16

-- c is the number of a second chunk, counted from 1
pub record SecondChunk (g : Geometry) (c : ℕ) : Type 0 where
  pub valid : Valid g
  pub one : 1 ≤ c
  pub few : c ≤ 65536

-- a pool of m cells is n chunks of 2 ^ k cells, of which c is one
pub record Chunk (m n c k : ℕ) : Type 0 where
  pub cells : m ≡ n * 2 ^ k
  pub one : 1 ≤ c
  pub last : c ≤ n
  pub few : n ≤ 4096
  pub size : k ≤ 10
