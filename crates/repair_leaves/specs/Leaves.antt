-- Cells that differ from what routes ask for, counted place by place where a leaf is asked for, or 0 in a free chunk. And what the functions that
-- count them ask for.
use Rattle.std.specs.Prelude.{Bool, ◌&&◌, not, cond, List, ◌≡◌, ℕ, ◌-◌, ◌^◌, ◌≤◌, eqb, length}
use Rattle.bits.specs.Count.{count}
use Rattle.routes.specs.declared.Route.{Route}
use Rattle.chain.specs.Cover.{ChainReady}
use Rattle.plan.specs.Plan.{plan}
use Rattle.sail_paint.specs.Paint.{Part, ChunkOf, Pool}

-- a leaf w is planned, and the cell holds another x. (Where 0 is planned, the cell names a chunk.)
abbrev pub off_plan : ℕ → ℕ → Bool
off_plan w x = not (eqb w 0) && not (eqb x w)

-- the cell is to hold 0, and holds x
abbrev pub off_zero : ℕ → Bool
off_zero x = not (eqb x 0)

-- of a live place its plan is asked, where that is a leaf, and of another place 0
abbrev pub off_at : List Route → ℕ → (ℕ → Bool) → (ℕ → ℕ) → (ℕ → ℕ) → ℕ → Bool
off_at rs p live at cells q = cond (live q) (off_plan (plan rs p (at q)) (cells q)) (off_zero (cells q))

-- r is how many of the numbers below n pass the test
pub record CountIs (r : ℕ) (f : ℕ → Bool) (n : ℕ) : Type 0 where
  pub is : r ≡ count f n
  pub few : r ≤ n

-- What the functions ask for.

-- a part of at most 1,024 cells, and room for its plan
pub record DiffBlockReady (ws par : List ℕ) (l i p base : ℕ) (cells : List ℕ) (a e : ℕ) (want : List ℕ) : Type 0 where
  pub part : Part ws par l i p base cells a e
  pub small : e - a ≤ 1024
  pub room : length want ≡ 1024

-- the first cells: those of a level of at least 10 bits
pub record DiffFirstReady (ws par : List ℕ) (p : ℕ) (first want : List ℕ) : Type 0 where
  pub ready : ChainReady ws par
  pub low : 10 ≤ p
  pub deep : p ≤ 32
  pub cells : length first ≡ 2 ^ p
  pub room : length want ≡ 1024

-- a chunk whose owner is o, and a pool of chunks
pub record DiffChunkReady (ws par : List ℕ) (l p : ℕ) (up : List ℕ) (e o : ℕ) (cells : List ℕ) (c : ℕ) (want : List ℕ) : Type 0 where
  pub chunk : ChunkOf ws par 0 l p up e o cells c
  pub room : length want ≡ 1024

pub record DiffPoolReady (ws par : List ℕ) (l p : ℕ) (up : List ℕ) (e : ℕ) (own cells want : List ℕ) : Type 0 where
  pub pool : Pool ws par 0 l p up e own cells
  pub room : length want ≡ 1024
