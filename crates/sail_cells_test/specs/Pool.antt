-- Pools of chunks, as the test goes through them: a chunk in use hangs from a cell that names it and is as the routes ask; and, beside it, a
-- free chunk is zero.
use Rattle.std.specs.Prelude.{◌≡◌, Bool, true, false, List, Option, None, Some, ℕ, suc, ◌+◌, ◌-◌, ◌*◌, ◌^◌, ◌≤◌, ◌<◌, length, get_or, take, drop}
use Rattle.buffers_test.specs.Zeros.{Zeros}
use Rattle.routes.specs.declared.Route.{Route}
use Rattle.chain.specs.Cover.{ChainReady}
use Rattle.plan_test.specs.Part.{Right}
use Rattle.sail.specs.Level.{itself, live_in, part_of, entry}

-- n cells from place a on
abbrev pub part_at : List ℕ → ℕ → ℕ → List ℕ
part_at cells a n = take n (drop a cells)

-- chunk c, counted from 0, of a pool of chunks of 2 ^ d cells
abbrev pub chunk_of : ℕ → List ℕ → ℕ → List ℕ
chunk_of d cells c = part_at cells (c * 2 ^ d) (2 ^ d)

-- The cell at place q of the pool above names chunk c, and the chunk's cells are as the routes ask for the cells of level p that lie in
-- cell i of level p - d. The chunk's first cell has the owner number o.
pub record OwnedRight (rs : List Route) (p d : ℕ) (above cells below : List ℕ) (c o q i : ℕ) : Type 0 where
  pub inside : q < length above
  pub named : get_or above q 0 ≡ suc c
  pub right : Right rs p (i * 2 ^ d) (chunk_of d cells c) below o (2 ^ d)

-- Chunk c, whose owner is o: free, or it hangs from the live cell at place o - 1 of the pool above, which stands for the cell `at (o - 1)`.
pub record ChunkOk (rs : List Route) (p d : ℕ) (above : List ℕ) (live : ℕ → Bool) (at : ℕ → ℕ) (cells below : List ℕ) (c o : ℕ) : Type 0 where
  pub lives : (q : ℕ) → o ≡ suc q → live q ≡ true
  pub hangs : (q : ℕ) → o ≡ suc q → OwnedRight rs p d above cells below c (suc (c * 2 ^ d)) q (at q)

pub record PoolOk (rs : List Route) (p d : ℕ) (above : List ℕ) (live : ℕ → Bool) (at : ℕ → ℕ) (own cells below : List ℕ) : Type 0 where
  pub each : (c : ℕ) → c < length own → ChunkOk rs p d above live at cells below c (get_or own c 0)

-- chunk c, whose owner is o, is in use or zero
pub record FreeIsZero (d : ℕ) (cells : List ℕ) (c o : ℕ) : Type 0 where
  pub zero : o ≡ 0 → Zeros cells (c * 2 ^ d) (c * 2 ^ d + 2 ^ d)

pub record FreeAll (d : ℕ) (own cells : List ℕ) : Type 0 where
  pub each : (c : ℕ) → c < length own → FreeIsZero d cells c (get_or own c 0)

-- the first two where the cells of the pool above lie in chunks of 2 ^ e, whose owners are `up`
abbrev pub OwnedChunk : List Route → ℕ → ℕ → List ℕ → ℕ → List ℕ → List ℕ → List ℕ → ℕ → ℕ → Type 0
OwnedChunk rs p d up e above cells below c o = ChunkOk rs p d above (live_in (entry up) e) (part_of (entry up) e itself) cells below c o

abbrev pub OwnedPool : List Route → ℕ → ℕ → List ℕ → ℕ → List ℕ → List ℕ → List ℕ → List ℕ → Type 0
OwnedPool rs p d up e above own cells below = PoolOk rs p d above (live_in (entry up) e) (part_of (entry up) e itself) own cells below

-- place q of a pool of n places is live, and stands for cell i
pub record StandsFor (up : List ℕ) (e n q i : ℕ) : Type 0 where
  pub inside : q < n
  pub lives : live_in (entry up) e q ≡ true
  pub cell : i ≡ part_of (entry up) e itself q

-- the cell that place q of a pool of n places stands for, where it is live, and else none
abbrev pub OwnerCell : List ℕ → ℕ → ℕ → ℕ → Option ℕ → Type 0
OwnerCell up e n q None = q < n → live_in (entry up) e q ≡ false
OwnerCell up e n q (Some i) = StandsFor up e n q i

-- What the functions rest on.

-- a block: words with their chain; 2 ^ d cells from place a on, which lie in cell i of level p - d; owner numbers of 32 bits from o on; and
-- room for the plan
pub record Blocked (ws par : List ℕ) (p d i : ℕ) (cells : List ℕ) (a o : ℕ) (want : List ℕ) : Type 0 where
  pub ready : ChainReady ws par
  pub small : d ≤ 10
  pub lower : d ≤ p
  pub deep : p ≤ 32
  pub cell : i < 2 ^ (p - d)
  pub inside : a + 2 ^ d ≤ length cells
  pub few : o + 2 ^ d ≤ 4294967296
  pub room : length want ≡ 1024

-- the first cells: those of a level of at least 10 bits, whose owner numbers begin with o
pub record FirstTestReady (ws par : List ℕ) (p : ℕ) (first : List ℕ) (o : ℕ) (want : List ℕ) : Type 0 where
  pub ready : ChainReady ws par
  pub low : 10 ≤ p
  pub deep : p ≤ 32
  pub cells : length first ≡ 2 ^ p
  pub few : o + length first ≤ 4294967296
  pub room : length want ≡ 1024

-- a chunk that hangs from place q
pub record OwnedReady (ws par : List ℕ) (p d : ℕ) (above : List ℕ) (q i : ℕ) (cells : List ℕ) (c o : ℕ) (want : List ℕ) : Type 0 where
  pub block : Blocked ws par p d i cells (c * 2 ^ d) o want
  pub place : q < length above
  pub number : c < 4096

-- a pool of n places, by the owners of its chunks of 2 ^ e cells
pub record OwnerCellReady (up : List ℕ) (e n : ℕ) : Type 0 where
  pub small : e ≤ 16
  pub owners : (c : ℕ) → get_or up c 0 ≤ 65536
  pub places : n ≡ length up * 2 ^ e

-- a pool of chunks of 2 ^ d cells
pub record Chunked (d : ℕ) (own cells : List ℕ) : Type 0 where
  pub small : d ≤ 10
  pub few : length own ≤ 4096
  pub chunks : length cells ≡ length own * 2 ^ d

-- A pool of chunks of 2 ^ d cells of level p. The cells of the pool above lie in chunks of 2 ^ e, which hang from a level of `top` bits.
pub record Pooled (ws par : List ℕ) (p d : ℕ) (up : List ℕ) (e : ℕ) (above cells own want : List ℕ) : Type 0 where
  pub ready : ChainReady ws par
  pub deep : p ≤ 32
  pub small : d ≤ 10
  pub near : e ≤ 16
  pub top : ℕ
  pub high : top ≤ 16
  pub sum : top + e + d ≡ p
  pub owners : (c : ℕ) → get_or up c 0 ≤ 2 ^ top
  pub places : length above ≡ length up * 2 ^ e
  pub chunks : length cells ≡ length own * 2 ^ d
  pub few : length own ≤ 4096
  pub room : length want ≡ 1024
