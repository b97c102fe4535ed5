-- How the stale cells are made right: painted as planned, and then the numbers of chunks stamped over them. And what the functions that
-- do so ask for.
use Rattle.std.specs.Prelude.{Bool, ◌&&◌, cond, List, ◌≡◌, ℕ, zero, suc, ◌+◌, ◌-◌, ◌*◌, ◌/◌, ◌^◌, ◌≤◌, ◌<◌, eqb, ltb, get_or, length}
use Rattle.bits.specs.Tab.{tabulate}
use Rattle.routes.specs.Route.{Prefix}
use Rattle.routes.specs.declared.Route.{Route}
use Rattle.chain.specs.Cover.{ChainReady}
use Rattle.plan.specs.Plan.{plan}
use Rattle.plan.specs.Under.{Block}
use Rattle.sail.specs.Level.{Chunks, chunk_for, itself, live_in, part_of, entry}
use Rattle.sail_theory.specs.Render.{find}
use Rattle.sail_paint.specs.Stale.{meets}

-- the cells of level p as planned wherever the test passes; the cell at place q stands for the cell `at q`
unfoldable pub overpainted : List Route → ℕ → (ℕ → Bool) → (ℕ → ℕ) → List ℕ → List ℕ
overpainted rs p stale at cells = tabulate (length cells) (λ q. cond (stale q) (plan rs p (at q)) (get_or cells q 0))

abbrev pub chunks : ℕ → (ℕ → ℕ) → Chunks
chunks m own = record { many = m; own = own }

-- the number of each of the first m chunks, from 1, at the place that it hangs from
unfoldable pub stamped_by : ℕ → (ℕ → ℕ) → List ℕ → List ℕ
stamped_by m own cells = tabulate (length cells) (λ q. cond (ltb (chunk_for (chunks m own) (suc q)) m) (suc (chunk_for (chunks m own) (suc q))) (get_or cells q 0))

abbrev pub stamped : List ℕ → List ℕ → List ℕ
stamped own cells = stamped_by (length own) (entry own) cells

-- The cell that place q of a level stands for. Its places lie in chunks of 2 ^ e, whose owners are `up`; where e is 0 there are no such
-- chunks, and a place is a cell.
unfoldable pub stands_for : ℕ → List ℕ → ℕ → ℕ
stands_for zero up q = q
stands_for (suc e) up q = part_of (entry up) (suc e) itself q

-- place q of a pool of chunks of 2 ^ d cells is in use, and the cell of level l that its chunk hangs from meets the prefix
abbrev pub stale_in : ℕ → ℕ → ℕ → ℕ → (ℕ → ℕ) → (ℕ → ℕ) → ℕ → Bool
stale_in a len l d at own q = live_in own d q && meets a len l (at (own (q / 2 ^ d) - 1))

-- the same for the places of chunk c alone, whose owner is o
abbrev pub stale_of : ℕ → ℕ → ℕ → ℕ → (ℕ → ℕ) → ℕ → ℕ → ℕ → Bool
stale_of a len l d at c o q = eqb (q / 2 ^ d) c && (ltb 0 o && meets a len l (at (o - 1)))

-- What the functions ask for.

-- place q of a level whose chunks have the owners `up`
pub record Above (up : List ℕ) (e q : ℕ) : Type 0 where
  pub small : e ≤ 10
  pub chunk : 0 < e → q / 2 ^ e < length up
  pub owned : 0 < e → 1 ≤ get_or up (q / 2 ^ e) 0

-- the places from a up to e, for the cells of level p from base on, which lie in cell i of level l
pub record Part (ws par : List ℕ) (l i p base : ℕ) (cells : List ℕ) (a e : ℕ) : Type 0 where
  pub rises : a ≤ e
  pub inside : e ≤ length cells
  pub block : Block ws par l i p base (e - a)

-- a prefix, and the first cells: those of a level of at least 10 bits
pub record FirstPaintReady (ws par : List ℕ) (p a len : ℕ) (first : List ℕ) : Type 0 where
  pub ready : ChainReady ws par
  pub prefix : Prefix a len
  pub low : 10 ≤ p
  pub deep : p ≤ 32
  pub cells : length first ≡ 2 ^ p

-- r is past lo, and no further than e and the end of the block of 1,024 that lo lies in
pub record BlockEnd (lo e r : ℕ) : Type 0 where
  pub more : lo < r
  pub inside : r ≤ e
  pub block : r ≤ lo / 1024 * 1024 + 1024

-- words with their chain, a length, and chunks of cells of level p that hang from cells of level l
pub record Levels (ws par : List ℕ) (len l p : ℕ) : Type 0 where
  pub ready : ChainReady ws par
  pub len_ok : len ≤ 32
  pub deeper : l ≤ p
  pub deep : p ≤ 32
  pub small : p - l ≤ 10

-- a chunk whose owner is o hangs, where it is in use, from a cell of level l
pub record OwnerInLevel (l : ℕ) (up : List ℕ) (e o : ℕ) : Type 0 where
  pub above : (q : ℕ) → o ≡ suc q → Above up e q
  pub cell : (q : ℕ) → o ≡ suc q → stands_for e up q < 2 ^ l

pub record ChunkOf (ws par : List ℕ) (len l p : ℕ) (up : List ℕ) (e o : ℕ) (cells : List ℕ) (c : ℕ) : Type 0 where
  pub levels : Levels ws par len l p
  pub hangs : OwnerInLevel l up e o
  pub few : c < 4096
  pub inside : c * 2 ^ (p - l) + 2 ^ (p - l) ≤ length cells

pub record Pool (ws par : List ℕ) (len l p : ℕ) (up : List ℕ) (e : ℕ) (own cells : List ℕ) : Type 0 where
  pub levels : Levels ws par len l p
  pub hangs : (c : ℕ) → c < length own → OwnerInLevel l up e (get_or own c 0)
  pub few : length own ≤ 4096
  pub chunks : length cells ≡ length own * 2 ^ (p - l)

-- at most 4,096 chunks, each of which hangs from a place of these cells, and no two from one
pub record Stamps (own cells : List ℕ) : Type 0 where
  pub few : length own ≤ 4096
  pub inside : (c q : ℕ) → c < length own → get_or own c 0 ≡ suc q → q < length cells
  pub once : (c q : ℕ) → c < length own → get_or own c 0 ≡ suc q → find own (suc q) ≡ c
