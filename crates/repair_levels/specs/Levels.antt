-- Cells that differ from what routes ask for, chunk by chunk where a cell is to name one; and in all of a level. What counting them asks for.
use Rattle.std.specs.Prelude.{Bool, ◌&&◌, not, List, ◌≡◌, ℕ, suc, ◌-◌, ◌^◌, ◌≤◌, ◌<◌, eqb, ltb, length, get_or}
use Rattle.routes.specs.declared.Route.{Route}
use Rattle.chain.specs.Words.{routes_of_words}
use Rattle.chain.specs.Cover.{ChainReady}
use Rattle.sail.specs.Lent.{Lent, Cells}
use Rattle.sail.specs.Level.{chunks_of, level1, level2}
use Rattle.sail.specs.Sizes.{Celled}
use Rattle.sail.specs.declared.geometry.Geometry.{Geometry}
use Rattle.sail_theory.specs.Render.{Fits, rendered}
use Rattle.sail_theory.specs.Calls.{Owners}
use Rattle.repair_theory.specs.Repair.{differ}
use Rattle.repair_levels.specs.declared.Differs.{Differs}

-- chunk c is in use, and the cell that it hangs from holds another number than the chunk's
abbrev pub off_name : (ℕ → ℕ) → (ℕ → ℕ) → ℕ → Bool
off_name own cells c = ltb 0 (own c) && not (eqb (cells (own c - 1)) (suc c))

-- at most 4,096 chunks, each of which hangs from a place of these cells
pub record DiffNamesReady (own cells : List ℕ) : Type 0 where
  pub few : length own ≤ 4096
  pub inside : (c q : ℕ) → c < length own → get_or own c 0 ≡ suc q → q < length cells

-- words with their chain, and owners that fit their routes. Of the cells their number is asked and nothing else
pub record Owned (g : Geometry) (ws par : List ℕ) (l : Cells) (want : List ℕ) : Type 0 where
  pub ready : ChainReady ws par
  pub celled : Celled g l
  pub fits2 : Fits (routes_of_words ws) (level1 g) (chunks_of l.own2)
  pub fits3 : Fits (routes_of_words ws) (level2 g (chunks_of l.own2)) (chunks_of l.own3)
  pub room : length want ≡ 1024

-- at how many places the cells of each level are not those of u
pub record Differing (r : Differs) (first second third : List ℕ) (u : Lent) : Type 0 where
  pub is_first : r.first ≡ differ first u.first
  pub is_second : r.second ≡ differ second u.second
  pub is_third : r.third ≡ differ third u.third
  pub few_first : r.first < 2 ^ 32
  pub few_second : r.second < 2 ^ 32
  pub few_third : r.third < 2 ^ 32

-- what the routes of these words ask for, with these owners
abbrev pub wanted : Geometry → List Route → Owners → Lent
wanted g rs o = rendered g 0 rs o.own2 o.own3
