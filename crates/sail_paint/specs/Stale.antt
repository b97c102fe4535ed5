-- The cells that a change at a prefix may make stale: those that lie under the prefix or hold it, and the cells of chunks that hang from
-- such cells. All others that are live hold already what the routes and owners ask.
use Rattle.std.specs.Prelude.{Bool, true, false, ◌&&◌, cond, List, ◌≡◌, ℕ, ◌-◌, ◌/◌, ◌^◌, ◌<◌, eqb, leb, get_or}
use Rattle.bits.specs.Slot.{slot}
use Rattle.routes.specs.Route.{Prefix}
use Rattle.routes.specs.declared.Route.{Route}
use Rattle.chain.specs.Words.{routes_of_words}
use Rattle.chain.specs.Cover.{ChainReady}
use Rattle.sail.specs.Lent.{Lent, Cells}
use Rattle.sail.specs.Sizes.{Celled}
use Rattle.sail.specs.Level.{Level, Chunks, chunks_of, no_chunks, below, level1, level2, level3}
use Rattle.sail.specs.declared.geometry.Geometry.{Geometry}
use Rattle.sail_theory.specs.Render.{shown, laid_over, rendered, Fits}

-- cell i of level p lies under the prefix of len bits of a, or holds it
unfoldable pub meets : ℕ → ℕ → ℕ → ℕ → Bool
meets a len p i = cond (leb len p) (eqb (i / 2 ^ (p - len)) (slot len a)) (eqb (slot p a) i)

-- the cell at place q of the level of p bits below v is in use, and the cell that its chunk hangs from meets the prefix
abbrev pub stale_below : ℕ → ℕ → Level → Chunks → ℕ → ℕ → Bool
stale_below a len v k p q = (below v k p).live q && meets a len v.bits (v.at (k.own (q / 2 ^ (p - v.bits)) - 1))

-- the live cells of a level that are not stale are right
pub record RightButStale (rs : List Route) (v : Level) (k : Chunks) (stale : ℕ → Bool) (cells : List ℕ) : Type 0 where
  pub right : (q : ℕ) → q < v.places → v.live q ≡ true → stale q ≡ false → get_or cells q 0 ≡ shown rs v k q

-- what these routes and owners ask for
abbrev pub asked : Geometry → List Route → Cells → Lent
asked g rs l = rendered g 0 rs l.own2 l.own3

-- What repainting asks: owners that fit the routes, and no live cell wrong but those that the change made stale. Of cells that are not live
-- nothing is asked.
pub record Stale (g : Geometry) (ws par : List ℕ) (a len : ℕ) (l : Cells) : Type 0 where
  pub ready : ChainReady ws par
  pub celled : Celled g l
  pub prefix : Prefix a len
  pub fits2 : Fits (routes_of_words ws) (level1 g) (chunks_of l.own2)
  pub fits3 : Fits (routes_of_words ws) (level2 g (chunks_of l.own2)) (chunks_of l.own3)
  pub right1 : RightButStale (routes_of_words ws) (level1 g) (chunks_of l.own2) (meets a len g.p1) l.first
  pub right2 : RightButStale (routes_of_words ws) (level2 g (chunks_of l.own2)) (chunks_of l.own3)
      (stale_below a len (level1 g) (chunks_of l.own2) g.p2) l.second
  pub right3 : RightButStale (routes_of_words ws) (level3 g (chunks_of l.own2) (chunks_of l.own3)) no_chunks
      (stale_below a len (level2 g (chunks_of l.own2)) (chunks_of l.own3) 32) l.third

-- and what it leaves: live cells are as the routes ask, the others as they were
pub record Repainted (g : Geometry) (rs : List Route) (l : Cells) (first second third : List ℕ) : Type 0 where
  pub is_first : first ≡ laid_over rs (level1 g) (chunks_of l.own2) l.first
  pub is_second : second ≡ laid_over rs (level2 g (chunks_of l.own2)) (chunks_of l.own3) l.second
  pub is_third : third ≡ laid_over rs (level3 g (chunks_of l.own2) (chunks_of l.own3)) no_chunks l.third

-- where the cells of free chunks are 0, it leaves what is asked
pub record AsAsked (g : Geometry) (rs : List Route) (l : Cells) (first second third : List ℕ) : Type 0 where
  pub is_first : first ≡ (asked g rs l).first
  pub is_second : second ≡ (asked g rs l).second
  pub is_third : third ≡ (asked g rs l).third
