-- A part of lent cells beside its plan: what the soundness test asks of it.
use Rattle.std.specs.Prelude.{◌≡◌, Bool, true, false, cond, List, ℕ, ◌+◌, ◌-◌, ◌≤◌, ◌<◌, length, get_or}
use Rattle.bits.specs.Tab.{Tells, tabulate}
use Rattle.standing.specs.Cells.{long, best}
use Rattle.routes.specs.declared.Route.{Route}
use Rattle.plan.specs.Paint.{Plans}
use Rattle.plan.specs.Under.{Block}

-- v is the number, from 1, of a chunk whose owner number is o
pub record NamesBack (v : ℕ) (own : List ℕ) (o : ℕ) : Type 0 where
  pub one : 1 ≤ v
  pub few : v ≤ length own
  pub back : get_or own (v - 1) 0 ≡ o

-- each cell that passes the test names a chunk that names it back: cell j has the owner number o + j
pub record Named (f : ℕ → Bool) (part own : List ℕ) (o n : ℕ) : Type 0 where
  pub each : (j : ℕ) → j < n → f j ≡ true → NamesBack (get_or part j 0) own (o + j)

-- the plan, with what the part holds wherever the test passes
unfoldable pub settled : (ℕ → Bool) → List ℕ → List ℕ → List ℕ
settled f part want = tabulate (length want) (λ j. cond (f j) (get_or part j 0) (get_or want j 0))

-- one settling of a plan, and its answer: each cell that passes the test has become what the part holds, and names back
pub record Settled (f : ℕ → Bool) (part own : List ℕ) (o : ℕ) (before after : List ℕ) (answer : Bool) : Type 0 where
  pub becomes : after ≡ settled f part before
  pub told : Tells answer (Named f part own o (length before))

-- a part beside its plan: where the plan is 0 the cell names a chunk that names it back, and elsewhere it is as planned
pub record Matches (part : List ℕ) (o : ℕ) (want own : List ℕ) : Type 0 where
  pub leaf : (j : ℕ) → j < length want → (get_or want j 0 ≡ 0 → ⊥) → get_or part j 0 ≡ get_or want j 0
  pub node : (j : ℕ) → j < length want → get_or want j 0 ≡ 0 → NamesBack (get_or part j 0) own (o + j)

-- a part as the routes ask: its n cells stand for the cells of level p from base on. One that is not long is a leaf with the hop of the
-- longest route that covers it; one that is long names a chunk that names it back
pub record Right (rs : List Route) (p base : ℕ) (part own : List ℕ) (o n : ℕ) : Type 0 where
  pub leaf : (j : ℕ) → j < n → long rs p (base + j) ≡ false → get_or part j 0 ≡ 32768 + best rs p (base + j)
  pub node : (j : ℕ) → j < n → long rs p (base + j) ≡ true → NamesBack (get_or part j 0) own (o + j)

-- a part and the room for its plan, at a level, with owner numbers of 32 bits from o on
pub record Beside (p o : ℕ) (part want : List ℕ) : Type 0 where
  pub deep : p ≤ 32
  pub same : length part ≡ length want
  pub few : o + length want ≤ 4294967296

-- the same with words of fine routes in order, and a hop of 15 bits
pub record Judges (run : List ℕ) (h p o : ℕ) (part want : List ℕ) : Type 0 where
  pub plans : Plans run h p
  pub beside : Beside p o part want

-- a part beside the plan of a block of cells that lie in cell i of level l
pub record Tested (ws par : List ℕ) (l i p base o : ℕ) (part want : List ℕ) : Type 0 where
  pub block : Block ws par l i p base (length want)
  pub beside : Beside p o part want
