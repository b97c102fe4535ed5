-- How many routes longer than a level have the bits of a cell, and what is stored of it for the places of a level. A level is given by its
-- bits, its places, which of them are live, and which cell the one at a place stands for.
use Rattle.std.specs.Prelude.{Bool, true, false, ◌&&◌, cond, List, [], ◌∷◌, ◌≡◌, ℕ, ◌+◌, ◌<◌, eqb, ltb}
use Rattle.bits.specs.Count.{bit}
use Rattle.bits.specs.Slot.{slot}
use Rattle.bits.specs.Tab.{tabulate}
use Rattle.standing.specs.Cells.{within}
use Rattle.routes.specs.declared.Route.{Route}

-- how many routes longer than p have the bits of cell i of level p
unfoldable pub how_many : List Route → ℕ → ℕ → ℕ
how_many [] p i = 0
how_many (r ∷ rs) p i = bit (within p i r) + how_many rs p i

-- Beside rs, rs' counts the prefix of len bits of a once more: at a level that it is longer than in the cell of its bits, and nowhere else.
pub record OneMore (a len : ℕ) (rs rs' : List Route) : Type 0 where
  pub counts : (p i : ℕ) → how_many rs' p i ≡ bit (ltb p len && eqb (slot p a) i) + how_many rs p i

-- "for each first cell, how many standing routes longer than p1 have its bits, and for each cell of the second pool how many longer than p2
-- have its place's bits, 0 in free chunks": of the counts of a level of p bits, those of live places are true, and the others 0
pub record CountedBy (rs : List Route) (p places : ℕ) (live : ℕ → Bool) (at counts : ℕ → ℕ) : Type 0 where
  pub true_there : (q : ℕ) → q < places → live q ≡ true → counts q ≡ how_many rs p (at q)
  pub blank : (q : ℕ) → q < places → live q ≡ false → counts q ≡ 0

-- the array of these counts
unfoldable pub tallies : List Route → ℕ → ℕ → (ℕ → Bool) → (ℕ → ℕ) → List ℕ
tallies rs p places live at = tabulate places (λ q. cond (live q) (how_many rs p (at q)) 0)
