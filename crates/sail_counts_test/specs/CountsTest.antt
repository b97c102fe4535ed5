-- The test of the counts: what it goes through, and what it rests on.
use Rattle.std.specs.Prelude.{Bool, true, ◌||◌, List, [], ◌∷◌, ◌≡◌, ℕ, ◌-◌, ◌*◌, ◌/◌, ◌^◌, ◌≤◌, ◌<◌, eqb, leb, length, get_or}
use Rattle.bits.specs.Slot.{slot}
use Rattle.standing.specs.Cells.{within}
use Rattle.counts.specs.Counts.{how_many}
use Rattle.chain.specs.Words.{len_of, route_of_word, routes_of_words, Words}
use Rattle.chain.specs.Cover.{addr_in}
use Rattle.sail.specs.Geometry.{bits2, Valid}
use Rattle.routes.specs.declared.Route.{Route}
use Rattle.sail.specs.Level.{deep, entry, chunks_of, level1, level2}
use Rattle.sail.specs.Sound.{Shows, Counted}
use Rattle.sail.specs.Walk.{cell_place}
use Rattle.sail.specs.declared.geometry.Geometry.{Geometry}

-- no chunk hangs from a cell that holds v: it is a leaf, or one of a free chunk
unfoldable pub idle : ℕ → Bool
idle v = eqb v 0 || leb 32768 v

-- where no chunk hangs, the count is 0
pub record Idle (cells counts : List ℕ) : Type 0 where
  pub each : (q : ℕ) → q < length cells → idle (get_or cells q 0) ≡ true → get_or counts q 0 ≡ 0

-- the length of word k, and its cell of level p
abbrev pub len_in : List ℕ → ℕ → ℕ
len_in ws k = len_of (get_or ws k 0)

abbrev pub cell_in : List ℕ → ℕ → ℕ → ℕ
cell_in ws p k = slot p (addr_in ws k)

-- the place in a pool of chunks of 2 ^ d cells that serves cell i of its level; `above` are the cells that name its chunks
abbrev pub place_in : ℕ → List ℕ → ℕ → ℕ
place_in d above i = cell_place d (get_or above (i / 2 ^ d) 0) i

-- cell i of level p has its true count
pub record TrueCount (ws : List ℕ) (p d : ℕ) (above counts : List ℕ) (i : ℕ) : Type 0 where
  pub count : get_or counts (place_in d above i) 0 ≡ how_many (routes_of_words ws) p i

-- so has the cell of each word that is longer than p
pub record Tallied (ws : List ℕ) (p d : ℕ) (above counts : List ℕ) : Type 0 where
  pub each : (k : ℕ) → k < length ws → p < len_in ws k → TrueCount ws p d above counts (cell_in ws p k)

-- the word before word k is longer than p too, and has the bits of the same cell i
pub record Goes (ws : List ℕ) (p i k : ℕ) : Type 0 where
  pub some : 0 < k
  pub there : within p i (route_of_word (get_or ws (k - 1) 0)) ≡ true

-- where a run of words begins with word k, its cell has its true count
pub record RunTold (ws : List ℕ) (p d : ℕ) (above counts : List ℕ) (k : ℕ) : Type 0 where
  pub begins : p < len_in ws k → (Goes ws p (cell_in ws p k) k → ⊥) → TrueCount ws p d above counts (cell_in ws p k)

-- What the runs of words tell of the counts: those of first cells are true, and those of second cells from which a chunk hangs.
pub record DeepCounts (rs : List Route) (g : Geometry) (own2 long1 long2 : List ℕ) : Type 0 where
  pub first : Counted rs (level1 g) long1
  pub deep2 : (q : ℕ) → q < (level2 g (chunks_of own2)).places → (level2 g (chunks_of own2)).live q ≡ true → deep rs (level2 g (chunks_of own2)) q ≡ true
      → get_or long2 q 0 ≡ how_many rs g.p2 ((level2 g (chunks_of own2)).at q)

-- the first cells as one chunk, which a cell that holds 1 names
abbrev pub root_cell : List ℕ
root_cell = 1 ∷ []

-- What the functions rest on.

-- the cell of each word that is longer than p is in a chunk that a cell of `above` names, and has a count
pub record Led (ws : List ℕ) (p d : ℕ) (above counts : List ℕ) : Type 0 where
  pub words : Words ws
  pub level : p ≤ 32
  pub small : d ≤ 16
  pub there : (k : ℕ) → k < length ws → p < len_in ws k → cell_in ws p k / 2 ^ d < length above
  pub some : (k : ℕ) → k < length ws → p < len_in ws k → 1 ≤ get_or above (cell_in ws p k / 2 ^ d) 0
  pub inside : (k : ℕ) → k < length ws → p < len_in ws k → place_in d above (cell_in ws p k) < length counts

-- The first two levels of a table serve the routes of these words, and there are as many counts as cells. Of the cells of free chunks nothing is asked.
pub record Countable (ws : List ℕ) (g : Geometry) (first second own2 own3 long1 long2 : List ℕ) : Type 0 where
  pub words : Words ws
  pub valid : Valid g
  pub cells1 : length first ≡ 2 ^ g.p1
  pub few2 : length own2 ≤ 4096
  pub cells2 : length second ≡ length own2 * 2 ^ bits2 g
  pub few3 : length own3 ≤ 4096
  pub counts1 : length long1 ≡ length first
  pub counts2 : length long2 ≡ length second
  pub shows1 : Shows (routes_of_words ws) (level1 g) (chunks_of own2) (entry first)
  pub shows2 : Shows (routes_of_words ws) (level2 g (chunks_of own2)) (chunks_of own3) (entry second)
