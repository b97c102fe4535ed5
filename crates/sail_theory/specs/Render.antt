-- What a table holds, as a function of its geometry, its routes and its owners.
use Rattle.std.specs.Prelude.{Bool, true, cond, List, ◌≡◌, ℕ, suc, ◌/◌, ◌<◌, length, get_or}
use Rattle.bits.specs.Tab.{tabulate}
use Rattle.routes.specs.Record.{written, Listed}
use Rattle.routes.specs.declared.Route.{Route}
use Rattle.counts.specs.Counts.{tallies}
use Rattle.sail.specs.Lent.{Lent}
use Rattle.sail.specs.Level.{Level, Chunks, chunk_for, deep, leaf_at, chunks_of, no_chunks, level1, level2, level3}
use Rattle.sail.specs.Sizes.{Sized}
use Rattle.sail.specs.Sound.{standing}
use Rattle.sail.specs.declared.geometry.Geometry.{Geometry}
use Rattle.sail.specs.declared.table.Table.{Table}

-- the first chunk in an array of owners whose owner is o
abbrev pub find : List ℕ → ℕ → ℕ
find own o = chunk_for (chunks_of own) o

-- what the live cell at place q holds: the number of the chunk that hangs from q where the cell is deep, and else a leaf
unfoldable pub shown : List Route → Level → Chunks → ℕ → ℕ
shown rs v k q = cond (deep rs v q) (suc (chunk_for k (suc q))) (leaf_at rs v q)

-- an array of n numbers: live places hold their value, the others 0
unfoldable pub block : ℕ → (ℕ → Bool) → (ℕ → ℕ) → List ℕ
block n live value = tabulate n (λ q. cond (live q) (value q) 0)

-- the cells of a level
abbrev pub pool : List Route → Level → Chunks → List ℕ
pool rs v k = block v.places v.live (shown rs v k)

-- the counts of a level: at each live place how many routes longer than the level have its bits
abbrev pub longs : List Route → Level → List ℕ
longs rs v = tallies rs v.bits v.places v.live v.at

-- live places of an array hold their value, the others what they held
unfoldable pub laid : List ℕ → (ℕ → Bool) → (ℕ → ℕ) → List ℕ
laid old live value = tabulate (length old) (λ q. cond (live q) (value q) (get_or old q 0))

-- the cells of a level laid over what its array held
abbrev pub laid_over : List Route → Level → Chunks → List ℕ → List ℕ
laid_over rs v k old = laid old v.live (shown rs v k)

-- the whole table of these routes and owners, with room for this many records
abbrev pub rendered : Geometry → ℕ → List Route → List ℕ → List ℕ → Lent
rendered g room rs own2 own3 = record {
  list = written rs room;
  first = pool rs (level1 g) (chunks_of own2);
  second = pool rs (level2 g (chunks_of own2)) (chunks_of own3);
  third = pool rs (level3 g (chunks_of own2) (chunks_of own3)) no_chunks;
  own2 = own2;
  own3 = own3;
  long1 = longs rs (level1 g);
  long2 = longs rs (level2 g (chunks_of own2));
}

-- Chunks fit a level: each owner is 1 + a live place that is deep, a chunk hangs from each such place, and no two hang from one.
pub record Fits (rs : List Route) (v : Level) (k : Chunks) : Type 0 where
  pub lies : (c q : ℕ) → c < k.many → k.own c ≡ suc q → (q < v.places) × (v.live q ≡ true) × (deep rs v q ≡ true)
  pub has : (q : ℕ) → q < v.places → v.live q ≡ true → deep rs v q ≡ true → chunk_for k (suc q) < k.many
  pub once : (c q : ℕ) → c < k.many → k.own c ≡ suc q → chunk_for k (suc q) ≡ c

-- how many records the list has room for
abbrev pub room_of : Lent → ℕ
room_of l = length l.list / 8

-- the table that the routes and owners of this one ask for
abbrev pub as_asked : Table → Lent → Lent
as_asked t l = rendered t.geometry (room_of l) (standing t l) l.own2 l.own3

-- a good list, owners that fit it, and the cells and counts of these: this is soundness, said by what the arrays hold
pub record Rendered (t : Table) (l : Lent) : Type 0 where
  pub sized : Sized t.geometry l
  pub listed : Listed l.list t.count
  pub fits2 : Fits (standing t l) (level1 t.geometry) (chunks_of l.own2)
  pub fits3 : Fits (standing t l) (level2 t.geometry (chunks_of l.own2)) (chunks_of l.own3)
  pub is_first : l.first ≡ (as_asked t l).first
  pub is_second : l.second ≡ (as_asked t l).second
  pub is_third : l.third ≡ (as_asked t l).third
  pub is_long1 : l.long1 ≡ (as_asked t l).long1
  pub is_long2 : l.long2 ≡ (as_asked t l).long2
