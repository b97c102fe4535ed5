-- When a table is sound: document 01's sentences, each beside the record that says it.
use Rattle.std.specs.Prelude.{true, false, List, ◌≡◌, ℕ, suc, ◌+◌, ◌-◌, ◌≤◌, ◌<◌, length, replicate}
use Rattle.bits.specs.Slot.{slot}
use Rattle.bits.specs.Count.{bit, count}
use Rattle.standing.specs.Cells.{long}
use Rattle.routes.specs.Record.{routes_of, Listed}
use Rattle.counts.specs.Counts.{CountedBy}
use Rattle.routes.specs.declared.Route.{Route}
use Rattle.sail.specs.Lent.{Lent}
use Rattle.sail.specs.Level.{Level, Chunks, View, deep, leaf_at, in_use, entry, chunks_of, level1, level2, level3, whole}
use Rattle.sail.specs.Sizes.{Sized}
use Rattle.sail.specs.declared.geometry.Geometry.{Geometry}
use Rattle.sail.specs.declared.table.Table.{Table}

-- the standing routes: the first `count` records of the list
abbrev pub standing : Table → Lent → List Route
standing t l = routes_of l.list t.count

-- "Otherwise it names a chunk, numbered from 1": the value x of the cell at place q is the number of a chunk, and that hangs from q
pub record Names (k : Chunks) (q x : ℕ) : Type 0 where
  pub one : 1 ≤ x
  pub last : x ≤ k.many
  pub owner : k.own (x - 1) ≡ suc q

-- What holds of the live cells of a level and of the chunks that hang from it.
pub record Shows (rs : List Route) (v : Level) (k : Chunks) (cells : ℕ → ℕ) : Type 0 where
  -- "A first cell names a chunk exactly when some standing route longer than p1 has the cell's p1 bits"
  pub node : (q : ℕ) → q < v.places → v.live q ≡ true → deep rs v q ≡ true → Names k q (cells q)
  -- "Otherwise it is a leaf with the hop of the longest route of length at most p1 that covers it"
  pub leaf : (q : ℕ) → q < v.places → v.live q ≡ true → deep rs v q ≡ false → cells q ≡ leaf_at rs v q
  -- "An owner is 1 plus the index of the cell that names the chunk, the index counted over the whole of that lent cell array"
  pub owned : (c q : ℕ) → c < k.many → k.own c ≡ suc q → (q < v.places) × (v.live q ≡ true) × (deep rs v q ≡ true) × (cells q ≡ suc c)

-- the live cells of a level are all leaves
pub record AllLeaves (rs : List Route) (v : Level) (cells : ℕ → ℕ) : Type 0 where
  pub leaf : (q : ℕ) → q < v.places → v.live q ≡ true → cells q ≡ leaf_at rs v q

-- Three levels of cells serve a list of routes. The first level's cells are all live, a pool's are where their chunk is in use.
pub record Serves (rs : List Route) (g : Geometry) (t : View) : Type 0 where
  -- the sentences beside `Shows`, with p1
  pub first : Shows rs (level1 g) t.chunks2 t.first
  -- "A second cell of a chunk in use does the same with p2"
  pub second : Shows rs (level2 g t.chunks2) t.chunks3 t.second
  -- "A third cell of a chunk in use is always a leaf: the hop of the longest route that covers its one address"
  pub third : AllLeaves rs (level3 g t.chunks2 t.chunks3) t.third

-- The cells of a level that are not live are 0: those of chunks with owner 0.
pub record Clear (v : Level) (cells : ℕ → ℕ) : Type 0 where
  pub blank : (q : ℕ) → q < v.places → v.live q ≡ false → cells q ≡ 0

-- of the counts of a level those of live places are true, and the others 0
abbrev pub Counted : List Route → Level → List ℕ → Type 0
Counted rs v counts = CountedBy rs v.bits v.places v.live v.at (entry counts)

-- "A table with all this, over a good list, is sound"
pub record Sound (t : Table) (l : Lent) : Type 0 where
  -- the sizes are those of the geometry
  pub sized : Sized t.geometry l
  -- "A list is good when the route count is at most its room and that many records pass the input checks"
  -- "Records past the route count are zero bytes"
  pub listed : Listed l.list t.count
  -- first, second and third cells, and the owners of chunks in use
  pub serves : Serves (standing t l) t.geometry (whole l)
  -- "A free chunk has owner 0 and all cells 0"
  pub clear2 : Clear (level2 t.geometry (chunks_of l.own2)) (entry l.second)
  pub clear3 : Clear (level3 t.geometry (chunks_of l.own2) (chunks_of l.own3)) (entry l.third)
  -- "for each first cell, how many standing routes longer than p1 have its bits"
  pub counted1 : Counted (standing t l) (level1 t.geometry) l.long1
  -- "and for each cell of the second pool how many longer than p2 have its place's bits, 0 in free chunks"
  pub counted2 : Counted (standing t l) (level2 t.geometry (chunks_of l.own2)) l.long2

-- "1 plus one if some standing route longer than p1 shares the address's first p1 bits, plus one if some route longer than p2 shares its
-- first p2 bits"
abbrev pub cells_read : Geometry → List Route → ℕ → ℕ
cells_read g rs a = 1 + bit (long rs g.p1 (slot g.p1 a)) + bit (long rs g.p2 (slot g.p2 a))

-- how many of a pool's chunks are in use
abbrev pub used : List ℕ → ℕ
used own = count (in_use (entry own)) (length own)

-- "A fresh table has no routes: leaves of hop 0 (8000 hex), pools and owners zero", and so are the counts. Its arrays have the sizes of those
-- that are lent
abbrev pub fresh_table : Geometry → Table
fresh_table g = record { geometry = g; count = 0 }

unfoldable pub fresh_lent : Lent → Lent
fresh_lent l = record {
  list = replicate (length l.list) 0;
  first = replicate (length l.first) 32768;
  second = replicate (length l.second) 0;
  third = replicate (length l.third) 0;
  own2 = replicate (length l.own2) 0;
  own3 = replicate (length l.own3) 0;
  long1 = replicate (length l.long1) 0;
  long2 = replicate (length l.long2) 0;
}
