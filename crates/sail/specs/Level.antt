-- A level of cells, and the chunks that hang from it: which cells it has, which of them are live, what each stands for, and which serves an
-- address. All is said of functions, from a place to the cell there and from a chunk to its owner, so that it holds of a part of what is lent.
use Rattle.std.specs.Prelude.{Bool, true, List, ℕ, suc, ◌+◌, ◌-◌, ◌*◌, ◌/◌, ◌%◌, ◌^◌, eqb, ltb, get_or, length}
use Rattle.bits.specs.Search.{first_of}
use Rattle.bits.specs.Slot.{slot}
use Rattle.standing.specs.Cells.{long, best}
use Rattle.routes.specs.declared.Route.{Route}
use Rattle.sail.specs.Lent.{Lent}
use Rattle.sail.specs.declared.geometry.Geometry.{Geometry}

-- A level has `places` cells, some of which are live. The live one at place q stands for the addresses that begin with the first `bits` bits
-- of the number `at q`. `serving a` is the place that serves the address a, where one does.
pub record Level : Type 0 where
  pub bits : ℕ
  pub places : ℕ
  pub live : ℕ → Bool
  pub at : ℕ → ℕ
  pub serving : ℕ → ℕ

-- The chunks that hang from a level: how many its next pool has, and the owner of each, which is 1 + the place of the cell that names it,
-- and 0 where no cell of the level does.
pub record Chunks : Type 0 where
  pub many : ℕ
  pub own : ℕ → ℕ

-- The first chunk, counted from 0, whose owner is o; `many` where there is none. So the chunk for `suc q` is the one that hangs from the
-- place q, and the chunk for 0 is the lowest free one.
unfoldable pub chunk_for : Chunks → ℕ → ℕ
chunk_for k o = first_of (λ c. eqb (k.own c) o) k.many

-- chunk c is in use
abbrev pub in_use : (ℕ → ℕ) → ℕ → Bool
in_use own c = ltb 0 (own c)

-- The first level: every cell of p bits is live, and stands for itself.
abbrev pub always : ℕ → Bool
always q = true

abbrev pub itself : ℕ → ℕ
itself q = q

abbrev pub top : ℕ → Level
top p = record { bits = p; places = 2 ^ p; live = always; at = itself; serving = slot p }

-- a cell of a pool of chunks of 2 ^ d cells is live where its chunk is in use
abbrev pub live_in : (ℕ → ℕ) → ℕ → ℕ → Bool
live_in own d q = in_use own (q / 2 ^ d)

-- and it stands for a part of the cell that its chunk's owner stands for
abbrev pub part_of : (ℕ → ℕ) → ℕ → (ℕ → ℕ) → ℕ → ℕ
part_of own d at q = at (own (q / 2 ^ d) - 1) * 2 ^ d + q % 2 ^ d

-- The level of p bits below v: the cells of the chunks that hang from v, 2 ^ (p - v.bits) in each, counted over the whole pool.
abbrev pub below : Level → Chunks → ℕ → Level
below v k p = record {
  bits = p;
  places = k.many * 2 ^ (p - v.bits);
  live = live_in k.own (p - v.bits);
  at = part_of k.own (p - v.bits) v.at;
  serving = λ a. chunk_for k (suc (v.serving a)) * 2 ^ (p - v.bits) + slot p a % 2 ^ (p - v.bits);
}

-- some route longer than the level has the bits of the cell at q
abbrev pub deep : List Route → Level → ℕ → Bool
deep rs v q = long rs v.bits (v.at q)

-- a leaf: the top bit, and the hop of the longest route of at most the level's bits that covers the cell at q, 0 where none does
abbrev pub leaf_at : List Route → Level → ℕ → ℕ
leaf_at rs v q = 32768 + best rs v.bits (v.at q)

-- what stands at a place of an array
abbrev pub entry : List ℕ → ℕ → ℕ
entry xs q = get_or xs q 0

-- chunks by an array of owners
abbrev pub chunks_of : List ℕ → Chunks
chunks_of own = record { many = length own; own = entry own }

-- no chunk hangs from a third cell
abbrev pub no_chunks : Chunks
no_chunks = record { many = 0; own = λ c. 0 }

-- The three levels of a table: p1, p2 and 32 bits. So a third cell stands for one address.
abbrev pub level1 : Geometry → Level
level1 g = top g.p1

abbrev pub level2 : Geometry → Chunks → Level
level2 g k2 = below (level1 g) k2 g.p2

abbrev pub level3 : Geometry → Chunks → Chunks → Level
level3 g k2 k3 = below (level2 g k2) k3 32

-- what is seen of a table: the cells of three levels, and the chunks of its two pools
pub record View : Type 0 where
  pub first : ℕ → ℕ
  pub second : ℕ → ℕ
  pub third : ℕ → ℕ
  pub chunks2 : Chunks
  pub chunks3 : Chunks

-- all that is lent
abbrev pub whole : Lent → View
whole l = record {
  first = entry l.first;
  second = entry l.second;
  third = entry l.third;
  chunks2 = chunks_of l.own2;
  chunks3 = chunks_of l.own3;
}
