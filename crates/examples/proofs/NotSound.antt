-- Each clause of soundness, broken once in list A's table: what is left is not sound. The table itself is (`sound-A`), and each of these
-- differs from it in one place.
use mathlib.Core.Path.{◌≡◌, refl, sym, ◌∙◌, ap}
use mathlib.Core.Bool.{true, false, true≢false}
use mathlib.Core.List.{List, [], ◌∷◌}
use Prim.Native.Nat.{ℕ, ◌+◌, ◌<◌}
use native.Mathlib.Omega.{arith}
use lib.ListN.{get_or, length, set, length-set}
use lib.Seq.{get_or-set_same}
use Rattle.bits.specs.Tab.{tabulate}
use Rattle.routes.specs.Route.{key}
use Rattle.routes.specs.Record.{record_at, bytes_of, routes_of, written}
use Rattle.routes.specs.declared.Route.{Route}
use Rattle.routes.proofs.Rows.{length-written}
use Rattle.standing.specs.Cells.{any, first, long, best}
use Rattle.sail.specs.Geometry.{standard_geo}
use Rattle.counts.specs.Counts.{how_many}
use Rattle.sail.specs.Lent.{Lent, lent}
use Rattle.sail.specs.Sound.{Sound, standing}
use Rattle.examples.specs.Lines.{ip}
use Rattle.examples.specs.Blank.{geo}
use Rattle.routes.specs.ListA.{list_a}
use Rattle.examples.proofs.TableA.{routes_a, state_a, lent_a, sound-A, standing-A}

-- list A's table with another list, a first, second or third cell that holds another value, or other owners
abbrev pub list_is : List ℕ → Lent
list_is xs = lent xs lent_a.first lent_a.second lent_a.third lent_a.own2 lent_a.own3 lent_a.long1 lent_a.long2

abbrev pub first_is : ℕ → ℕ → Lent
first_is q v = lent lent_a.list (set lent_a.first q v) lent_a.second lent_a.third lent_a.own2 lent_a.own3 lent_a.long1 lent_a.long2

abbrev pub second_is : ℕ → ℕ → Lent
second_is q v = lent lent_a.list lent_a.first (set lent_a.second q v) lent_a.third lent_a.own2 lent_a.own3 lent_a.long1 lent_a.long2

abbrev pub third_is : ℕ → ℕ → Lent
third_is q v = lent lent_a.list lent_a.first lent_a.second (set lent_a.third q v) lent_a.own2 lent_a.own3 lent_a.long1 lent_a.long2

abbrev pub own2_is : List ℕ → Lent
own2_is own = lent lent_a.list lent_a.first lent_a.second lent_a.third own lent_a.own3 lent_a.long1 lent_a.long2

abbrev pub own3_is : List ℕ → Lent
own3_is own = lent lent_a.list lent_a.first lent_a.second lent_a.third lent_a.own2 own lent_a.long1 lent_a.long2

-- or other counts
abbrev pub long1_is : ℕ → ℕ → Lent
long1_is q v = lent lent_a.list lent_a.first lent_a.second lent_a.third lent_a.own2 lent_a.own3 (set lent_a.long1 q v) lent_a.long2

abbrev pub long2_is : ℕ → ℕ → Lent
long2_is q v = lent lent_a.list lent_a.first lent_a.second lent_a.third lent_a.own2 lent_a.own3 lent_a.long1 (set lent_a.long2 q v)

-- the value is then there
pub in_list : length lent_a.list ≡ 64
in_list = length-written routes_a 8

in-first : length lent_a.first ≡ 65536
in-first = sound-A.sized.cells1

in-second : length lent_a.second ≡ 512
in-second = sound-A.sized.cells2

in-third : length lent_a.third ≡ 512
in-third = sound-A.sized.cells3

pub at_first : (q v : ℕ) → q < 65536 → get_or (set lent_a.first q v) q 0 ≡ v
at_first q v h = get_or-set_same lent_a.first q v 0 (rw in-first h)

at_second : (q v : ℕ) → q < 512 → get_or (set lent_a.second q v) q 0 ≡ v
at_second q v h = get_or-set_same lent_a.second q v 0 (rw in-second h)

at-third : (q v : ℕ) → q < 512 → get_or (set lent_a.third q v) q 0 ≡ v
at-third q v h = get_or-set_same lent_a.third q v 0 (rw in-third h)

-- what its routes ask at a cell of a level
asks-long : (p i : ℕ) → long (standing state_a lent_a) p i ≡ long routes_a p i
asks-long p i = ap (λ (rs : List Route). long rs p i) standing-A

asks-best : (p i : ℕ) → best (standing state_a lent_a) p i ≡ best routes_a p i
asks-best p i = ap (λ (rs : List Route). best rs p i) standing-A

-- The geometry and the sizes.
pub wrong-geometry : Sound (record { geometry = geo 16 27; count = 5 }) lent_a → ⊥
wrong-geometry s = omega (arith, s.sized.valid.p2_high)

pub one-cell-more : Sound state_a (lent lent_a.list (0 ∷ lent_a.first) lent_a.second lent_a.third lent_a.own2 lent_a.own3 lent_a.long1
    lent_a.long2) → ⊥
one-cell-more s = omega (arith, s.sized.cells1, in-first)

-- "A list is good when the route count is at most its room and that many records pass the input checks"
pub beyond-room : Sound (record { geometry = standard_geo; count = 9 }) lent_a → ⊥
beyond-room s = omega (arith, s.listed.records.room, in_list)

sixth : (record_at lent_a.list 5).hop ≡ 0
unfolding list_a routes_of tabulate record_at bytes_of written
sixth = refl

pub no_record : Sound (record { geometry = standard_geo; count = 6 }) lent_a → ⊥
no_record s = omega (arith, (s.listed.records.each 5 (omega arith)).hop_one, sixth)

-- list A's last two records the other way round
pub swapped : List ℕ
swapped = written (record_at list_a 0 ∷ record_at list_a 1 ∷ record_at list_a 2 ∷ record_at list_a 4 ∷ record_at list_a 3 ∷ []) 8

falls : key (record_at swapped 4) < key (record_at swapped 3)
unfolding swapped list_a record_at bytes_of written tabulate
falls = omega arith

pub not-ascending : Sound state_a (list_is swapped) → ⊥
not-ascending s = omega (arith, falls, s.listed.records.rises 3 4 (omega arith) (omega arith))

-- "Records past the route count are zero bytes"
pub past-count : Sound state_a (list_is (set lent_a.list 47 1)) → ⊥
past-count s =
    let e : get_or (set lent_a.list 47 1) 47 0 ≡ 1 = get_or-set_same lent_a.list 47 1 0 (rw in_list (omega arith)) in
    omega (arith, e, s.listed.zeros 47 (omega arith) (rw (length-set, in_list) (omega arith)))

-- "A first cell names a chunk exactly when some standing route longer than p1 has the cell's p1 bits. Otherwise it is a leaf with the hop
-- of the longest route of length at most p1 that covers it": cell 2562 is a leaf of hop 20, cell 2561 names chunk 1
short-1 : long routes_a 16 2562 ≡ false
unfolding list_a routes_of tabulate record_at any
short-1 = refl

hop-1 : best routes_a 16 2562 ≡ 20
unfolding list_a routes_of tabulate record_at best first
hop-1 = refl

long-1 : long routes_a 16 2561 ≡ true
unfolding list_a routes_of tabulate record_at any
long-1 = refl

first_leaf : (v : ℕ) → Sound state_a (first_is 2562 v) → v ≡ 32768 + 20
first_leaf v s =
    sym (at_first 2562 v (omega arith))
    ∙ s.serves.first.leaf 2562 (omega arith) refl (asks-long 16 2562 ∙ short-1)
    ∙ ap (λ (h : ℕ). 32768 + h) (asks-best 16 2562 ∙ hop-1)

pub first-other-hop : Sound state_a (first_is 2562 32789) → ⊥
first-other-hop s = omega (arith, first_leaf 32789 s)

pub first-names : Sound state_a (first_is 2562 1) → ⊥
first-names s = omega (arith, first_leaf 1 s)

pub first-names-not : Sound state_a (first_is 2561 32799) → ⊥
first-names-not s = omega (arith, at_first 2561 32799 (omega arith), (s.serves.first.node 2561 (omega arith) refl (asks-long 16 2561 ∙ long-1)).last)

-- "A second cell of a chunk in use does the same with p2": cell 3 is a leaf of hop 31, cell 2 names chunk 1
short-2 : long routes_a 24 655619 ≡ false
unfolding list_a routes_of tabulate record_at any
short-2 = refl

hop-2 : best routes_a 24 655619 ≡ 31
unfolding list_a routes_of tabulate record_at best first
hop-2 = refl

long-2 : long routes_a 24 655618 ≡ true
unfolding list_a routes_of tabulate record_at any
long-2 = refl

second_leaf : (v : ℕ) → Sound state_a (second_is 3 v) → v ≡ 32768 + 31
second_leaf v s =
    sym (at_second 3 v (omega arith))
    ∙ s.serves.second.leaf 3 (omega arith) refl (asks-long 24 655619 ∙ short-2)
    ∙ ap (λ (h : ℕ). 32768 + h) (asks-best 24 655619 ∙ hop-2)

pub second-other-hop : Sound state_a (second_is 3 32800) → ⊥
second-other-hop s = omega (arith, second_leaf 32800 s)

pub second-names : Sound state_a (second_is 3 1) → ⊥
second-names s = omega (arith, second_leaf 1 s)

pub second-names-not : Sound state_a (second_is 2 32812) → ⊥
second-names-not s = omega (arith, at_second 2 32812 (omega arith), (s.serves.second.node 2 (omega arith) refl (asks-long 24 655618 ∙ long-2)).last)

-- "A third cell of a chunk in use is always a leaf: the hop of the longest route that covers its one address": cell 200 has hop 57
hop-3 : best routes_a 32 (ip 10 1 2 200) ≡ 57
unfolding list_a routes_of tabulate record_at best first
hop-3 = refl

third-leaf : (v : ℕ) → Sound state_a (third_is 200 v) → v ≡ 32768 + 57
third-leaf v s =
    sym (at-third 200 v (omega arith))
    ∙ s.serves.third.leaf 200 (omega arith) refl
    ∙ ap (λ (h : ℕ). 32768 + h) (asks-best 32 (ip 10 1 2 200) ∙ hop-3)

pub third-other-hop : Sound state_a (third_is 200 32812) → ⊥
third-other-hop s = omega (arith, third-leaf 32812 s)

pub third_no_leaf : Sound state_a (third_is 200 1) → ⊥
third_no_leaf s = omega (arith, third-leaf 1 s)

-- "An owner is 1 plus the index of the cell that names the chunk, the index counted over the whole of that lent cell array"
pub other-owner2 : Sound state_a (own2_is (2563 ∷ 0 ∷ [])) → ⊥
other-owner2 s = true≢false (sym (s.serves.first.owned 0 2562 (omega arith) refl).2 ∙ asks-long 16 2562 ∙ short-1)

pub other-owner3 : Sound state_a (own3_is (4 ∷ 0 ∷ [])) → ⊥
other-owner3 s = true≢false (sym (s.serves.second.owned 0 3 (omega arith) refl).2 ∙ asks-long 24 655619 ∙ short-2)

-- two chunks that one cell would name
pub owned-twice : Sound state_a (own2_is (2562 ∷ 2562 ∷ [])) → ⊥
owned-twice s = omega (arith, (s.serves.first.owned 0 2561 (omega arith) refl).3, (s.serves.first.owned 1 2561 (omega arith) refl).3)

-- "A free chunk has owner 0 and all cells 0": chunk 2 of either pool is free
pub free-owned2 : Sound state_a (own2_is (2562 ∷ 2563 ∷ [])) → ⊥
free-owned2 s = true≢false (sym (s.serves.first.owned 1 2562 (omega arith) refl).2 ∙ asks-long 16 2562 ∙ short-1)

pub free-owned3 : Sound state_a (own3_is (3 ∷ 4 ∷ [])) → ⊥
free-owned3 s = true≢false (sym (s.serves.second.owned 1 3 (omega arith) refl).2 ∙ asks-long 24 655619 ∙ short-2)

pub free-cell2 : Sound state_a (second_is 300 1) → ⊥
free-cell2 s = omega (arith, at_second 300 1 (omega arith), s.clear2.blank 300 (omega arith) refl)

pub free-cell3 : Sound state_a (third_is 300 1) → ⊥
free-cell3 s = omega (arith, at-third 300 1 (omega arith), s.clear3.blank 300 (omega arith) refl)

-- "5 a stored count that is wrong": of first cell 2561, which has 2, of first cell 0, which has none, of second place 2, which has 1, and of a place in
-- a free chunk
many-1 : how_many routes_a 16 2561 ≡ 2
unfolding list_a routes_of tabulate record_at how_many
many-1 = refl

none_1 : how_many routes_a 16 0 ≡ 0
unfolding list_a routes_of tabulate record_at how_many
none_1 = refl

many-2 : how_many routes_a 24 655618 ≡ 1
unfolding list_a routes_of tabulate record_at how_many
many-2 = refl

asks-many : (p i : ℕ) → how_many (standing state_a lent_a) p i ≡ how_many routes_a p i
asks-many p i = ap (λ (rs : List Route). how_many rs p i) standing-A

pub at-long1 : (q v : ℕ) → q < 65536 → get_or (set lent_a.long1 q v) q 0 ≡ v
at-long1 q v h = get_or-set_same lent_a.long1 q v 0 (rw sound-A.sized.counts1 h)

pub none_here : get_or lent_a.long1 0 0 ≡ 0
none_here = sound-A.counted1.true_there 0 (omega arith) refl ∙ asks-many 16 0 ∙ none_1

first_count : (q v : ℕ) → q < 65536 → Sound state_a (long1_is q v) → v ≡ how_many routes_a 16 q
first_count q v h s = sym (at-long1 q v h) ∙ s.counted1.true_there q h refl ∙ asks-many 16 q

pub first-one-more : Sound state_a (long1_is 2561 3) → ⊥
first-one-more s = omega (arith, first_count 2561 3 (omega arith) s, many-1)

pub first-one-there : Sound state_a (long1_is 0 1) → ⊥
first-one-there s = omega (arith, first_count 0 1 (omega arith) s, none_1)

pub at-long2 : (q v : ℕ) → q < 512 → get_or (set lent_a.long2 q v) q 0 ≡ v
at-long2 q v h = get_or-set_same lent_a.long2 q v 0 (rw (sound-A.sized.counts2, in-second) h)

-- first cell 2561 names chunk 1, and one route is longer than 24 at second place 2
pub names-one : get_or lent_a.first 2561 0 ≡ 1
names-one = (sound-A.serves.first.owned 0 2561 (omega arith) refl).3

pub one-longer : get_or lent_a.long2 2 0 ≡ 1
one-longer = sound-A.counted2.true_there 2 (omega arith) refl ∙ asks-many 24 655618 ∙ many-2

pub second-one-less : Sound state_a (long2_is 2 0) → ⊥
second-one-less s =
    omega (arith, at-long2 2 0 (omega arith), s.counted2.true_there 2 (omega arith) refl, asks-many 24 655618, many-2)

pub free-count : Sound state_a (long2_is 300 1) → ⊥
free-count s = omega (arith, at-long2 300 1 (omega arith), s.counted2.blank 300 (omega arith) refl)
