-- A table whose pools others use too. Its owners are those that it sees: 0 for a chunk that is not its own, whatever that chunk holds.
use Rattle.std.specs.Prelude.{Bool, true, false, ◌||◌, List, ◌≡◌, ℕ, ◌<◌, get_or, length}
use Rattle.sail.specs.Geometry.{bits2, bits3}
use Rattle.sail.specs.Lent.{Lent}
use Rattle.sail.specs.Level.{live_in, entry}
use Rattle.sail.specs.declared.geometry.Geometry.{Geometry}
use Rattle.sail_theory.specs.Render.{block, laid}

-- an array over a pool of chunks of 2 ^ d cells as these owners see it: 0 in every chunk that is not theirs
unfoldable pub own_part : List ℕ → ℕ → List ℕ → List ℕ
own_part own d xs = block (length xs) (live_in (entry own) d) (entry xs)

-- the table alone: what others hold in its pools is not there
abbrev pub alone : Geometry → Lent → Lent
alone g l = record {
  list = l.list;
  first = l.first;
  second = own_part l.own2 (bits2 g) l.second;
  third = own_part l.own3 (bits3 g) l.third;
  own2 = l.own2;
  own3 = l.own3;
  long1 = l.long1;
  long2 = own_part l.own2 (bits2 g) l.long2;
}

-- a chunk that comes to these owners is blank: a place that is theirs after a change, and was not before, holds 0
pub record ComesBlank (was own : List ℕ) (d : ℕ) (xs : List ℕ) : Type 0 where
  pub zero : (q : ℕ) → q < length xs → live_in (entry was) d q ≡ false → live_in (entry own) d q ≡ true → get_or xs q 0 ≡ 0

-- place q lies in a chunk of the owners before a change or of those after it
abbrev pub touched : List ℕ → List ℕ → ℕ → ℕ → Bool
touched was own d q = live_in (entry was) d q || live_in (entry own) d q

-- an array over a pool after a change: in the table's own chunks, before and after, what the table then holds; what others hold stays
unfoldable pub mixed : List ℕ → List ℕ → ℕ → List ℕ → List ℕ → List ℕ
mixed was own d old xs = laid old (touched was own d) (entry xs)

-- all that is lent after a change that makes the table `l` alone into `e`
abbrev pub mixed_in : Geometry → Lent → Lent → Lent
mixed_in g l e = record {
  list = e.list;
  first = e.first;
  second = mixed l.own2 e.own2 (bits2 g) l.second e.second;
  third = mixed l.own3 e.own3 (bits3 g) l.third e.third;
  own2 = e.own2;
  own3 = e.own3;
  long1 = e.long1;
  long2 = mixed l.own2 e.own2 (bits2 g) l.long2 e.long2;
}
