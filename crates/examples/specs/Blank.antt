-- The calls on memory as it may be found, every byte of it 0, and what they say. Its first cells are no leaves, so no such table is sound.
use Rattle.std.specs.Prelude.{List, ℕ, replicate}
use Rattle.routes.specs.Said.{Said}
use Rattle.routes.specs.declared.Route.{Route}
use Rattle.sail.specs.Lent.{Lent, lent}
use Rattle.sail.specs.Sound.{fresh_table}
use Rattle.sail.specs.Walk.{lookup_said}
use Rattle.sail.specs.declared.geometry.Geometry.{Geometry}
use Rattle.sail_theory.specs.Calls.{made, announced, withdrawn, loaded, reported}

abbrev pub geo : ℕ → ℕ → Geometry
geo p1 p2 = record { p1 = p1; p2 = p2 }

-- how many bytes, cells, owners and counts are lent
pub record Lengths : Type 0 where
  pub list : ℕ
  pub first : ℕ
  pub second : ℕ
  pub third : ℕ
  pub own2 : ℕ
  pub own3 : ℕ
  pub long1 : ℕ
  pub long2 : ℕ

-- with as many counts as first and second cells
abbrev pub lengths : ℕ → ℕ → ℕ → ℕ → ℕ → ℕ → Lengths
lengths list first second third own2 own3 = record {
  list = list;
  first = first;
  second = second;
  third = third;
  own2 = own2;
  own3 = own3;
  long1 = first;
  long2 = second;
}

-- and with so many counts
abbrev pub counting : Lengths → ℕ → ℕ → Lengths
counting n long1 long2 = record {
  list = n.list;
  first = n.first;
  second = n.second;
  third = n.third;
  own2 = n.own2;
  own3 = n.own3;
  long1 = long1;
  long2 = long2;
}

unfoldable pub zeros : Lengths → Lent
zeros n =
    lent (replicate n.list 0) (replicate n.first 0) (replicate n.second 0) (replicate n.third 0)
    (replicate n.own2 0) (replicate n.own3 0) (replicate n.long1 0) (replicate n.long2 0)

-- a call on such arrays, with a state of no routes
pub data Asked : Type 0 where
  make : Geometry → Lengths → Asked
  load : Geometry → Lengths → List ℕ → Asked
  announce : Geometry → Lengths → Route → Asked
  withdraw : Geometry → Lengths → ℕ → ℕ → Asked
  report : Geometry → Lengths → Asked
  lookup : Geometry → Lengths → ℕ → Asked

unfoldable pub answer : Asked → Said
answer (make g n) = (made (fresh_table g) (zeros n)).said
answer (load g n input) = (loaded (fresh_table g) (zeros n) input).said
answer (announce g n r) = (announced (fresh_table g) (zeros n) r).said
answer (withdraw g n a len) = (withdrawn (fresh_table g) (zeros n) a len).said
answer (report g n) = reported (fresh_table g) (zeros n)
answer (lookup g n a) = lookup_said (fresh_table g) (zeros n) a
