-- What is lent to every table call: the list of records, the cells of three levels, the owners of the two pools' chunks, and the counts of long
-- routes at first and at second cells.
use Rattle.std.specs.Prelude.{List, ℕ}

pub record Lent : Type 0 where
  pub list : List ℕ
  pub first : List ℕ
  pub second : List ℕ
  pub third : List ℕ
  pub own2 : List ℕ
  pub own3 : List ℕ
  pub long1 : List ℕ
  pub long2 : List ℕ

abbrev pub lent : List ℕ → List ℕ → List ℕ → List ℕ → List ℕ → List ℕ → List ℕ → List ℕ → Lent
lent list first second third own2 own3 long1 long2 = record {
  list = list;
  first = first;
  second = second;
  third = third;
  own2 = own2;
  own3 = own3;
  long1 = long1;
  long2 = long2;
}

-- The cells of three levels and the owners of their chunks: what serves lookups. Inner functions speak of these alone, so that what else is
-- lent is no matter of theirs.
pub record Cells : Type 0 where
  pub first : List ℕ
  pub second : List ℕ
  pub third : List ℕ
  pub own2 : List ℕ
  pub own3 : List ℕ

abbrev pub cells : List ℕ → List ℕ → List ℕ → List ℕ → List ℕ → Cells
cells first second third own2 own3 = record { first = first; second = second; third = third; own2 = own2; own3 = own3 }

abbrev pub cells_of : Lent → Cells
cells_of l = cells l.first l.second l.third l.own2 l.own3
