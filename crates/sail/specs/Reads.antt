-- The cells that the lookup of an address reads, in any table of right sizes, damaged ones too.
use Rattle.std.specs.Prelude.{◌≡◌, ℕ, ◌≤◌, ◌<◌, get_or, length}
use Rattle.bits.specs.Slot.{slot}
use Rattle.sail.specs.Lent.{Lent}
use Rattle.sail.specs.Level.{View, whole}
use Rattle.sail.specs.Walk.{cell1, place2, cell2, place3}
use Rattle.sail.specs.declared.geometry.Geometry.{Geometry}

-- v is the number of one of m chunks
pub record Leads (v m : ℕ) : Type 0 where
  pub low : v < 32768
  pub one : 1 ≤ v
  pub last : v ≤ m

-- "A cell serves an address when that address's lookup reads it": the first cell of its first p1 bits, whatever the table holds; the second
-- cell where the first leads on; the third where both do.
pub record ReadsFirst (g : Geometry) (a q : ℕ) : Type 0 where
  pub there : slot g.p1 a ≡ q

pub record ReadsSecond (g : Geometry) (t : View) (a q : ℕ) : Type 0 where
  pub goes : Leads (cell1 g t a) t.chunks2.many
  pub there : place2 g t a ≡ q

pub record ReadsThird (g : Geometry) (t : View) (a q : ℕ) : Type 0 where
  pub goes : Leads (cell1 g t a) t.chunks2.many
  pub on : Leads (cell2 g t a) t.chunks3.many
  pub there : place3 g t a ≡ q

-- of n cells exactly one is read
pub record One (n : ℕ) (reads : ℕ → Type 0) : Type 0 where
  pub at : ℕ
  pub inside : at < n
  pub is : reads at
  pub only : (q : ℕ) → reads q → q ≡ at

-- How many cells of a table the lookup of a reads: of the first cells one, of the second and the third one or none.
module _ (g : Geometry) (l : Lent) (a : ℕ) where
  abbrev pub OneFirst : Type 0
  OneFirst = One (length l.first) (ReadsFirst g a)

  abbrev pub OneSecond : Type 0
  OneSecond = One (length l.second) (ReadsSecond g (whole l) a)

  abbrev pub OneThird : Type 0
  OneThird = One (length l.third) (ReadsThird g (whole l) a)

  abbrev pub NoSecond : Type 0
  NoSecond = (q : ℕ) → ReadsSecond g (whole l) a q → ⊥

  abbrev pub NoThird : Type 0
  NoThird = (q : ℕ) → ReadsThird g (whole l) a q → ⊥

pub data Reads (g : Geometry) (l : Lent) (a : ℕ) : ℕ → Type 0 where
  one : OneFirst g l a → NoSecond g l a → NoThird g l a → Reads g l a 1
  two : OneFirst g l a → OneSecond g l a → NoThird g l a → Reads g l a 2
  three : OneFirst g l a → OneSecond g l a → OneThird g l a → Reads g l a 3

-- the table u has as many chunks as l, and holds the same in each cell of l that the lookup of a reads there
pub record SameRead (g : Geometry) (l u : Lent) (a : ℕ) : Type 0 where
  pub chunks2 : length u.own2 ≡ length l.own2
  pub chunks3 : length u.own3 ≡ length l.own3
  pub first : (q : ℕ) → ReadsFirst g a q → get_or u.first q 0 ≡ get_or l.first q 0
  pub second : (q : ℕ) → ReadsSecond g (whole l) a q → get_or u.second q 0 ≡ get_or l.second q 0
  pub third : (q : ℕ) → ReadsThird g (whole l) a q → get_or u.third q 0 ≡ get_or l.third q 0
