-- A part of cells, cell by cell.
use mathlib.Core.Path.{◌≡◌, sym, ap, ◌∙◌}
use mathlib.Core.Bool.{true, false}
use mathlib.Core.List.{List}
use Prim.Native.Nat.{ℕ, ◌+◌, ◌-◌, ◌≤◌, ◌<◌}
use native.Mathlib.Decide.{dec_lt}
use native.Mathlib.Omega.{arith}
use lib.ListN.{get_or, drop}
use lib.Seq.{get_or-take, get_or-drop}
use Rattle.standing.specs.Cells.{long, best}
use Rattle.routes.specs.declared.Route.{Route}
use Rattle.plan_test.specs.Part.{NamesBack, Right}
use Rattle.sail_cells_test.specs.Pool.{part_at}

-- the cell that stands for cell i of level p holds v, and has the owner number o
pub record Cell (rs : List Route) (p i v : ℕ) (own : List ℕ) (o : ℕ) : Type 0 where
  pub leaf : long rs p i ≡ false → v ≡ 32768 + best rs p i
  pub node : long rs p i ≡ true → NamesBack v own o

module _ (rs : List Route) (p : ℕ) (own : List ℕ) where
  -- the same cell, otherwise put
  pub cell_as : {i v o j w k : ℕ} → i ≡ j → v ≡ w → o ≡ k → Cell rs p i v own o → Cell rs p j w own k
  cell_as a b c x = rw (a, b, c) at x

  module _ (base : ℕ) (part : List ℕ) (o n : ℕ) where
    pub right-cell : Right rs p base part own o n → (j : ℕ) → j < n → Cell rs p (base + j) (get_or part j 0) own (o + j)
    right-cell r j l = record { leaf = r.leaf j l; node = r.node j l }

    pub cells_right : ((j : ℕ) → j < n → Cell rs p (base + j) (get_or part j 0) own (o + j)) → Right rs p base part own o n
    cells_right f = record { leaf = λ j l. (f j l).leaf; node = λ j l. (f j l).node }

-- cell j of a part from place a on
pub part-at : (cells : List ℕ) (a n j : ℕ) → j < n → get_or (part_at cells a n) j 0 ≡ get_or cells (a + j) 0
part-at cells a n j l = rw (get_or-take n (drop a cells) j 0 l, get_or-drop)

-- parts, one after the other
module _ (rs : List Route) (p : ℕ) (own cells : List ℕ) (o : ℕ) where
  abbrev pub UpTo : ℕ → Type 0
  UpTo n = Right rs p 0 cells own o n

  abbrev pub PartAt : ℕ → ℕ → Type 0
  PartAt a n = Right rs p a (part_at cells a n) own (o + a) n

  pub none_yet : UpTo 0
  none_yet = cells_right rs p own 0 cells o 0 (λ j l. absurd (omega arith))

  pub one_more : (a n : ℕ) → UpTo a → PartAt a n → UpTo (a + n)
  one_more a n f k = cells_right rs p own 0 cells o (a + n) (λ j l. go j l (dec_lt j a))
    where
      go : (j : ℕ) → j < a + n → Dec (j < a) → Cell rs p (0 + j) (get_or cells j 0) own (o + j)
      go j l (yes u) = right-cell rs p own 0 cells o a f j u
      go j l (no u) =
          let m : j - a < n = omega arith in
          let e : a + (j - a) ≡ j = omega arith in
          cell_as rs p own (omega arith) (part-at cells a n (j - a) m ∙ ap (λ (x : ℕ). get_or cells x 0) e) (omega arith)
          (right-cell rs p own a (part_at cells a n) (o + a) n k (j - a) m)

  pub part_in : (a n m : ℕ) → a + n ≤ m → UpTo m → PartAt a n
  part_in a n m l f = cells_right rs p own a (part_at cells a n) (o + a) n (λ j u.
      cell_as rs p own (omega arith) (sym (part-at cells a n j u)) (omega arith) (right-cell rs p own 0 cells o m f (a + j) (omega arith)))
