-- The number of a chunk beside the cell that it hangs from.
use mathlib.Core.Path.{◌≡◌, sym}
use mathlib.Core.Bool.{true, false}
use mathlib.Core.List.{List}
use Prim.Native.Nat.{ℕ, suc, ◌+◌, ◌-◌, ◌<◌}
use native.Mathlib.Omega.{arith}
use lib.Dec.{ltb}
use lib.ListN.{get_or}
use borrow.Author.Tests.{eq-eqb, ne_eqb, lt-ltb}
use Rattle.sail.specs.Level.{entry}
use Rattle.repair_levels.specs.Levels.{off_name}

module _ (cells own : List ℕ) (c o : ℕ) (owner : (o ≡ get_or own c 0) × (o < 4294967296)) where
  pub name-none : o ≡ 0 → off_name (entry own) (entry cells) c ≡ false
  name-none z = let e : get_or own c 0 ≡ 0 = omega (arith, owner.0) in rw e

  module _ (used : o ≡ 0 → ⊥) (x : ℕ) (holds : x ≡ get_or cells (o - 1) 0) where
    in_use : ltb 0 (get_or own c 0) ≡ true
    in_use = lt-ltb 0 (get_or own c 0) (omega (arith, owner.0, used))

    same-cell : get_or cells (get_or own c 0 - 1) 0 ≡ x
    same-cell = rw (← owner.0) (sym holds)

    pub name-off : (x ≡ c + 1 → ⊥) → off_name (entry own) (entry cells) c ≡ true
    name-off n = rw (in_use, same-cell, ne_eqb x (suc c) (λ e. n (omega arith)))

    pub name-same : x ≡ c + 1 → off_name (entry own) (entry cells) c ≡ false
    name-same n = rw (in_use, same-cell, eq-eqb x (suc c) (omega arith))
