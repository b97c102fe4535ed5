-- The room that a judge is lent: after a refusal nothing is asked of it.
use mathlib.Core.Path.{◌≡◌}
use mathlib.Core.Bool.{Bool, false, not}
use mathlib.Core.List.{List}
use Prim.Native.Nat.{ℕ}
use borrow.Author.Tests.{not-false}
use Rattle.sail.specs.Lent.{Lent}
use Rattle.sail.specs.declared.table.Table.{Table}
use Rattle.sail_sound.specs.TableTest.{TriedWith}
use Rattle.sail_judge.specs.Chain.{ChainLeft}

pub refused-left : {n : ℕ} → (n ≡ 0 → ⊥) → {s : List ℕ} {m : ℕ} {ws par : List ℕ} → ChainLeft n s m ws par
refused-left h = record { on = λ z. absurd (h z) }

-- past the test
pub sound-left : {n : ℕ} {d : Bool} {t : Table} {l : Lent} {ws par : List ℕ} → TriedWith d t l ws par → not d ≡ false
    → ChainLeft n l.list t.count ws par
sound-left {n} {d} k e = record { on = λ _. k.chained (not-false d e) }
