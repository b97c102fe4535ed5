-- `vectors_basic::case::Case::play`: the part of the cells is no longer than they are.
use mathlib.Core.Path.{sym}
use Prim.Native.Nat.{ℕ}
use native.Mathlib.Omega.{arith}
use lib.ListN.{length-replicate}
use lib.Seq.{length-take-le}
use Rattle.vectors_basic.proofs.case.Case.play.Goals as goal

pub slice_bounds-run-end-2 : goal.slice_bounds-run-end-2
slice_bounds-run-end-2 g c = sym (length-take-le _ _ (omega (arith, length-replicate {A = ℕ} 131072 9, c.min-m.ensures)))
