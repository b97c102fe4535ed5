-- `sail_cells_test::first_ok`. Whether the first cells, which are those of level p, are as the routes ask.
use mathlib.Core.Path.{◌≡◌}
use Prim.Native.Nat.{◌*◌}
use lib.ListN.{length}
use Rattle.chain.specs.Words.{routes_of_words}
use Rattle.sail_cells_test.proofs.Cells.{UpTo}
use Rattle.sail_cells_test.proofs.first_ok.Given as goal

abbrev pub invariant-loop-b : goal.invariant-loop-b
invariant-loop-b l = (length l.want ≡ 1024) × UpTo (routes_of_words l.ws) l.p l.below l.first l.o (l.b * 1024)
