-- `sail_counts_test::idle_ok`: The invariant: the largest count is 0 exactly where each idle cell passed counts 0.
use lib.Dec.{eqb}
use Rattle.bits.specs.Tab.{Tells}
use Rattle.sail_counts_test.proofs.CountRuns.{Quiet}
use Rattle.sail_counts_test.proofs.idle_ok.Given as goal

abbrev pub invariant-loop-j : goal.invariant-loop-j
invariant-loop-j l = Tells (eqb l.most 0) (Quiet l.cells l.counts l.j)
