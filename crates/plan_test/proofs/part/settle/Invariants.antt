-- `plan_test::part::settle`. The same for each word of a run, in any order.
use Prim.Native.Nat.{◌+◌}
use lib.ListN.{take}
use Rattle.standing.specs.Cells.{long}
use Rattle.chain.specs.Words.{routes_of_words}
use Rattle.plan_test.specs.Part.{Settled}
use Rattle.plan_test.proofs.part.settle.Given as goal

abbrev pub invariant-loop-w : goal.invariant-loop-w
invariant-loop-w l =
    Settled (λ j. long (routes_of_words (take l.w-index l.run)) l.p (l.base + j)) l.part l.own l.o l.initial.want l.want l.ok
