-- `plan::paint::plan_words`. The cells of level p from base on, as many as `out` has: the hop h everywhere, and the routes over it in list order.
use mathlib.Core.Path.{◌≡◌}
use lib.ListN.{length, take}
use Rattle.chain.specs.Words.{routes_of_words}
use Rattle.plan.specs.Plan.{planned_from}
use Rattle.plan.proofs.paint.plan_words.Given as goal

abbrev pub invariant-loop-k : goal.invariant-loop-k
invariant-loop-k l = l.out ≡ planned_from l.h (routes_of_words (take l.k l.ws)) l.p l.base (length l.fn.out)
