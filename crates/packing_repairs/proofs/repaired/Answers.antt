-- `packing_repairs::repaired`: the count where it is accepted, and else the number of the refusal.
use mathlib.Core.Path.{ap}
use native.Mathlib.Omega.{arith}
use Rattle.routes.specs.Said.{packed}
use Rattle.repair.specs.Answers.{means_repaired}
use Rattle.repair.specs.declared.repair.Repaired.{Repaired}
use Rattle.packing_repairs.specs.Repairs.{pack_count}
use Rattle.packing_repairs.proofs.repaired.Goals as goal

pub returns-in-Done : goal.returns-in-Done
unfolding means_repaired packed
returns-in-Done c = omega (arith, ap (λ (x : Repaired). pack_count c.args.count (means_repaired x)) c.in-Done.is)

pub returns-in-Refused : goal.returns-in-Refused
unfolding means_repaired packed
returns-in-Refused c =
    omega (
      arith,
      ap (λ (x : Repaired). pack_count c.args.count (means_repaired x))
          c.in-Refused.is,
    )
