-- `packing_tables::withdrawn`: each case of the answer by its values.
use mathlib.Core.Path.{ap}
use native.Mathlib.Omega.{arith}
use Rattle.sail_withdraw.specs.Answers.{means_withdraw}
use Rattle.sail_withdraw.specs.declared.answers.Withdraw.{Withdraw}
use Rattle.routes.specs.Said.{packed}
use Rattle.packing.specs.Pack.{pack_change}
use borrow.Author.Rules.{rules}
use Rattle.packing_tables.proofs.withdrawn.Goals as goal

pub enum_known-a : goal.enum_known-a
unfolding means_withdraw packed
enum_known-a c = search rules

pub changed-requires : goal.changed-requires
unfolding means_withdraw packed
changed-requires c = search rules

pub enum_known-a-in-Refused-1 : goal.enum_known-a-in-Refused-1
unfolding means_withdraw packed
enum_known-a-in-Refused-1 c = search rules

pub returns-in-Removed : goal.returns-in-Removed
unfolding means_withdraw packed
returns-in-Removed c = omega (arith, ap (λ (x : Withdraw). pack_change c.args.count (means_withdraw x)) c.in-Removed.is)

pub returns-in-Refused : goal.returns-in-Refused
unfolding means_withdraw packed
returns-in-Refused c =
    omega (
      arith,
      ap (λ (x : Withdraw). pack_change c.args.count (means_withdraw x))
          c.in-Refused.is,
    )
