-- `packing_tables::announced`: each case of the answer by its values.
use mathlib.Core.Path.{ap}
use native.Mathlib.Omega.{arith}
use Rattle.sail_announce.specs.Answers.{means_announce}
use Rattle.sail_announce.specs.declared.answers.Announce.{Announce}
use Rattle.routes.specs.Said.{packed}
use Rattle.packing.specs.Pack.{pack_change}
use borrow.Author.Rules.{rules}
use Rattle.packing_tables.proofs.announced.Goals as goal

pub enum_known-a : goal.enum_known-a
unfolding means_announce packed
enum_known-a c = search rules

pub changed-requires : goal.changed-requires
unfolding means_announce packed
changed-requires c = search rules

pub enum_known-a-in-Replaced-1 : goal.enum_known-a-in-Replaced-1
unfolding means_announce packed
enum_known-a-in-Replaced-1 c = search rules

pub changed-requires-in-Replaced : goal.changed-requires-in-Replaced
unfolding means_announce packed
changed-requires-in-Replaced c = search rules

pub enum_known-a-in-Refused-1 : goal.enum_known-a-in-Refused-1
unfolding means_announce packed
enum_known-a-in-Refused-1 c = search rules

pub returns-in-Added : goal.returns-in-Added
unfolding means_announce packed
returns-in-Added c = omega (arith, ap (λ (x : Announce). pack_change c.args.count (means_announce x)) c.in-Added.is)

pub returns-in-Replaced : goal.returns-in-Replaced
unfolding means_announce packed
returns-in-Replaced c = omega (arith, ap (λ (x : Announce). pack_change c.args.count (means_announce x)) c.in-Replaced.is)

pub returns-in-Refused : goal.returns-in-Refused
unfolding means_announce packed
returns-in-Refused c =
    omega (
      arith,
      ap (λ (x : Announce). pack_change c.args.count (means_announce x))
          c.in-Refused.is,
    )
