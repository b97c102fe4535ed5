-- The statement of a repair, as a predicate on what it answers and leaves: t and l are the state and what is lent at entry, r the answer with the
-- state beside it, and e what is lent at exit.
use Rattle.std.specs.Prelude.{◌≡◌}
use Rattle.sail.specs.Lent.{Lent}
use Rattle.sail.specs.declared.table.Table.{Table}
use Rattle.sail_theory.specs.Calls.{out}
use Rattle.repair_theory.specs.Repair.{repaired}
use Rattle.repair.specs.Answers.{means_repaired}
use Rattle.repair.specs.declared.repair.RepairedTable.{RepairedTable}

abbrev pub MeetsRepair : Table → Lent → RepairedTable → Lent → Type 0
MeetsRepair t l r e = out (means_repaired r.answer) r.table e ≡ repaired t l
