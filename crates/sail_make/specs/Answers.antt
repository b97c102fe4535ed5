-- What make says: its answer, in document 01's terms. A new state has no values.
use Rattle.std.specs.Prelude.{Result}
use Rattle.refusals.specs.declared.Refusal.{Refusal}
use Rattle.routes.specs.Said.{Said, said_plainly}
use Rattle.sail.specs.declared.table.Table.{Table}
use Rattle.sail_theory.specs.After.{no_values}

abbrev pub means_made : Result Table Refusal → Said
means_made = said_plainly no_values
