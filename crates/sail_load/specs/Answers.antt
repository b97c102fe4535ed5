-- What load says: its answer, in document 01's terms. A new state has no values.
use Rattle.std.specs.Prelude.{Result}
use Rattle.refusals.specs.declared.Refused.{Refused}
use Rattle.routes.specs.Said.{Said, said_by}
use Rattle.sail.specs.declared.table.Table.{Table}
use Rattle.sail_theory.specs.After.{no_values}

abbrev pub means_loaded : Result Table Refused → Said
means_loaded = said_by no_values
