-- Calls one after the other from a table that is there already.
use Rattle.std.specs.Prelude.{List, [], ◌∷◌, ◌++◌, ◌≡◌}
use Rattle.sail.specs.Lent.{Lent}
use Rattle.sail.specs.declared.table.Table.{Table}
use Rattle.sail_theory.specs.Calls.{Out}
use Rattle.sail_theory.specs.CallRuns.{Call, load, done}
use Rattle.repair_theory.specs.Repair.{kept_bytes}

-- what a run of calls leaves that begins with what o left; the last call stands first
unfoldable pub onwards : Out → List Call → Out
onwards o [] = o
onwards o (c ∷ cs) = done (onwards o cs).table (onwards o cs).lent c

-- the state and all that is lent are the same
pub record SameOut (o p : Out) : Type 0 where
  pub table : o.table ≡ p.table
  pub lent : o.lent ≡ p.lent

-- the run from a fresh table that leaves the same as these calls after a repair: before them a load of the kept records
abbrev pub as_run : Table → Lent → List Call → List Call
as_run t l cs = cs ++ load (kept_bytes t l) ∷ []
