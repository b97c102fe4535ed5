-- `print::put_loaded`: what load says and leaves is what is printed, and a table that was loaded is sound.
use native.Mathlib.Omega.{arith}
use Rattle.std.specs.Prelude.{Err}
use Rattle.numbered.proofs.Numbers.{said-with_index}
use Rattle.sail.specs.Lent.{lent}
use Rattle.sail.specs.declared.table.Table.{Table}
use Rattle.sail_theory.specs.After.{no_values}
use Rattle.print.proofs.Ways.{done-sound, done-wrote, refused-wrote}
use Rattle.print.proofs.put_loaded.Goals as goal

-- the arm of a load that is done
pub put_standing-requires : goal.put_standing-requires
put_standing-requires c =
    let s = done-sound _ _ (lent _ _ _ _ _ _ _ _) c.load.ensures _ c.in-Ok.is in
    record { sound = s; room = omega (arith, s.listed.records.room, c.requires) }

pub returns-in-Ok : goal.returns-in-Ok
returns-in-Ok c = done-wrote _ _ (lent _ _ _ _ _ _ _ _) c.load.ensures _ c.in-Ok.is c.put_standing.ensures

-- and of a refusal
pub returns-in-Err : goal.returns-in-Err
returns-in-Err c =
    refused-wrote _ _ (lent _ _ _ _ _ _ _ _) c.load.ensures _ c.in-Err.is
    (rw (said-with_index {A = Table} no_values (Err c.in-Err.e)) at c.put_said.ensures)
