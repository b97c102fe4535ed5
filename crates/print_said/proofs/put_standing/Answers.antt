-- `print_said::put_standing`: what the report of a sound table tells is what is written, and its refusal is impossible.
use Rattle.print_said.proofs.Reports.{standing-printable, standing-wrote, never-refused}
use Rattle.print_said.proofs.put_standing.Goals as goal

pub table_text-requires : goal.table_text-requires
table_text-requires c = standing-printable _ _ c.requires.sound _ c.report.ensures _ c.in-Ok.is _ c.requires.room

pub returns-in-Ok : goal.returns-in-Ok
returns-in-Ok c = standing-wrote _ _ c.requires.sound _ c.report.ensures _ c.in-Ok.is c.table_text.ensures

pub returns-in-Err : goal.returns-in-Err
returns-in-Err c = absurd (never-refused _ _ c.requires.sound _ c.report.ensures _ c.in-Err.is)
