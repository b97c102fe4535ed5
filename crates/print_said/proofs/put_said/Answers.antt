-- `print_said::put_said`: an arm for what is accepted, and one for a refusal, with the line that is told of it.
use Rattle.print_said.proofs.Reports.{no_line, refusal-line}
use Rattle.print_said.proofs.put_said.Goals as goal

pub returns-in-Ok : goal.returns-in-Ok
returns-in-Ok g c = no_line _ _ _ c.in-Ok.is

pub returns-in-Err : goal.returns-in-Err
returns-in-Err g c = refusal-line _ _ _ c.in-Err.is (rw c.by_number-r.ensures at c.refusal_text.ensures)
