-- `sail_lookup::found_in`: what a word says that is no refusal's.
use Rattle.sail_lookup.proofs.Tellings.{found-of, none-of}
use Rattle.sail_lookup.proofs.found_in.Goals as goal

pub returns-in-Ok : goal.returns-in-Ok
returns-in-Ok c = found-of _ _ c.said.ensures _ c.in-Ok.is

pub returns-in-Err : goal.returns-in-Err
returns-in-Err c = none-of _ _ c.said.ensures _ c.in-Err.is
