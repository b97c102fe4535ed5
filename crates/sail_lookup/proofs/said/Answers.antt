-- `sail_lookup::said`: what each word says.
use Rattle.sail.proofs.Words.{says-number, says_none, says-hop}
use Rattle.sail_lookup.proofs.said.Goals as goal

pub returns-then-w-ne0 : goal.returns-then-w-ne0
returns-then-w-ne0 c = search says-number

pub returns-then-hop-eq0 : goal.returns-then-hop-eq0
returns-then-hop-eq0 c = search says_none

pub returns : goal.returns
returns c = search says-hop
