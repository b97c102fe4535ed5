-- One law for each return.
use mathlib.Core.Bool.{not}
use mathlib.Core.Path.{ap}
use Rattle.basic_lookup.proofs.LookupReturns.{told-none, told-hop, told-broken}
use Rattle.basic_lookup.proofs.found_of.Goals as goal

pub returns-in_default : goal.returns-in_default
returns-in_default c = rw c.in_default.is told-none

pub returns-then-not-hop_ok : goal.returns-then-not-hop_ok
returns-then-not-hop_ok c = rw (c.in-Some.is, c.into.ensures) (told-broken _ _ c.hop_ok.ensures (ap not c.if-not-hop_ok.true))

pub returns : goal.returns
returns c = rw c.in-Some.is (told-hop _ _ c.hop_ok.ensures (ap not c.if-not-hop_ok.false))
