-- What a call says and hands back that answers with the new state, or why there is none.
use Rattle.std.specs.Prelude.{List, [], ℕ, Result, Ok, Err}

-- such an answer has no values
abbrev pub no_values : {S : Type 0} → S → List ℕ
no_values s = []

-- the state after it: a refusal leaves the caller's own
abbrev pub state_after : {S E : Type 0} → S → Result S E → S
state_after s (Ok u) = u
state_after s (Err e) = s
