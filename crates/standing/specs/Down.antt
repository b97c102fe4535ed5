-- The way down through the lengths, from the longest on.
use Rattle.std.specs.Prelude.{ℕ, zero, suc}

-- what a length says, 0 being nothing; else what the next says
abbrev pub or_next : ℕ → ℕ → ℕ
or_next zero d = d
or_next (suc h) d = suc h

-- "It goes down from the longest length": of the lengths below n, the longest that says anything decides; 0 where none does
unfoldable pub down : (ℕ → ℕ) → ℕ → ℕ
down says zero = 0
down says (suc l) = or_next (says l) (down says l)
