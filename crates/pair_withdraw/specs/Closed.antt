-- The owners of a shared pool once a party closed chunks of its own.
use Rattle.std.specs.Prelude.{cond, List, ℕ, eqb, get_or, length}
use Rattle.bits.specs.Tab.{tabulate}
use Rattle.pair.specs.Party.{Party, seen}

-- the owner o of a chunk that the party now sees as s: 0 where it saw another
abbrev pub owner_left : Party → ℕ → ℕ → ℕ
owner_left w s o = cond (eqb (seen w o) s) o 0

-- so for each chunk: where `see` is what is kept of the owners that the party saw, these are the owners that `keep_for` leaves (`shut-keep`)
unfoldable pub shut_for : Party → List ℕ → List ℕ → List ℕ
shut_for w see own = tabulate (length own) (λ c. owner_left w (get_or see c 0) (get_or own c 0))
