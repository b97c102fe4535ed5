-- One of the three words of each node from one place up to another, changed alike.
use Rattle.std.specs.Prelude.{Bool, cond, ◌&&◌, List, ℕ, ◌/◌, ◌%◌, eqb, leb, ltb, length, get_or}
use Rattle.bits.specs.Tab.{tabulate}

-- word d of the nodes from a up to b
abbrev pub among : ℕ → ℕ → ℕ → ℕ → Bool
among d a b j = eqb (j % 3) d && (leb a (j / 3) && ltb (j / 3) b)

-- ws, where each of these words is made f of what it was
unfoldable pub each : (ℕ → ℕ) → List ℕ → ℕ → ℕ → ℕ → List ℕ
each f ws d a b = tabulate (length ws) (λ j. cond (among d a b j) (f (get_or ws j 0)) (get_or ws j 0))
