-- Which nodes stand, and the hops, with one more: a node, the nodes of a path, a hop.
use Rattle.std.specs.Prelude.{Bool, cond, ◌&&◌, ◌||◌, ℕ, ◌*◌, eqb, leb}
use Rattle.bits.specs.Slot.{slot}

-- the node for the path q of 4 * k bits stands too
unfoldable pub also : (ℕ → ℕ → Bool) → ℕ → ℕ → ℕ → ℕ → Bool
also st k q m p = st m p || (eqb m k && eqb p q)

-- the nodes on the path of the address a, down to depth e, stand too
unfoldable pub down_to : (ℕ → ℕ → Bool) → ℕ → ℕ → ℕ → ℕ → Bool
down_to st a e m p = st m p || (leb m e && eqb p (slot (4 * m) a))

-- the hop of the route of length l whose bits are q is h, and all others are as they were
unfoldable pub with_hop : (ℕ → ℕ → ℕ) → ℕ → ℕ → ℕ → ℕ → ℕ → ℕ
with_hop hop l q h a b = cond (eqb a l && eqb b q) h (hop a b)
