-- The fixed order of nodes, read off the words alone: the child base of a node is 1 plus all extending ones in earlier nodes, its hop base all
-- internal ones in earlier nodes, and the nodes are the fewest that have all their children among them.
use Rattle.std.specs.Prelude.{Bool, List, ◌≡◌, ℕ, zero, suc, ◌+◌, ◌/◌, ◌%◌, ◌^◌, ◌≤◌, ◌<◌, eqb, length}
use Rattle.std.specs.Int.Count.{ones}
use Rattle.tree_image.specs.Node.{bits_of, child_of, base_of}

-- the extending ones and the internal ones of the first i nodes
unfoldable pub exts : List ℕ → ℕ → ℕ
exts ws zero = 0
exts ws (suc i) = exts ws i + ones (bits_of ws i / 2 ^ 16)

unfoldable pub ints : List ℕ → ℕ → ℕ
ints ws zero = 0
ints ws (suc i) = ints ws i + ones (bits_of ws i % 2 ^ 15)

-- the first n nodes stand in this order
pub record Order (ws : List ℕ) (n : ℕ) : Type 0 where
  pub lent : n ≤ length ws / 3
  pub whole : 1 + exts ws n ≤ n
  pub fewest : (i : ℕ) → i < n → i < 1 + exts ws i
  pub child : (i : ℕ) → i < n → child_of ws i ≡ 1 + exts ws i
  pub base : (i : ℕ) → i < n → base_of ws i ≡ ints ws i

-- the node for the path p of 4 * m bits stands by `st`; the root always
unfoldable pub stands_at : (ℕ → ℕ → Bool) → ℕ → ℕ → Bool
stands_at st zero p = eqb p 0
stands_at st (suc m) p = st (suc m) p
