-- What the functions of the test ask for and answer: of the bases, and of nodes and their child arrays on the way down from the root.
use Rattle.std.specs.Prelude.{true, false, List, ◌≡◌, ℕ, ◌+◌, ◌*◌, ◌≤◌, ◌<◌, length, get_or, Option, Some, None}
use Rattle.tree_image.specs.Node.{child_of, base_of}
use Rattle.tree_same.specs.Order.{exts, ints, Order}
use Rattle.tree_formed.specs.WellFormed.{nodes_used, ordered, well_formed, nodes_if}

-- ---- the bases

-- node j stands between some node and its children
pub record PassedOver (ws : List ℕ) (j : ℕ) : Type 0 where
  pub from : ℕ
  pub low : from ≤ j
  pub high : j < child_of ws from

-- the way to the first child of each level ends at r, where the nodes in use are in order and zeros follow them; it passes over each node before r
pub record EndsAt (ws : List ℕ) (r : ℕ) : Type 0 where
  pub end : (n : ℕ) → Order ws n → ((j : ℕ) → 3 * n ≤ j → get_or ws j 0 ≡ 0) → r ≡ n
  pub over : (j : ℕ) → j < r → PassedOver ws j

-- so many nodes are lent, at least the root, and no more than an image has, and the way passes over each
pub record Nodes (ws : List ℕ) (n : ℕ) : Type 0 where
  pub some : 0 < n
  pub lent : 3 * n ≤ length ws
  pub few : n ≤ 32769
  pub over : (j : ℕ) → j < n → PassedOver ws j

-- the bases of the root are right, and m nodes follow it
pub record Begun (ws : List ℕ) (m : ℕ) : Type 0 where
  pub lent : 3 * (m + 1) ≤ length ws
  pub few : m ≤ 32768
  pub child : child_of ws 0 ≡ 1
  pub base : base_of ws 0 ≡ 0

-- the bases of the nodes up to node i are those of the fixed order
pub record NodesUpTo (ws : List ℕ) (i : ℕ) : Type 0 where
  pub child : (j : ℕ) → j ≤ i → child_of ws j ≡ 1 + exts ws j
  pub base : (j : ℕ) → j ≤ i → base_of ws j ≡ ints ws j

-- n is the number of nodes in use, and the bases are those of the fixed order
pub record Shape (ws : List ℕ) (n : ℕ) : Type 0 where
  pub some : 0 < n
  pub lent : 3 * n ≤ length ws
  pub few : n ≤ 32769
  pub ordered : n ≡ nodes_if (ordered ws) ws

-- these nodes; or none, and the words are those of no image
abbrev pub NodesShaped : List ℕ → Option ℕ → Type 0
NodesShaped ws (Some n) = Shape ws n
NodesShaped ws None = (hs : List ℕ) → well_formed ws hs ≡ false

-- ---- the way down

-- n nodes from `first` on, of those in use, with `left` levels of nodes below them, where the bases are those of the fixed order
pub record Siblings (ws : List ℕ) (first n left : ℕ) : Type 0 where
  pub order : ordered ws ≡ true
  pub inside : first + n ≤ nodes_used ws
  pub few : nodes_used ws ≤ 32769
  pub deep : left ≤ 8
