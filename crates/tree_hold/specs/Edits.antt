-- The words with one empty node more, and the words and the hops with one hop more. The same relation says what an edit does and what
-- its reverse does: which side is the entry and which the exit is all that differs.
use Rattle.std.specs.Prelude.{true, false, List, ◌≡◌, ℕ, suc, ◌+◌, ◌*◌, ◌/◌, ◌^◌, ◌≤◌, ◌<◌, length, get_or}
use Rattle.tree_image.specs.Node.{bits_of, child_of, base_of, is_set, child_at}
use Rattle.tree_node.specs.NodeRuns.{WithBit}
use Rattle.tree_same.specs.Read.{hop_place_at}
use Rattle.tree_same.specs.Order.{exts, ints, Order}

-- the bits of the nodes: ws' has an empty child c of node x at place y, and the nodes from there on one place further
pub record GraftedBits (ws ws' : List ℕ) (n x c y : ℕ) : Type 0 where
  pub small : c < 16
  pub after : x < y
  pub inside : y ≤ n
  pub narrow : (i : ℕ) → i < n → bits_of ws i < 2 ^ 32
  pub free : is_set (bits_of ws x) (16 + c) ≡ false
  pub parent : WithBit (bits_of ws x) (16 + c) (bits_of ws' x)
  pub below : (i : ℕ) → i < y → (i ≡ x → ⊥) → bits_of ws' i ≡ bits_of ws i
  pub new : bits_of ws' y ≡ 0
  pub above : (i : ℕ) → y ≤ i → i < n → bits_of ws' (suc i) ≡ bits_of ws i

-- and the bases: the child bases of all nodes after x are one more
pub record Grafted (ws ws' : List ℕ) (n x c y : ℕ) : Type 0 where
  pub bits : GraftedBits ws ws' n x c y
  pub same : length ws' ≡ length ws
  pub lent : n + 1 ≤ length ws' / 3
  pub place : y ≡ child_at (bits_of ws x) (child_of ws x) c
  pub child_upto : (i : ℕ) → i ≤ x → child_of ws' i ≡ child_of ws i
  pub child_between : (i : ℕ) → x < i → i < y → child_of ws' i ≡ child_of ws i + 1
  pub child_new : child_of ws' y ≡ 1 + exts ws y + 1
  pub child_above : (i : ℕ) → y ≤ i → i < n → child_of ws' (suc i) ≡ child_of ws i + 1
  pub base_below : (i : ℕ) → i < y → base_of ws' i ≡ base_of ws i
  pub base_new : base_of ws' y ≡ ints ws y
  pub base_above : (i : ℕ) → y ≤ i → i < n → base_of ws' (suc i) ≡ base_of ws i
  pub rest_old : (j : ℕ) → 3 * n ≤ j → get_or ws j 0 ≡ 0
  pub rest : (j : ℕ) → 3 * (n + 1) ≤ j → get_or ws' j 0 ≡ 0

-- the empty child c of node x taken away: with it, the words are those that were
abbrev pub Pruned : List ℕ → List ℕ → ℕ → ℕ → ℕ → Type 0
Pruned ws ws' n x c = Grafted ws' ws n x c (child_at (bits_of ws x) (child_of ws x) c)

-- words that an edit may work on: n nodes with the bases of the fixed order and k hops, words of 32 bits, zeros after the last
pub record NodeWords (ws : List ℕ) (n k : ℕ) : Type 0 where
  pub order : Order ws n
  pub hops : k ≡ ints ws n
  pub narrow : (i : ℕ) → i < n → bits_of ws i < 2 ^ 32
  pub rest : (j : ℕ) → 3 * n ≤ j → get_or ws j 0 ≡ 0

-- an empty child c may be put under node x
pub record Graftable (ws : List ℕ) (n k x c : ℕ) : Type 0 where
  pub words : NodeWords ws n k
  pub parent : x < n
  pub small : c < 16
  pub free : is_set (bits_of ws x) (16 + c) ≡ false
  pub room : 3 * n + 3 ≤ length ws

-- the child c of node x is empty and may be taken away; n nodes are left
pub record Prunable (ws : List ℕ) (n k x c : ℕ) : Type 0 where
  pub words : NodeWords ws (n + 1) k
  pub parent : x < n + 1
  pub small : c < 16
  pub stands : is_set (bits_of ws x) (16 + c) ≡ true
  pub bare : bits_of ws (child_at (bits_of ws x) (child_of ws x) c) ≡ 0

-- the bits of the nodes: ws' has the internal bit b of node x set
pub record MarkedBits (ws ws' : List ℕ) (n x b : ℕ) : Type 0 where
  pub small : b < 15
  pub inside : x < n
  pub narrow : (i : ℕ) → i < n → bits_of ws i < 2 ^ 32
  pub free : is_set (bits_of ws x) b ≡ false
  pub node : WithBit (bits_of ws x) b (bits_of ws' x)
  pub other : (i : ℕ) → i < n → (i ≡ x → ⊥) → bits_of ws' i ≡ bits_of ws i

-- and the hop h of that bit is put at its place y: the hops from y on stand one place further, and the hop bases of all nodes after x are
-- one more
pub record HopPut (ws ws' hs hs' : List ℕ) (n x b y h : ℕ) : Type 0 where
  pub bits : MarkedBits ws ws' n x b
  pub same : length ws' ≡ length ws
  pub same_hops : length hs' ≡ length hs
  pub lent : n ≤ length ws' / 3
  pub room : ints ws n + 1 ≤ length hs'
  pub place : y ≡ hop_place_at ws x b
  pub child_same : (i : ℕ) → i < n → child_of ws' i ≡ child_of ws i
  pub base_upto : (i : ℕ) → i ≤ x → base_of ws' i ≡ base_of ws i
  pub base_after : (i : ℕ) → x < i → i < n → base_of ws' i ≡ base_of ws i + 1
  pub rest_old : (j : ℕ) → 3 * n ≤ j → get_or ws j 0 ≡ 0
  pub rest : (j : ℕ) → 3 * n ≤ j → get_or ws' j 0 ≡ 0
  pub hops_below : (j : ℕ) → j < y → get_or hs' j 0 ≡ get_or hs j 0
  pub hop_new : get_or hs' y 0 ≡ h
  pub hops_above : (j : ℕ) → y ≤ j → j < ints ws n → get_or hs' (suc j) 0 ≡ get_or hs j 0
  pub blank_old : (j : ℕ) → ints ws n ≤ j → get_or hs j 0 ≡ 0
  pub blank : (j : ℕ) → ints ws n + 1 ≤ j → get_or hs' j 0 ≡ 0

-- the hop at the internal bit b of node x taken away: with it, the words and the hops are those that were
abbrev pub HopTaken : List ℕ → List ℕ → List ℕ → List ℕ → ℕ → ℕ → ℕ → Type 0
HopTaken ws ws' hs hs' n x b = HopPut ws' ws hs' hs n x b (hop_place_at ws x b) (get_or hs (hop_place_at ws x b) 0)

-- a hop may be put at the internal bit b of node x
pub record Puttable (ws hs : List ℕ) (n k x b : ℕ) : Type 0 where
  pub words : NodeWords ws n k
  pub parent : x < n
  pub small : b < 15
  pub free : is_set (bits_of ws x) b ≡ false
  pub room : k + 1 ≤ length hs
  pub blank : (j : ℕ) → k ≤ j → get_or hs j 0 ≡ 0

-- the hop at the internal bit b of node x may be taken away; k hops are left
pub record Takable (ws hs : List ℕ) (n k x b : ℕ) : Type 0 where
  pub words : NodeWords ws n (k + 1)
  pub parent : x < n
  pub small : b < 15
  pub stands : is_set (bits_of ws x) b ≡ true
  pub room : k + 1 ≤ length hs
  pub blank : (j : ℕ) → k + 1 ≤ j → get_or hs j 0 ≡ 0
