-- A node that waits in the words with the run of its records, and what is put of a node: its three words, its hops and its children.
use Rattle.std.specs.Prelude.{true, List, ◌≡◌, ℕ, ◌+◌, ◌*◌, ◌≤◌, ◌<◌, length, get_or, set}
use Rattle.bits.specs.Count.{count}
use Rattle.tree_image.specs.Image.{Node, node, bit_hop}
use Rattle.tree_node.specs.NodeRuns.{hop_in, path_at, node_at, ThroughRun, NodeRun, inner_in, child_in, word_in}

-- the three words of node x made a, b and d
abbrev pub put3 : List ℕ → ℕ → ℕ → ℕ → ℕ → List ℕ
put3 ws x a b d = set (set (set ws (3 * x) a) (3 * x + 1) b) (3 * x + 2) d

-- node x waits, as the node n: its depth, and the start and the end of its run
pub record Waits (s ws : List ℕ) (x : ℕ) (n : Node) : Type 0 where
  pub start : ℕ
  pub stop : ℕ
  pub depth : get_or ws (3 * x) 0 ≡ n.depth
  pub from : get_or ws (3 * x + 1) 0 ≡ start
  pub upto : get_or ws (3 * x + 2) 0 ≡ stop
  pub is : n ≡ node_at s n.depth start
  pub run : ThroughRun s n.depth n.path start stop

-- a node's run, its word w, and room for its hops from `base` on
pub record HopsReady (s : List ℕ) (m a e w base : ℕ) (hs : List ℕ) : Type 0 where
  pub node : NodeRun s m a e
  pub word : w ≡ word_in s m a
  pub room : base + count (inner_in s m a) 15 ≤ length hs

-- its hops are put, each at its place, and nothing else has changed
pub record HopsPut (s : List ℕ) (m a base : ℕ) (old new : List ℕ) : Type 0 where
  pub same : length new ≡ length old
  pub put : (b : ℕ) → b < 15 → inner_in s m a b ≡ true → get_or new (base + count (inner_in s m a) b) 0 ≡ bit_hop (hop_in s) (node_at s m a) b
  pub below : (j : ℕ) → j < base → get_or new j 0 ≡ get_or old j 0
  pub above : (j : ℕ) → base + count (inner_in s m a) 15 ≤ j → get_or new j 0 ≡ get_or old j 0

-- a node's run, its word w, and room for its children from node t on
pub record KidsReady (s : List ℕ) (m a e w t : ℕ) (ws : List ℕ) : Type 0 where
  pub node : NodeRun s m a e
  pub word : w ≡ word_in s m a
  pub room : 3 * (t + count (child_in s m a) 16) ≤ length ws

-- its children wait, each at its place, and nothing else has changed
pub record KidsPut (s : List ℕ) (m a t : ℕ) (old new : List ℕ) : Type 0 where
  pub same : length new ≡ length old
  pub wait : (c : ℕ) → c < 16 → child_in s m a c ≡ true → Waits s new (t + count (child_in s m a) c) (node (m + 1) (path_at s m a * 16 + c))
  pub below : (j : ℕ) → j < 3 * t → get_or new j 0 ≡ get_or old j 0
  pub above : (j : ℕ) → 3 * (t + count (child_in s m a) 16) ≤ j → get_or new j 0 ≡ get_or old j 0
