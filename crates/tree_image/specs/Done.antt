-- An image in two arrays, node by node, whatever made it: which words and hops a node has when it is done, and when all nodes are.
-- Nodes and hops are given as in Image.antt, by `st` and `hop`.
use Rattle.std.specs.Prelude.{Bool, true, List, ◌≡◌, ℕ, ◌+◌, ◌*◌, ◌≤◌, ◌<◌, length, get_or}
use Rattle.bits.specs.Count.{count}
use Rattle.tree_image.specs.Node.{bits_of, child_of, base_of}
use Rattle.tree_image.specs.Parts.{before}
use Rattle.tree_image.specs.Image.{Node, node, inner, bit_hop, word, kids, hops_of, nodes, hops}

-- node x of the fixed order
abbrev pub node_no : (ℕ → ℕ → Bool) → ℕ → Node
node_no st x = get_or (nodes st) x (node 0 0)

-- node x has its three words, and its hops are put
pub record Done (st : ℕ → ℕ → Bool) (hop : ℕ → ℕ → ℕ) (ws hs : List ℕ) (x : ℕ) : Type 0 where
  pub bits : bits_of ws x ≡ word st hop (node_no st x)
  pub child : child_of ws x ≡ 1 + before (kids st) (nodes st) x
  pub base : base_of ws x ≡ before (hops_of hop) (nodes st) x
  pub put : (b : ℕ) → b < 15 → inner hop (node_no st x) b ≡ true
      → get_or hs (before (hops_of hop) (nodes st) x + count (inner hop (node_no st x)) b) 0 ≡ bit_hop hop (node_no st x) b

-- all nodes are done, and zeros stand after the last word and the last hop used
pub record AllDone (st : ℕ → ℕ → Bool) (hop : ℕ → ℕ → ℕ) (ws hs : List ℕ) : Type 0 where
  pub words_room : 3 * length (nodes st) ≤ length ws
  pub hops_room : length (hops st hop) ≤ length hs
  pub each : (x : ℕ) → x < length (nodes st) → Done st hop ws hs x
  pub rest : (j : ℕ) → 3 * length (nodes st) ≤ j → get_or ws j 0 ≡ 0
  pub blank : (j : ℕ) → length (hops st hop) ≤ j → get_or hs j 0 ≡ 0
