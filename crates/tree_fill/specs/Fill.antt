-- The arrays while an image is filled: nodes that are done, after them nodes that wait, and then zeros.
use Rattle.std.specs.Prelude.{List, ◌≡◌, ℕ, ◌+◌, ◌*◌, ◌/◌, ◌%◌, ◌^◌, ◌≤◌, ◌<◌, length, get_or}
use Rattle.routes.specs.Record.{Records, routes_in}
use Rattle.tree_image.specs.Parts.{before}
use Rattle.tree_image.specs.Image.{Node, kids, hops_of, nodes, hops, image_of}
use Rattle.tree_image.specs.Done.{node_no, Done}
use Rattle.tree_node.specs.NodeRuns.{stands_in, hop_in}
use Rattle.tree_node.specs.Queue.{Waits}

-- the nodes in order; how many children, and how many hops, come from the first i
abbrev pub nodes_in : List ℕ → List Node
nodes_in s = nodes (stands_in s)

abbrev pub node_in : List ℕ → ℕ → Node
node_in s x = node_no (stands_in s) x

abbrev pub kids_before : List ℕ → ℕ → ℕ
kids_before s i = before (kids (stands_in s)) (nodes_in s) i

abbrev pub hops_before : List ℕ → ℕ → ℕ
hops_before s i = before (hops_of (hop_in s)) (nodes_in s) i

-- good records, no byte after them, and room for their image in w words and h hops
pub record ImageRoom (s : List ℕ) (w h : ℕ) : Type 0 where
  pub records : Records s (length s / 8)
  pub whole : length s % 8 ≡ 0
  pub words_room : 3 * length (nodes_in s) ≤ w
  pub hops_room : length (hops (stands_in s) (hop_in s)) ≤ h
  pub words_fit : length (nodes_in s) < 2 ^ 32
  pub hops_fit : length (hops (stands_in s) (hop_in s)) < 2 ^ 32

-- the first i nodes are done, the nodes from i up to t wait, and zeros stand after them and after the first h hops
pub record State (s ws hs : List ℕ) (i t h : ℕ) : Type 0 where
  pub room : ImageRoom s (length ws) (length hs)
  pub order : i ≤ t
  pub tail : t ≡ 1 + kids_before s i
  pub hop : h ≡ hops_before s i
  pub done : (x : ℕ) → x < i → Done (stands_in s) (hop_in s) ws hs x
  pub wait : (x : ℕ) → i ≤ x → x < t → Waits s ws x (node_in s x)
  pub rest : (j : ℕ) → 3 * t ≤ j → get_or ws j 0 ≡ 0
  pub blank : (j : ℕ) → h ≤ j → get_or hs j 0 ≡ 0

-- the state, with a node that waits
pub record NodeWaits (s ws hs : List ℕ) (i t h : ℕ) : Type 0 where
  pub now : State s ws hs i t h
  pub waits : i < t
  pub whole : 3 * i + 3 ≤ length ws
  pub tail_fits : t < 2 ^ 32
  pub hop_fits : h < 2 ^ 32

-- the arrays hold the image of the routes, in their sizes
pub record ImageFilled (s ws₀ hs₀ ws hs : List ℕ) : Type 0 where
  pub words : ws ≡ (image_of (routes_in s) (length ws₀) (length hs₀)).words
  pub hops : hs ≡ (image_of (routes_in s) (length ws₀) (length hs₀)).hops
