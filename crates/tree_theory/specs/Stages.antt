-- What holds on the way of a change: the image as it was found well formed, the way down the path of a prefix, and what the arrays become.
use Rattle.std.specs.Prelude.{Bool, true, false, ◌&&◌, List, ◌≡◌, ℕ, ◌+◌, ◌-◌, ◌*◌, ◌/◌, ◌%◌, ◌^◌, ◌≤◌, ◌<◌, eqb, length}
use Rattle.bits.specs.Slot.{slot}
use Rattle.routes.specs.Route.{key_of, Prefix, Fine, Good}
use Rattle.routes.specs.declared.Route.{Route}
use Rattle.standing.specs.Standing.{stands, insert, remove}
use Rattle.tree_image.specs.Image.{node_stands, hop_for, node_need, image_of}
use Rattle.tree_image.specs.Node.{bits_of, is_set}
use Rattle.tree_same.specs.Read.{reached, leads}
use Rattle.tree_same.specs.Order.{ints, Order}
use Rattle.tree_same.specs.Holding.{Holding}
use Rattle.tree_same.specs.Listed.{routes_held}
use Rattle.tree_formed.specs.WellFormed.{ordered, nodes_if}
use Rattle.tree_theory.specs.Changed.{unmarked_route}

-- a well-formed image of n nodes and k hops: it holds the routes that are read out of it
pub record Found (ws hs : List ℕ) (n k : ℕ) : Type 0 where
  pub good : Good (routes_held ws hs)
  pub holds : Holding (node_stands (routes_held ws hs)) (hop_for (routes_held ws hs)) ws hs n
  pub hops : k ≡ ints ws n
  pub few_nodes : n ≤ 32769
  pub few_hops : k ≤ 4096

-- the way down the path of the address a, to depth `deep` at most, ends at node x of depth m
pub record Descent (ws : List ℕ) (n a deep x m : ℕ) : Type 0 where
  pub upto : m ≤ deep
  pub inside : x < n
  pub at : x ≡ reached ws m (slot (4 * m) a)
  pub stands : leads ws m (slot (4 * m) a) ≡ true
  pub stop : m < deep → is_set (bits_of ws x) (16 + slot (4 * (m + 1)) a % 16) ≡ false

-- the path of the address a stands down to depth m
pub record OnPath (ws : List ℕ) (n a m : ℕ) : Type 0 where
  pub order : Order ws n
  pub deep : m ≤ 8
  pub stands : leads ws m (slot (4 * m) a) ≡ true

-- the internal bit of a prefix in its node
pub record BitOf (a len b : ℕ) : Type 0 where
  pub small : b < 15
  pub is : b ≡ 2 ^ (len % 4) - 1 + slot len a % 2 ^ (len % 4)

-- the way down to the node of a prefix ends at node x of depth m; b is the bit of the prefix, and t tells whether it is set there
pub record PathEnds (ws : List ℕ) (n a len x m b : ℕ) (t : Bool) : Type 0 where
  pub bit : BitOf a len b
  pub way : Descent ws n a (len / 4) x m
  pub tells : t ≡ (eqb m (len / 4) && is_set (bits_of ws x) b)

-- n is the number of nodes that the test of a well-formed image answers
pub record ImageFormed (ws hs : List ℕ) (n : ℕ) : Type 0 where
  pub found : Found ws hs n (ints ws n)
  pub nodes : n ≡ nodes_if (ordered ws) ws
  pub lent : (0 < n) × (3 * n ≤ length ws)

-- a prefix that does not stand
pub record New (ws hs : List ℕ) (n k x m a len h b : ℕ) : Type 0 where
  pub found : Found ws hs n k
  pub fine : Fine (unmarked_route a len h)
  pub way : Descent ws n a (len / 4) x m
  pub bit : BitOf a len b
  pub absent : stands (key_of a len) (routes_held ws hs) ≡ false

-- it may be put in where there is room for it
pub record Addable (ws hs : List ℕ) (n k x m a len h b : ℕ) : Type 0 where
  pub new : New ws hs n k x m a len h b
  pub words_room : n + (len / 4 - m) ≤ length ws / 3
  pub hops_room : k + 1 ≤ length hs

-- a prefix that stands, at the internal bit b of node x
pub record Standing (ws hs : List ℕ) (n k x a len b : ℕ) : Type 0 where
  pub found : Found ws hs n k
  pub prefix : Prefix a len
  pub way : Descent ws n a (len / 4) x (len / 4)
  pub bit : BitOf a len b
  pub stood : stands (key_of a len) (routes_held ws hs) ≡ true

-- the arrays, which were ws and hs, are the image of rs, which needs n nodes
pub record Become (rs : List Route) (ws hs ws' hs' : List ℕ) (n : ℕ) : Type 0 where
  pub words : ws' ≡ (image_of rs (length ws) (length hs)).words
  pub hops : hs' ≡ (image_of rs (length ws) (length hs)).hops
  pub nodes : n ≡ node_need rs

-- the image with a prefix put in or its hop replaced, and without a prefix
abbrev pub BecomeWith : List ℕ → List ℕ → ℕ → ℕ → ℕ → List ℕ → List ℕ → ℕ → Type 0
BecomeWith ws hs a len h ws' hs' n = Become (insert (unmarked_route a len h) (routes_held ws hs)) ws hs ws' hs' n

abbrev pub BecomeWithout : List ℕ → List ℕ → ℕ → ℕ → List ℕ → List ℕ → ℕ → Type 0
BecomeWithout ws hs a len ws' hs' n = Become (remove (key_of a len) (routes_held ws hs)) ws hs ws' hs' n
