-- The tree bitmap image of routes. It is a function of two things that are read off the routes: which nodes stand, `st m p` for
-- the path p of 4 * m bits, and their hops, `hop l q` for the route of length l whose bits are q, 0 where there is none.
use Rattle.std.specs.Prelude.{Bool, false, cond, ◌&&◌, List, [], ◌∷◌, ◌++◌, ℕ, zero, suc, ◌+◌, ◌-◌, ◌*◌, ◌^◌, ltb, leb, eqb, length}
use Rattle.bits.specs.Slot.{slot}
use Rattle.bits.specs.Bit.{packed_bits}
use Rattle.bits.specs.Count.{count}
use Rattle.standing.specs.Cells.{here, any, first, or_else}
use Rattle.routes.specs.declared.Route.{Route}
use Rattle.tree_image.specs.Parts.{picked, gather, zero_padded}

-- a node: it stands for a path of 4 * depth bits
pub record Node : Type 0 where
  pub depth : ℕ
  pub path : ℕ

abbrev pub node : ℕ → ℕ → Node
node m p = record { depth = m; path = p }

-- the inner length j of the internal bit b = 2 ^ j - 1 + v
abbrev pub inner_len : ℕ → ℕ
inner_len b = cond (ltb b 1) 0 (cond (ltb b 3) 1 (cond (ltb b 7) 2 3))

-- the hop of the route at the internal bit b of a node
unfoldable pub bit_hop : (ℕ → ℕ → ℕ) → Node → ℕ → ℕ
bit_hop hop n b = hop (4 * n.depth + inner_len b) (n.path * 2 ^ inner_len b + (b + 1 - 2 ^ inner_len b))

-- the internal bit b is set: there is a hop
abbrev pub inner : (ℕ → ℕ → ℕ) → Node → ℕ → Bool
inner hop n b = ltb 0 (bit_hop hop n b)

-- the extending bit for the four bits c is set: the child stands
abbrev pub child : (ℕ → ℕ → Bool) → Node → ℕ → Bool
child st n c = st (n.depth + 1) (n.path * 16 + c)

-- bits 0 to 14 internal, bit 15 zero, bits 16 to 31 extending
unfoldable pub set_bit : (ℕ → ℕ → Bool) → (ℕ → ℕ → ℕ) → Node → ℕ → Bool
set_bit st hop n b = cond (ltb b 15) (inner hop n b) (cond (ltb b 16) false (child st n (b - 16)))

unfoldable pub word : (ℕ → ℕ → Bool) → (ℕ → ℕ → ℕ) → Node → ℕ
word st hop n = packed_bits (set_bit st hop n) 32

-- the children of a node and its hops, in the order of its bits
unfoldable pub kids : (ℕ → ℕ → Bool) → Node → List Node
kids st n = picked (child st n) (λ c. node (n.depth + 1) (n.path * 16 + c)) 16

unfoldable pub hops_of : (ℕ → ℕ → ℕ) → Node → List ℕ
hops_of hop n = picked (inner hop n) (bit_hop hop n) 15

-- the nodes of depth m: the root, and below it the children of the nodes above
unfoldable pub level : (ℕ → ℕ → Bool) → ℕ → List Node
level st zero = node 0 0 ∷ []
level st (suc m) = gather (kids st) (level st m)

-- the nodes of a depth below m, by depth and then by path
unfoldable pub up_to : (ℕ → ℕ → Bool) → ℕ → List Node
up_to st zero = []
up_to st (suc m) = up_to st m ++ level st m

abbrev pub nodes : (ℕ → ℕ → Bool) → List Node
nodes st = up_to st 9

-- three words for each node: its bits; c, 1 and all children of earlier nodes; h, all hops of earlier nodes
unfoldable pub words_from : (ℕ → ℕ → Bool) → (ℕ → ℕ → ℕ) → List Node → ℕ → ℕ → List ℕ
words_from st hop [] c h = []
words_from st hop (n ∷ ns) c h = word st hop n ∷ c ∷ h ∷ words_from st hop ns (c + length (kids st n)) (h + length (hops_of hop n))

unfoldable pub words : (ℕ → ℕ → Bool) → (ℕ → ℕ → ℕ) → List ℕ
words st hop = words_from st hop (nodes st) 1 0

unfoldable pub hops : (ℕ → ℕ → Bool) → (ℕ → ℕ → ℕ) → List ℕ
hops st hop = gather (hops_of hop) (nodes st)

pub record Image : Type 0 where
  pub words : List ℕ
  pub hops : List ℕ

-- the image in w words and h hops: zeros after the last used
unfoldable pub image_by : (ℕ → ℕ → Bool) → (ℕ → ℕ → ℕ) → ℕ → ℕ → Image
image_by st hop w h = record { words = zero_padded w (words st hop); hops = zero_padded h (hops st hop) }

-- the route is no shorter than 4 * m and begins with the path p of 4 * m bits
abbrev pub through : ℕ → ℕ → Route → Bool
through m p r = leb (4 * m) r.len && eqb (slot (4 * m) r.addr) p

-- some route does: the node for the path p stands
abbrev pub node_stands : List Route → ℕ → ℕ → Bool
node_stands rs m p = any (through m p) rs

-- the hop of the route of length l whose bits are q, and 0 where there is none
abbrev pub hop_for : List Route → ℕ → ℕ → ℕ
hop_for rs l q = or_else (first (here l q) rs) 0

-- the image of a list of routes
abbrev pub image_of : List Route → ℕ → ℕ → Image
image_of rs w h = image_by (node_stands rs) (hop_for rs) w h

-- the nodes that it needs
abbrev pub node_need : List Route → ℕ
node_need rs = length (nodes (node_stands rs))

-- how many nodes stand on the path of an address, the root always
abbrev pub on_path : List Route → ℕ → ℕ
on_path rs a = 1 + count (λ m. node_stands rs (m + 1) (slot (4 * (m + 1)) a)) 8
