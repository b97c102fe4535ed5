-- What a lookup says, for every content of the words and the hops. All nodes are read first, then one hop.
use Rattle.std.specs.Prelude.{ℕ, zero, suc, ◌+◌, ◌-◌, cond, ◌&&◌, List, eqb, ltb, length, get_or, Option, Some, None}
use Rattle.routes.specs.Said.{Said, refused, hop_after, no_route_after}
use Rattle.routes.specs.Input.{hop_fine}
use Rattle.tree_image.specs.Node.{bits_of, child_of, base_of, is_set, sound, nibble_of, deepest_of, better_of, try_bit, child_at}
use Rattle.tree_image.specs.Reads.{counted}

-- the answer with the hop h, 0 for no route, after n nodes
unfoldable pub tree_hop_said : ℕ → ℕ → Said
tree_hop_said h n = cond (eqb h 0) (no_route_after (counted h n)) (hop_after (counted h n) h)

-- the hop at a place is read; it has to be lent, and 1 to 32,767
unfoldable pub fetched_from : List ℕ → ℕ → Option ℕ → Said
fetched_from hs n None = tree_hop_said 0 n
fetched_from hs n (Some h) = cond (ltb h (length hs) && hop_fine (get_or hs h 0)) (tree_hop_said (get_or hs h 0) n) (refused 13)

-- the match of node i, at depth 8, and above it
abbrev pub last_match : List ℕ → ℕ → Option ℕ → Option ℕ
last_match ws i best = better_of (bits_of ws i) (base_of ws i) (try_bit (bits_of ws i) 0 None) best

abbrev pub inner_match : List ℕ → ℕ → ℕ → Option ℕ → Option ℕ
inner_match ws i v best = better_of (bits_of ws i) (base_of ws i) (deepest_of (bits_of ws i) v) best

-- the walk from node i on, with d levels of nodes below it and the place of the deepest match so far
unfoldable pub walk_from : ℕ → List ℕ → List ℕ → ℕ → ℕ → Option ℕ → Said
walk_from zero ws hs a i best = cond (sound ws i) (fetched_from hs 9 (last_match ws i best)) (refused 13)
walk_from (suc d) ws hs a i best =
    cond (sound ws i)
    (cond (is_set (bits_of ws i) (16 + nibble_of a d))
    (walk_from d ws hs a (child_at (bits_of ws i) (child_of ws i) (nibble_of a d)) (inner_match ws i (nibble_of a d) best))
    (fetched_from hs (8 - d) (inner_match ws i (nibble_of a d) best)))
    (refused 13)

-- the walk from the root
unfoldable pub tree_said : List ℕ → List ℕ → ℕ → Said
tree_said ws hs a = walk_from 8 ws hs a 0 None
