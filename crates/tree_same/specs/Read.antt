-- The hops that words and hops hold, whatever their content: for each prefix the hop that the bits on its path lead to. Read against document 01,
-- this is an image read backwards: a route of length l lies in the node at depth l div 4, at inner length l mod 4.
use Rattle.std.specs.Prelude.{Bool, cond, ◌&&◌, List, ℕ, zero, suc, ◌+◌, ◌/◌, ◌%◌, ◌^◌, eqb, leb, get_or}
use Rattle.std.specs.Int.Count.{ones}
use Rattle.tree_image.specs.Node.{bits_of, child_of, base_of, is_set, inner_bit, child_at}

-- the node that the path p of 4 * m bits leads to
unfoldable pub reached : List ℕ → ℕ → ℕ → ℕ
reached ws zero p = 0
reached ws (suc m) p = child_at (bits_of ws (reached ws m (p / 16))) (child_of ws (reached ws m (p / 16))) (p % 16)

-- the extending bits lead there
unfoldable pub leads : List ℕ → ℕ → ℕ → Bool
leads ws zero p = eqb p 0
leads ws (suc m) p = leads ws m (p / 16) && is_set (bits_of ws (reached ws m (p / 16))) (16 + p % 16)

-- the place of the hop at the internal bit b of node i: the node's hop base and the internal ones below the bit
abbrev pub hop_place_at : List ℕ → ℕ → ℕ → ℕ
hop_place_at ws i b = base_of ws i + ones (bits_of ws i % 2 ^ b)

-- that hop, 0 where the bit is not set
abbrev pub hop_at : List ℕ → List ℕ → ℕ → ℕ → ℕ
hop_at ws hs i b = cond (is_set (bits_of ws i) b) (get_or hs (hop_place_at ws i b) 0) 0

-- the path of the node of a route of length l whose bits are q, and its internal bit there
abbrev pub path_of : ℕ → ℕ → ℕ
path_of l q = q / 2 ^ (l % 4)

abbrev pub bit_for : ℕ → ℕ → ℕ
bit_for l q = inner_bit (l % 4) (q % 2 ^ (l % 4))

-- the hop of the route of length l whose bits are q, 0 where there is none
unfoldable pub read_out : List ℕ → List ℕ → ℕ → ℕ → ℕ
read_out ws hs l q = cond (leb l 32 && leads ws (l / 4) (path_of l q)) (hop_at ws hs (reached ws (l / 4) (path_of l q)) (bit_for l q)) 0
