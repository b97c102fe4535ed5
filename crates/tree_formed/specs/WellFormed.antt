-- When words and hops are an image that some record input builds, as document 02 has it in m: the bases are those of the fixed order, the
-- nodes are well formed from the root down, the hops in use are hops, and zeros stand after the last used.
use Rattle.std.specs.Prelude.{Bool, true, cond, not, ◌&&◌, ◌||◌, List, ℕ, zero, suc, ◌+◌, ◌*◌, ◌/◌, ◌^◌, eqb, ltb, leb, length, get_or, Option, Some, None}
use Rattle.std.specs.Int.Count.{ones}
use Rattle.bits.specs.Search.{first_of}
use Rattle.bits.specs.Tab.{every}
use Rattle.routes.specs.Input.{hop_fine}
use Rattle.tree_image.specs.Node.{bits_of, child_of, base_of, sound}
use Rattle.tree_same.specs.Order.{exts, ints}

-- ---- the bases are those of the fixed order

-- the first i nodes have all their children among them
abbrev pub closed : List ℕ → ℕ → Bool
closed ws i = leb (1 + exts ws i) i

-- the nodes in use: the fewest that are closed; all that are lent, where none are
unfoldable pub nodes_used : List ℕ → ℕ
nodes_used ws = first_of (closed ws) (length ws / 3)

-- child base: 1 plus all extending ones in earlier nodes; hop base: all internal ones in earlier nodes
abbrev pub bases_at : List ℕ → ℕ → Bool
bases_at ws i = eqb (child_of ws i) (1 + exts ws i) && eqb (base_of ws i) (ints ws i)

unfoldable pub ordered : List ℕ → Bool
ordered ws = closed ws (nodes_used ws) && every (bases_at ws) (nodes_used ws)

-- ---- a node is well formed when its own bitmaps are and its child array is; a child array when each of its nodes is

-- the n numbers from `first` on pass the test
unfoldable pub all_from : (ℕ → Bool) → ℕ → ℕ → Bool
all_from p zero first = true
all_from p (suc n) first = p first && all_from p n (first + 1)

-- a node with `left` levels of nodes below it: bit 15 zero, some bit set, at depth 8 bit 0 alone
unfoldable pub node_ok : ℕ → List ℕ → ℕ → Bool
node_ok zero ws i = sound ws i && eqb (bits_of ws i) 1
node_ok (suc e) ws i = sound ws i && (not (eqb (bits_of ws i) 0) && all_from (node_ok e ws) (ones (bits_of ws i / 2 ^ 16)) (child_of ws i))

abbrev pub children_ok : ℕ → ℕ → List ℕ → ℕ → Bool
children_ok left n ws first = all_from (node_ok left ws) n first

-- the root may be bare
abbrev pub root_ok : List ℕ → Bool
root_ok ws = eqb (bits_of ws 0) 0 || node_ok 8 ws 0

-- ---- the hops, and what stands after the last used

abbrev pub hops_in : List ℕ → ℕ
hops_in ws = ints ws (nodes_used ws)

-- the first n hops are 1 to 32,767 each
abbrev pub hops_fine_to : List ℕ → ℕ → Bool
hops_fine_to hs n = every (λ k. hop_fine (get_or hs k 0)) n

unfoldable pub hops_ok : List ℕ → List ℕ → Bool
hops_ok ws hs = leb (hops_in ws) (length hs) && (leb (hops_in ws) 4096 && hops_fine_to hs (hops_in ws))

-- zeros from place k on
unfoldable pub blank_from : List ℕ → ℕ → Bool
blank_from xs k = every (λ j. ltb j k || eqb (get_or xs j 0) 0) (length xs)

unfoldable pub well_formed : List ℕ → List ℕ → Bool
well_formed ws hs = ordered ws && (root_ok ws && (hops_ok ws hs && (blank_from ws (3 * nodes_used ws) && blank_from hs (hops_in ws))))

-- the nodes of a well-formed image, none for any other content
abbrev pub nodes_where : Bool → List ℕ → Option ℕ
nodes_where b ws = cond b (Some (nodes_used ws)) None

-- the same as a number, 0 for any other content
abbrev pub nodes_if : Bool → List ℕ → ℕ
nodes_if b ws = cond b (nodes_used ws) 0
