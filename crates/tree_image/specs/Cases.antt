-- What a lookup in an image can say, whatever the image holds, case by case and each with all that then holds. 13 is said for "bit 15 set, child or
-- hop beyond what is lent, no root, hop outside 1 to 32,767", of what this walk reads. (`refused-number-tree-lookup`)
use Rattle.std.specs.Prelude.{true, false, List, ◌≡◌, ℕ, zero, suc, ◌+◌, ◌-◌, ◌/◌, ◌≤◌, ◌<◌, length, get_or, Option, Some, None}
use Rattle.routes.specs.Said.{Said, refused, hop_after, no_route_after}
use Rattle.tree_image.specs.Node.{bits_of, child_of, is_set, nibble_of, child_at}
use Rattle.tree_image.specs.Walk.{last_match, inner_match}

-- the one hop that is read after n nodes, at the place of the deepest match; where it is answered, the count is one more
pub data Fetched (hs : List ℕ) (n : ℕ) : Option ℕ → Said → Type 0 where
  no_match : Fetched hs n None (no_route_after n)
  beyond : (h : ℕ) → length hs ≤ h → Fetched hs n (Some h) (refused 13)
  bad_hop : (h : ℕ) → h < length hs → (1 ≤ get_or hs h 0 → get_or hs h 0 ≤ 32767 → ⊥) → Fetched hs n (Some h) (refused 13)
  match : (h : ℕ) → h < length hs → 1 ≤ get_or hs h 0 → get_or hs h 0 ≤ 32767 → Fetched hs n (Some h) (hop_after (n + 1) (get_or hs h 0))

-- the walk from node i on, with d levels of nodes below it and the deepest match so far
module _ (ws hs : List ℕ) (a : ℕ) where
  -- the node is lent whole, and its bit 15 is zero
  pub record RightNode (i : ℕ) : Type 0 where
    pub lent : i < length ws / 3
    pub clear : is_set (bits_of ws i) 15 ≡ false

  -- the four bits of the address at this depth, and the node that they lead to
  abbrev down : ℕ → ℕ → ℕ
  down d i = child_at (bits_of ws i) (child_of ws i) (nibble_of a d)

  pub data Walked : ℕ → ℕ → Option ℕ → Said → Type 0 where
    -- no root, or a child that is not lent
    lost : (d i : ℕ) (best : Option ℕ) → length ws / 3 ≤ i → Walked d i best (refused 13)
    marked : (d i : ℕ) (best : Option ℕ) → i < length ws / 3 → is_set (bits_of ws i) 15 ≡ true → Walked d i best (refused 13)
    -- at depth 8, and where no child stands, the hop is read
    deepest : (i : ℕ) (best : Option ℕ) (s : Said) → RightNode i → Fetched hs 9 (last_match ws i best) s → Walked zero i best s
    ends : (d i : ℕ) (best : Option ℕ) (s : Said) → RightNode i → is_set (bits_of ws i) (16 + nibble_of a d) ≡ false → Fetched hs (8 - d)
        (inner_match ws i (nibble_of a d) best) s → Walked (suc d) i best s
    goes_on : (d i : ℕ) (best : Option ℕ) (s : Said) → RightNode i → is_set (bits_of ws i) (16 + nibble_of a d) ≡ true → Walked d (down d i)
        (inner_match ws i (nibble_of a d) best) s → Walked (suc d) i best s

  -- from the root
  abbrev pub TreeLookup : Said → Type 0
  TreeLookup s = Walked 8 0 None s
