-- The count of a lookup: at least 1, at most 10, and at most 9 where no route is answered. Of every image, whatever it holds, since a walk reads
-- one node for each depth and no more; and of the routes, since at most eight nodes stand below the root on the path of an address.
use Rattle.std.specs.Prelude.{Option, Some, None}
use mathlib.Core.Path.{◌≡◌, refl, sym, ◌∙◌}
use mathlib.Core.Logic.{◌⊎◌, inl, inr}
use mathlib.Core.Bool.{Bool, true, false, cond, ◌&&◌, true≢false}
use mathlib.Core.List.{List, Memᴰ}
use Prim.Native.Nat.{ℕ, zero, suc, ◌+◌, ◌-◌, ◌*◌, ◌≤◌, ◌<◌}
use native.Mathlib.Omega.{arith}
use lib.Dec.{eqb, ltb}
use lib.ListN.{length, get_or}
use borrow.Author.Tests.{le-leb, eq-eqb, ne_eqb}
use Rattle.bits.specs.Slot.{slot}
use Rattle.bits.specs.Count.{count}
use Rattle.bits.proofs.Counts.{count-into}
use Rattle.bits.proofs.Bools.{decided, and_split, both}
use Rattle.routes.specs.Said.{refused}
use Rattle.routes.specs.Input.{hop_fine}
use Rattle.routes.specs.Route.{Good}
use Rattle.routes.specs.declared.Route.{Route}
use Rattle.routes.proofs.Meaning.{hop-true}
use Rattle.standing.specs.Cells.{covers, best}
use Rattle.standing.proofs.Only.{none-covers, covers-none}
use Rattle.tree_image.specs.Node.{bits_of, child_of, is_set, sound, nibble_of, child_at}
use Rattle.tree_image.specs.Reads.{tree_reads, TreeAnswer, a_hop, no_route, broken}
use Rattle.tree_image.specs.Walk.{tree_hop_said, fetched_from, last_match, inner_match, walk_from, tree_said}
use Rattle.tree_image.specs.Image.{node_stands, on_path, through}
use Rattle.tree_image.proofs.Counts.{count-all}
use Rattle.tree_image.proofs.Lies.{any-mem, pass-make}

-- ---- every image

module _ (ws hs : List ℕ) (a : ℕ) where
  -- one hop after n nodes
  fetched-answer : (n : ℕ) (p : Option ℕ) → 1 ≤ n → n ≤ 9 → TreeAnswer (fetched_from hs n p)
  unfolding fetched_from tree_hop_said
  fetched-answer n None l u = no_route n l u
  fetched-answer n (Some h) l u = go (decided (ltb h (length hs) && hop_fine (get_or hs h 0)))
    where
      go : ((ltb h (length hs) && hop_fine (get_or hs h 0)) ≡ true) ⊎ ((ltb h (length hs) && hop_fine (get_or hs h 0)) ≡ false) → TreeAnswer (fetched_from hs n (Some h))
      go (inr e) = rw e broken
      go (inl e) =
          let k = hop-true (get_or hs h 0) (and_split (ltb h (length hs)) (hop_fine (get_or hs h 0)) e).1 in
          rw (e, ne_eqb (get_or hs h 0) 0 (λ z. omega (arith, k.0))) (a_hop (n + 1) (get_or hs h 0) (omega arith) (omega arith) k.0 k.1)

  -- with d levels below, 8 - d nodes were read before
  walk-answer : (d i : ℕ) (p : Option ℕ) → d ≤ 8 → TreeAnswer (walk_from d ws hs a i p)
  unfolding walk_from
  walk-answer zero i p l = go (sound ws i)
    where
      go : (b : Bool) → TreeAnswer (cond b (fetched_from hs 9 (last_match ws i p)) (refused 13))
      go true = fetched-answer 9 (last_match ws i p) (omega arith) (omega arith)
      go false = broken
  walk-answer (suc d) i p l = go (sound ws i) (is_set (bits_of ws i) (16 + nibble_of a d)) (walk-answer d next q (omega arith))
    where
      next : ℕ
      next = child_at (bits_of ws i) (child_of ws i) (nibble_of a d)

      q : Option ℕ
      q = inner_match ws i (nibble_of a d) p

      go : (b c : Bool) → TreeAnswer (walk_from d ws hs a next q)
          → TreeAnswer (cond b (cond c (walk_from d ws hs a next q) (fetched_from hs (8 - d) q)) (refused 13))
      go true true ih = ih
      go true false ih = fetched-answer (8 - d) q (omega arith) (omega arith)
      go false c ih = broken

  pub tree-answers : TreeAnswer (tree_said ws hs a)
  unfolding tree_said
  tree-answers = walk-answer 8 0 None (omega arith)

-- ---- the count by the routes

module _ (rs : List Route) (a : ℕ) where
  abbrev stands : ℕ → Bool
  stands m = node_stands rs (m + 1) (slot (4 * (m + 1)) a)

  path-few : (1 ≤ on_path rs a) × (on_path rs a ≤ 9)
  path-few =
      let most = count-into stands (λ m. true) (λ m. m) 8 8 (record { lands = λ m l e. l; passes = λ m l e. refl; apart = λ x y l u e f q. q }) in
      (omega arith, omega (arith, most, count-all (λ m. true) 8 (λ m l. refl)))

  pub tree-reads-few : (1 ≤ tree_reads rs a) × (tree_reads rs a ≤ 10)
  tree-reads-few = go (eqb (best rs 32 a) 0)
    where
      go : (b : Bool) → (1 ≤ cond b (on_path rs a) (on_path rs a + 1)) × (cond b (on_path rs a) (on_path rs a + 1) ≤ 10)
      go true = (path-few.0, omega (arith, path-few.1))
      go false = (omega arith, omega (arith, path-few.1))

  module _ (g : Good rs) where
    -- no route covers the address: the nodes alone
    pub tree-reads-none : ((r : Route) → Memᴰ r rs → covers 32 a r ≡ false) → (tree_reads rs a ≡ on_path rs a) × (tree_reads rs a ≤ 9)
    tree-reads-none n = rw (covers-none rs g 32 a n) (refl, path-few.1)

    -- some route covers it: one more
    pub tree-reads-hop : (r : Route) → Memᴰ r rs → covers 32 a r ≡ true → tree_reads rs a ≡ on_path rs a + 1
    tree-reads-hop r m e = rw (ne_eqb (best rs 32 a) 0 (λ z. true≢false (sym e ∙ none-covers rs g 32 a z r m)))

-- The largest count: that of an address which has a route of its own, of 32 bits. All nodes stand on its path.
pub tree-reads-most : (rs : List Route) → Good rs → (r : Route) → Memᴰ r rs → r.len ≡ 32 → tree_reads rs r.addr ≡ 10
tree-reads-most rs g r m e = omega (arith, tree-reads-hop rs r.addr g r m own, all)
  where
    own : covers 32 r.addr r ≡ true
    own = both (le-leb r.len 32 (omega arith)) (eq-eqb (slot r.len r.addr) (slot r.len r.addr) refl)

    stood : (k : ℕ) → k < 8 → node_stands rs (k + 1) (slot (4 * (k + 1)) r.addr) ≡ true
    stood k l = any-mem (through (k + 1) (slot (4 * (k + 1)) r.addr)) rs r m (pass-make (k + 1) _ r (omega arith) refl)

    all : count (stands rs r.addr) 8 ≡ 8
    all = count-all (stands rs r.addr) 8 stood
