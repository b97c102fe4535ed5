-- The place of a node in document 01's order: all nodes of a lesser depth come before it, and then the nodes of its depth whose path
-- is less than its own. The child base and the extending ones below give a child just this place.
use mathlib.Core.Path.{◌≡◌, refl, sym, ◌∙◌, ap, subst}
use mathlib.Core.Logic.{◌⊎◌, inl, inr}
use mathlib.Core.Bool.{Bool, true, true≢false}
use mathlib.Core.List.{List, ◌++◌}
use Prim.Native.Nat.{ℕ, zero, suc, ◌+◌, ◌-◌, ◌*◌, ◌%◌, ◌^◌, ◌≤◌, ◌<◌}
use native.Mathlib.Nat.{not-suc-le-zero, eq-or-lt_of_le}
use native.Mathlib.Omega.{arith}
use lib.Dec.{eqb}
use lib.ListN.{length, get_or, length-append, get_or-append}
use lib.Seq.{get_or-append-add}
use lib.Count.{ones}
use borrow.Author.Tests.{eq-eqb, ne_eqb, eqb-true}
use Rattle.bits.specs.Count.{count}
use Rattle.bits.specs.Search.{first_of}
use Rattle.bits.proofs.Counts.{count-matched}
use Rattle.bits.proofs.Searches.{first_of-is, first_of-at, first_of-before}
use Rattle.bits.proofs.Bools.{below?}
use Rattle.routes.specs.Route.{Good}
use Rattle.routes.specs.declared.Route.{Route}
use Rattle.tree_image.specs.Node.{bits_of, child_of, base_of, child_at}
use Rattle.tree_image.specs.Parts.{before}
use Rattle.tree_image.specs.Image.{Node, node, inner, hops_of, level, up_to, nodes, image_by, image_of, node_stands, hop_for, node_need}
use Rattle.tree_image.specs.Levels.{LevelOf}
use Rattle.tree_image.proofs.Counts.{count-all}
use Rattle.bits.proofs.Packed.{rank-count}
use Rattle.tree_image.proofs.Nodes.{inner-bit}
use Rattle.tree_image.proofs.Holds.{node-words, child-found}
use Rattle.tree_image.proofs.Levels.{level-is}
use Rattle.tree_image.proofs.Needs.{hops-need}
use Rattle.tree_image.proofs.Serves.{agree}

-- a search that some number passes ends at one that passes, no later
pub first_found : (f : ℕ → Bool) (n i : ℕ) → i < n → f i ≡ true → (first_of f n < n) × (f (first_of f n) ≡ true)
first_found f n i l e = go (below? i (first_of f n))
  where
    go : (i < first_of f n) ⊎ (first_of f n ≤ i) → (first_of f n < n) × (f (first_of f n) ≡ true)
    go (inl u) = absurd (true≢false (sym e ∙ first_of-before f n i u))
    go (inr u) = (omega arith, first_of-at f n (omega arith))

-- in its level a node stands after as many as stand for lesser paths
module _ (rs : List Route) (m : ℕ) (ns : List Node) (is : LevelOf rs m ns) (low : 0 < m) (i : ℕ) (l : i < length ns) where
  abbrev path : ℕ → ℕ
  path j = (get_or ns j (node 0 0)).path

  abbrev node_of : ℕ → ℕ
  node_of q = first_of (λ j. eqb (path j) q) (length ns)

  found : (q : ℕ) → node_stands rs m q ≡ true → (node_of q < length ns) × (path (node_of q) ≡ q)
  found q e =
      let a = is.all q e in
      let f = first_found (λ j. eqb (path j) q) (length ns) a.0 a.1 (eq-eqb _ _ (ap (λ (x : Node). x.path) a.2)) in
      (f.0, eqb-true _ _ f.1)

  there : (q : ℕ) → q < path i → node_stands rs m q ≡ true → (node_of q < i) × (true ≡ true) × (path (node_of q) ≡ q)
  there q u e = let f = found q e in (go f (below? (node_of q) i), refl, f.1)
    where
      up : (node_of q < length ns) × (path (node_of q) ≡ q) → (i ≡ node_of q) ⊎ (i < node_of q) → ⊥
      up f (inl w) = omega (arith, f.1, ap path w)
      up f (inr w) = omega (arith, f.1, is.rises i (node_of q) w f.0)

      go : (node_of q < length ns) × (path (node_of q) ≡ q) → (node_of q < i) ⊎ (i ≤ node_of q) → node_of q < i
      go f (inl v) = v
      go f (inr v) = absurd (up f (eq-or-lt_of_le v))

  back : (j : ℕ) → j < i → true ≡ true → (path j < path i) × (node_stands rs m (path j) ≡ true) × (node_of (path j) ≡ j)
  back j u _ = (
    is.rises j i u l,
    is.stand j low (omega arith),
    first_of-is (λ k. eqb (path k) (path j)) (length ns) j (omega arith)
        (λ k v. ne_eqb _ _ (λ (e : path k ≡ path j). omega (arith, is.rises k j v (omega arith)))) (λ v. eq-eqb (path j) (path j) refl),
  )

  pub level-rank : count (node_stands rs m) (path i) ≡ i
  level-rank = count-matched (node_stands rs m) (λ j. true) node_of path (path i) i (record { there = there; back = back }) ∙ count-all (λ j. true) i
      (λ j u. refl)

-- a node of the whole order is one of its level
at_level : (st : ℕ → ℕ → Bool) (k x : ℕ) → x < length (up_to st k)
    → (m : ℕ) × (i : ℕ) × (i < length (level st m)) × (x ≡ length (up_to st m) + i) × (get_or (up_to st k) x (node 0 0) ≡ get_or (level st m) i (node 0 0))
unfolding up_to
at_level st zero x l = absurd (not-suc-le-zero l)
at_level st (suc k) x l = go (below? x (length (up_to st k))) (at_level st k x)
  where
    go : (x < length (up_to st k)) ⊎ (length (up_to st k) ≤ x)
        → (x < length (up_to st k) → (m : ℕ) × (i : ℕ) × (i < length (level st m)) × (x ≡ length (up_to st m) + i) ×
        (get_or (up_to st k) x (node 0 0) ≡ get_or (level st m) i (node 0 0)))
        → (m : ℕ) × (i : ℕ) × (i < length (level st m)) × (x ≡ length (up_to st m) + i) ×
        (get_or (up_to st k ++ level st k) x (node 0 0) ≡ get_or (level st m) i (node 0 0))
    go (inl u) ih = let r = ih u in (r.0, r.1, r.2, r.3, get_or-append (up_to st k) (level st k) (node 0 0) x u ∙ r.4)
    go (inr u) ih =
        let e : x ≡ length (up_to st k) + (x - length (up_to st k)) = omega arith in (
          k,
          x - length (up_to st k),
          omega (arith, length-append (up_to st k) (level st k)),
          e,
          ap (λ (y : ℕ). get_or (up_to st k ++ level st k) y (node 0 0)) e ∙ get_or-append-add (up_to st k) (level st k) (x - length (up_to st k)) (node 0 0),
        )

-- the place of a node below the root
pub node-rank : (rs : List Route) → Good rs → (x m p : ℕ) → 0 < m → x < node_need rs → get_or (nodes (node_stands rs)) x (node 0 0) ≡ node m p
    → x ≡ length (up_to (node_stands rs) m) + count (node_stands rs m) p
node-rank rs g x m p low l e =
    let a = at_level (node_stands rs) 9 x l in
    let is = level-is rs g a.0 in
    let n : get_or (level (node_stands rs) a.0) a.1 (node 0 0) ≡ node m p = sym a.4 ∙ e in
    let d : a.0 ≡ m = sym (is.deep a.1 a.2) ∙ ap (λ (y : Node). y.depth) n in
    let r = level-rank rs a.0 (level (node_stands rs) a.0) is (omega arith) a.1 a.2 in
    let q : count (node_stands rs a.0) p ≡ a.1 = ap (λ (y : Node). count (node_stands rs a.0) y.path) (sym n) ∙ r in
    subst (λ (y : ℕ). x ≡ length (up_to (node_stands rs) y) + count (node_stands rs y) p) d (omega (arith, a.3, q))

-- in the image of a good list with room for it
module _ (rs : List Route) (g : Good rs) (w h : ℕ) (room : 3 * node_need rs ≤ w) (space : length rs ≤ h) (i : ℕ) (n : Node) (l : i < node_need rs)
    (e : get_or (nodes (node_stands rs)) i (node 0 0) ≡ n) where
  abbrev ws : List ℕ
  ws = (image_of rs w h).words

  -- the place of a child, by the words of its parent
  pub child-rank : (c : ℕ) → c < 16 → node_stands rs (n.depth + 1) (n.path * 16 + c) ≡ true
      → child_at (bits_of ws i) (child_of ws i) c ≡ length (up_to (node_stands rs) (n.depth + 1)) + count (node_stands rs (n.depth + 1)) (n.path * 16 + c)
  unfolding image_by
  child-rank c lc o =
      let f = child-found (node_stands rs) (hop_for rs) (agree rs g) w h room (omega (arith, hops-need rs g)) i n c l e lc o in
      node-rank rs g _ (n.depth + 1) (n.path * 16 + c) (omega arith) f.0 f.1

  -- the place of a hop: all hops of earlier nodes, and those of the node's lower bits
  pub hop-rank : (b : ℕ) → b ≤ 15 → base_of ws i + ones (bits_of ws i % 2 ^ b) ≡ before (hops_of (hop_for rs)) (nodes (node_stands rs)) i + count
      (inner (hop_for rs) n) b
  unfolding image_by
  hop-rank b lb =
      let k = node-words (node_stands rs) (hop_for rs) (agree rs g) w h room (omega (arith, hops-need rs g)) i n l e in
      rw (k.0, k.2) (ap (λ (y : ℕ). before (hops_of (hop_for rs)) (nodes (node_stands rs)) i + y)
      (rank-count _ (inner (hop_for rs) n) b (λ x u. inner-bit (node_stands rs) (hop_for rs) n x (omega arith))))
