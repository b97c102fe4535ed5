-- An answer depends on the bits that its count stands for, whatever the table or the image holds: two addresses that agree on them get the same
-- answer. The cells (or nodes) on the way of both are the same, one after the other, since each is found by bits on which they agree; a walk that
-- ends sooner looks at fewer.
use Rattle.std.specs.Prelude.{Option}
use mathlib.Core.Path.{◌≡◌, refl, sym, ap, ◌∙◌, subst}
use mathlib.Core.Bool.{Bool, true, false, cond}
use mathlib.Core.List.{List, ◌∷◌}
use Prim.Native.Nat.{ℕ, ◌+◌, ◌-◌, ◌*◌, ◌/◌, ◌%◌, ◌^◌, ◌≤◌}
use native.Mathlib.Omega.{arith}
use lib.Dec.{eqb}
use lib.Pow.{shr-shr}
use Rattle.bits.specs.Slot.{slot}
use Rattle.routes.specs.Said.{Said, accepted, refused, hop_after, no_route_after}
use Rattle.sail.specs.Cases.{v1, v2, v3, Lookup}
use Rattle.sail.specs.Geometry.{standard_geo}
use Rattle.sail.specs.Lent.{Lent}
use Rattle.sail.specs.Level.{whole}
use Rattle.sail.specs.Sizes.{Sized}
use Rattle.sail.specs.Walk.{leaf_said, lookup_said}
use Rattle.sail.specs.declared.geometry.Geometry.{Geometry}
use Rattle.sail.specs.declared.table.Table.{Table}
use Rattle.sail.proofs.Judged.{lookup-judged, lookup-only}
use Rattle.standing.specs.Served.{hop_said}
use Rattle.tree_image.specs.Cases.{Fetched, RightNode, Walked}
use Rattle.tree_image.specs.Node.{nibble_of}
use Rattle.tree_image.specs.Walk.{tree_said}
use Rattle.tree_image.proofs.Judged.{tree-judged, tree-only}
use Rattle.demands.specs.LookedAt.{InCells, AfterNodes, cell_bits, node_bits}

-- the numbers, in the standard geometry and in an image
pub cell-bits : (cell_bits standard_geo 1 ≡ 16) × (cell_bits standard_geo 2 ≡ 24) × (cell_bits standard_geo 3 ≡ 32)
unfolding cell_bits
cell-bits = (refl, refl, refl)

pub node-bits : (node_bits 1 ≡ 4) × (node_bits 7 ≡ 28) × (node_bits 8 ≡ 32) × (node_bits 9 ≡ 32)
unfolding node_bits
node-bits = (refl, refl, refl, refl)

-- addresses that agree on their first m bits agree on fewer
fewer : (m k a b : ℕ) → slot m a ≡ slot m b → 32 - m ≤ k → a / 2 ^ k ≡ b / 2 ^ k
fewer m k a b e l =
    let q : 32 - m + (k - (32 - m)) ≡ k = omega arith in
    let by : (x : ℕ) → x / 2 ^ k ≡ x / 2 ^ (32 - m) / 2 ^ (k - (32 - m)) =
    λ x. ap (λ (n : ℕ). x / 2 ^ n) (sym q) ∙ sym (shr-shr x (32 - m) (k - (32 - m))) in
    by a ∙ ap (λ (x : ℕ). x / 2 ^ (k - (32 - m))) e ∙ sym (by b)

-- Tables.

-- a refusal is not accepted, and a leaf after k cells says k
not-refused : {k n : ℕ} → InCells (refused k) n → ⊥
not-refused c = let q = c.said in let z : ◌≡◌ {A = ℕ} 0 1 = cc in omega arith

leaf-cells : (k v n : ℕ) → InCells (leaf_said k v) n → n ≡ k
unfolding hop_said
leaf-cells k v n c = go (eqb (v - 32768) 0) c.said
  where
    go : (t : Bool) → cond t (no_route_after k) (hop_after k (v - 32768)) ≡ accepted (n ∷ c.values) → n ≡ k
    go true e = cc
    go false e = cc

module _ (t : Table) (l : Lent) (a b : ℕ) where
  abbrev g : Geometry
  g = t.geometry

  same_first : slot g.p1 a ≡ slot g.p1 b → v1 t l a ≡ v1 t l b
  same_first e = ap (whole l).first e

  module _ (z : Sized g l) (e : slot g.p2 a ≡ slot g.p2 b) where
    same_above : v1 t l a ≡ v1 t l b
    same_above = same_first (fewer g.p2 (32 - g.p1) a b e (omega (arith, z.valid.p1_high, z.valid.p2_low)))

    same_second : v2 t l a ≡ v2 t l b
    same_second = rw (same_above, e)

  in_cells : (n : ℕ) {x : Said} → Lookup t l a x → InCells x n → slot (cell_bits g n) a ≡ slot (cell_bits g n) b → Lookup t l b x
  unfolding cell_bits
  in_cells n (Lookup.sizing k s) c e = absurd (not-refused c)
  in_cells n (Lookup.first_stray z s) c e = absurd (not-refused c)
  in_cells n (Lookup.second_stray z k s) c e = absurd (not-refused c)
  in_cells n (Lookup.third_no_leaf z k j s) c e = absurd (not-refused c)
  in_cells n (Lookup.first_leaf z h) c e =
      let w : slot g.p1 a ≡ slot g.p1 b = rw (leaf-cells 1 _ n c) at e in
      let q = same_first w in
      rw q (Lookup.first_leaf z (rw q at h))
  in_cells n (Lookup.second_leaf z k h) c e =
      let w : slot g.p2 a ≡ slot g.p2 b = rw (leaf-cells 2 _ n c) at e in
      let q = same_above z w in
      let r = same_second z w in
      rw r (Lookup.second_leaf z (rw q at k) (rw r at h))
  in_cells n (Lookup.third_is_leaf z k j h) c e =
      let w : slot 32 a ≡ slot 32 b = rw (leaf-cells 3 _ n c) at e in
      let q : a ≡ b = omega arith in
      subst (λ (x : ℕ). Lookup t l x (leaf_said 3 (v3 t l a))) q (Lookup.third_is_leaf z k j h)

  -- an accepted lookup in 1, 2 or 3 cells depends on the first p1, p2 or 32 bits of the address alone
  pub lookup-reads : (n : ℕ) → InCells (lookup_said t l a) n → slot (cell_bits g n) a ≡ slot (cell_bits g n) b → lookup_said t l b ≡ lookup_said t l a
  lookup-reads n c e = lookup-only t l b _ (in_cells n (lookup-judged t l a) c e)

-- Images.
module _ (hs : List ℕ) where
  -- the hop is read after as many nodes as the answer says
  fetched-nodes : (m n : ℕ) {p : Option ℕ} {s : Said} → Fetched hs m p s → AfterNodes s n → n ≡ m
  fetched-nodes m n Fetched.no_match (AfterNodes.no_route e) = cc
  fetched-nodes m n Fetched.no_match (AfterNodes.hop h e) = let z : ◌≡◌ {A = ℕ} 0 1 = cc in absurd (omega arith)
  fetched-nodes m n (Fetched.beyond h l) (AfterNodes.no_route e) = let z : ◌≡◌ {A = ℕ} 0 1 = cc in absurd (omega arith)
  fetched-nodes m n (Fetched.beyond h l) (AfterNodes.hop k e) = let z : ◌≡◌ {A = ℕ} 0 1 = cc in absurd (omega arith)
  fetched-nodes m n (Fetched.bad_hop h l b) (AfterNodes.no_route e) = let z : ◌≡◌ {A = ℕ} 0 1 = cc in absurd (omega arith)
  fetched-nodes m n (Fetched.bad_hop h l b) (AfterNodes.hop k e) = let z : ◌≡◌ {A = ℕ} 0 1 = cc in absurd (omega arith)
  fetched-nodes m n (Fetched.match h l x y) (AfterNodes.no_route e) = let z : ◌≡◌ {A = ℕ} 0 1 = cc in absurd (omega arith)
  fetched-nodes m n (Fetched.match h l x y) (AfterNodes.hop k e) = let q : m + 1 ≡ n + 1 = cc in omega arith

module _ (ws hs : List ℕ) (a b n : ℕ) where
  not-broken : AfterNodes (refused 13) n → ⊥
  not-broken (AfterNodes.no_route e) = let z : ◌≡◌ {A = ℕ} 0 1 = cc in omega arith
  not-broken (AfterNodes.hop h e) = let z : ◌≡◌ {A = ℕ} 0 1 = cc in omega arith

  -- a walk with d levels of nodes below it ends after 9 - d nodes or more
  nodes-at-least : {d i : ℕ} {best : Option ℕ} {s : Said} → Walked ws hs a d i best s → AfterNodes s n → 9 - d ≤ n
  nodes-at-least (Walked.lost d i best l) c = absurd (not-broken c)
  nodes-at-least (Walked.marked d i best l m) c = absurd (not-broken c)
  nodes-at-least (Walked.deepest i best s r f) c = omega (arith, fetched-nodes hs 9 n f c)
  nodes-at-least (Walked.ends d i best s r e f) c = omega (arith, fetched-nodes hs (8 - d) n f c)
  nodes-at-least (Walked.goes_on d i best s r e w) c = omega (arith, nodes-at-least w c)

  -- the bits that n nodes look at go at least as far as the nibble of a node that is read
  far-enough : (d : ℕ) → 8 - d ≤ n → 32 - node_bits n ≤ 4 * d
  unfolding node_bits
  far-enough d l = omega arith

  module _ (e : slot (node_bits n) a ≡ slot (node_bits n) b) where
    same-nibble : (d : ℕ) → 8 - d ≤ n → nibble_of a d ≡ nibble_of b d
    same-nibble d l = ap (λ (x : ℕ). x % 16) (fewer (node_bits n) (4 * d) a b e (far-enough d l))

    right : {i : ℕ} → RightNode ws hs a i → RightNode ws hs b i
    right r = record { lent = r.lent; clear = r.clear }

    same-walk : {d i : ℕ} {best : Option ℕ} {s : Said} → Walked ws hs a d i best s → AfterNodes s n → Walked ws hs b d i best s
    same-walk (Walked.lost d i best l) c = Walked.lost d i best l
    same-walk (Walked.marked d i best l m) c = Walked.marked d i best l m
    same-walk (Walked.deepest i best s r f) c = Walked.deepest i best s (right r) f
    same-walk (Walked.ends d i best s r k f) c =
        let q = same-nibble d (omega (arith, fetched-nodes hs (8 - d) n f c)) in
        Walked.ends d i best s (right r) (rw q at k) (rw q at f)
    same-walk (Walked.goes_on d i best s r k w) c =
        let q = same-nibble d (omega (arith, nodes-at-least w c)) in
        let v = same-walk w c in
        Walked.goes_on d i best s (right r) (rw q at k) (rw q at v)

    tree-same : AfterNodes (tree_said ws hs a) n → tree_said ws hs b ≡ tree_said ws hs a
    tree-same c = tree-only ws hs b _ (same-walk (tree-judged ws hs a) c)

  -- an answer after n nodes depends on the first 4 n bits of the address alone, or on all 32
  pub tree-reads : AfterNodes (tree_said ws hs a) n → slot (node_bits n) a ≡ slot (node_bits n) b → tree_said ws hs b ≡ tree_said ws hs a
  tree-reads c e = tree-same e c
