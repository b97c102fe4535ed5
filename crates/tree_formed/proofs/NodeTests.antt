-- Nodes and their child arrays: of each return of the two tests, why its answer is that of the definition; and that the children of a node in use are
-- in use.
use mathlib.Core.Path.{◌≡◌, refl, ap, ◌∙◌}
use mathlib.Core.Bool.{Bool, true, false, not, ◌&&◌}
use mathlib.Core.List.{List}
use Prim.Native.Nat.{ℕ, zero, suc, ◌+◌, ◌-◌, ◌*◌, ◌/◌, ◌^◌, ◌≤◌, ◌<◌}
use native.Mathlib.Omega.{arith}
use lib.Dec.{eqb}
use lib.Count.{ones}
use lib.ListN.{length}
use borrow.Author.Tests.{lt-ltb, eq-eqb, ne_eqb}
use Rattle.tree_image.specs.Node.{bits_of, child_of, is_set, sound}
use Rattle.tree_formed.specs.WellFormed.{nodes_used, all_from, node_ok, children_ok, root_ok}
use Rattle.tree_formed.specs.Bases.{Siblings}
use Rattle.tree_formed.proofs.Meaning.{ordered-is}
use Rattle.tree_formed.proofs.Held.{exts-next, exts-mono}

-- ---- a child array: its first node, and the others

module _ (p : ℕ → Bool) (n first : ℕ) where
  pub all_none : n ≡ 0 → true ≡ all_from p n first
  unfolding all_from
  all_none z = rw z

  module _ (z : n ≡ 0 → ⊥) where
    all-step : (p first && all_from p (n - 1) (first + 1)) ≡ all_from p n first
    unfolding all_from
    all-step = let q : suc (n - 1) ≡ n = omega arith in ap (λ (x : ℕ). all_from p x first) q

    pub all_more : p first ≡ true → all_from p (n - 1) (first + 1) ≡ all_from p n first
    all_more t = rw t at all-step

    pub all-not : p first ≡ false → false ≡ all_from p n first
    all-not t = rw t at all-step

-- ---- a node

-- nodes in use are lent
pub siblings-lent : (ws : List ℕ) (first n left : ℕ) → Siblings ws first n left → 3 * (first + n) ≤ length ws
siblings-lent ws first n left s = omega (arith, s.inside, (ordered-is ws s.order).lent)

module _ (left : ℕ) (ws : List ℕ) (i : ℕ) (s : Siblings ws i 1 left) where
  here : i < length ws / 3
  here = omega (arith, siblings-lent ws i 1 left s)

  pub node-bad : is_set (bits_of ws i) 15 ≡ true → false ≡ node_ok left ws i
  unfolding node_ok sound
  node-bad t = go left
    where
      go : (l : ℕ) → false ≡ node_ok l ws i
      go zero = rw (lt-ltb i (length ws / 3) here, t)
      go (suc e) = rw (lt-ltb i (length ws / 3) here, t)

  module _ (f : is_set (bits_of ws i) 15 ≡ false) where
    fine : sound ws i ≡ true
    unfolding sound
    fine = rw (lt-ltb i (length ws / 3) here, f)

    pub node-last : left ≡ 0 → eqb (bits_of ws i) 1 ≡ node_ok left ws i
    unfolding node_ok
    node-last z = rw (z, fine)

    module _ (z : left ≡ 0 → ⊥) where
      node-step : (not (eqb (bits_of ws i) 0) && children_ok (left - 1) (ones (bits_of ws i / 2 ^ 16)) ws (child_of ws i)) ≡ node_ok left ws i
      unfolding node_ok
      node-step =
          let q : suc (left - 1) ≡ left = omega arith in
          let k : (not (eqb (bits_of ws i) 0) && children_ok (left - 1) (ones (bits_of ws i / 2 ^ 16)) ws (child_of ws i)) ≡ node_ok (suc (left - 1)) ws i =
          rw fine refl in
          k ∙ ap (λ (x : ℕ). node_ok x ws i) q

      pub node-bare : bits_of ws i ≡ 0 → false ≡ node_ok left ws i
      node-bare e = rw (eq-eqb (bits_of ws i) 0 e) at node-step

      pub node-inner : (bits_of ws i ≡ 0 → ⊥) → (first n : ℕ) → first ≡ child_of ws i → n ≡ ones (bits_of ws i / 2 ^ 16)
          → children_ok (left - 1) n ws first ≡ node_ok left ws i
      node-inner n first k a b = rw (a, b) (rw (ne_eqb (bits_of ws i) 0 n) at node-step)

      -- in the fixed order the children of a node in use come before the last node
      pub children-in : (first n : ℕ) → first ≡ child_of ws i → n ≡ ones (bits_of ws i / 2 ^ 16) → Siblings ws first n (left - 1)
      children-in first n a b =
          let o = ordered-is ws s.order in
          record {
            order = s.order;
            inside = omega (
              arith,
              a,
              b,
              o.child i (omega (arith, s.inside)),
              exts-next ws i,
              exts-mono ws (suc i) (nodes_used ws) (omega (arith, s.inside)),
              o.whole,
            );
            few = s.few;
            deep = omega (arith, s.deep);
          }

module _ (ws : List ℕ) (first n left : ℕ) (s : Siblings ws first n left) (z : n ≡ 0 → ⊥) where
  pub siblings-first : Siblings ws first 1 left
  siblings-first = record { order = s.order; inside = omega (arith, s.inside); few = s.few; deep = s.deep }

  pub siblings-rest : Siblings ws (first + 1) (n - 1) left
  siblings-rest = record { order = s.order; inside = omega (arith, s.inside); few = s.few; deep = s.deep }

-- ---- the root may be bare

pub root-bare : (ws : List ℕ) → bits_of ws 0 ≡ 0 → true ≡ root_ok ws
root-bare ws e = rw (eq-eqb (bits_of ws 0) 0 e)

pub root-node : (ws : List ℕ) → (bits_of ws 0 ≡ 0 → ⊥) → node_ok 8 ws 0 ≡ root_ok ws
root-node ws f = rw (ne_eqb (bits_of ws 0) 0 f) refl
