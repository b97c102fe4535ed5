-- The nodes are counted right: each node below the root is fresh at one record, the first of its run.
use mathlib.Core.Path.{◌≡◌, refl, sym, ◌∙◌, ap, ap₂, subst}
use mathlib.Core.Logic.{◌⊎◌, inl, inr}
use mathlib.Core.Bool.{true, false, not, cond, true≢false}
use mathlib.Core.List.{List}
use Prim.Native.Nat.{ℕ, zero, suc, ◌+◌, ◌-◌, ◌*◌, ◌/◌, ◌<◌}
use native.Mathlib.Nat.{eq-or-lt_of_le}
use native.Mathlib.Omega.{arith}
use lib.Dec.{leb, eqb}
use lib.ListN.{length, get_or, length-append}
use borrow.Author.Tests.{le-leb, leb-true, eq-eqb, ne_eqb, eqb-true, not-true}
use Rattle.bits.specs.Count.{count}
use Rattle.bits.specs.Search.{first_of}
use Rattle.bits.proofs.Counts.{count-matched}
use Rattle.bits.proofs.Searches.{first_of-is, first_of-before}
use Rattle.bits.proofs.Bools.{both, and_split, equal?, untrue}
use Rattle.routes.specs.Record.{record_at, Records, routes_in}
use Rattle.tree_image.specs.Image.{Node, node, level, up_to}
use Rattle.tree_image.specs.Levels.{LevelOf}
use Rattle.tree_image.proofs.Counts.{count-all}
use Rattle.tree_image.proofs.Levels.{level-is}
use Rattle.tree_image.proofs.Lies.{pass-parts, pass-make}
use Rattle.tree_image.proofs.Ranks.{first_found}
use Rattle.tree_node.specs.NodeRuns.{stands_in, path_at, through_at}
use Rattle.tree_node.specs.Count.{fresh_at, nodes_to}
use Rattle.tree_node.proofs.NodeRuns.{good-list, stands_at, stands_by, convex}

module _ (s : List ℕ) (good : Records s (length s / 8)) (d : ℕ) where
  abbrev m : ℕ
  m = suc d

  abbrev n : ℕ
  n = length s / 8

  abbrev ns : List Node
  ns = level (stands_in s) m

  abbrev path : ℕ → ℕ
  path j = (get_or ns j (node 0 0)).path

  is : LevelOf (routes_in s) m ns
  is = level-is (routes_in s) (good-list s good) m

  -- the node of a record, and the first record of a node
  abbrev node_of : ℕ → ℕ
  node_of k = first_of (λ j. eqb (path j) (path_at s m k)) (length ns)

  abbrev first_in : ℕ → ℕ
  first_in j = first_of (through_at s m (path j)) n

  fresh-parts : (k : ℕ) → fresh_at s m k ≡ true → (through_at s m (path_at s m k) k ≡ true) × (0 < k → through_at s m (path_at s m k) (k - 1) ≡ false)
  unfolding fresh_at
  fresh-parts k e =
      let p = and_split (leb (4 * m) (record_at s k).len) _ e in (
        pass-make m (path_at s m k) (record_at s k) (leb-true _ _ p.0) refl,
        (λ l. not-true _ (rw (ne_eqb k 0 (λ (z : k ≡ 0). omega arith)) at p.1)),
      )

  fresh-make : (k : ℕ) → through_at s m (path_at s m k) k ≡ true → (0 < k → through_at s m (path_at s m k) (k - 1) ≡ false) → fresh_at s m k ≡ true
  unfolding fresh_at
  fresh-make k t h = both (le-leb (4 * m) (record_at s k).len (pass-parts m (path_at s m k) (record_at s k) t).0) (go (equal? k 0))
    where
      go : (k ≡ 0) ⊎ (k ≡ 0 → ⊥) → cond (eqb k 0) true (not (through_at s m (path_at s m k) (k - 1))) ≡ true
      go (inl z) = rw (eq-eqb k 0 z)
      go (inr z) = rw (ne_eqb k 0 z, h (omega arith))

  -- a fresh record is the first that passes through its node
  no-earlier : (k j : ℕ) → k < n → fresh_at s m k ≡ true → j < k → through_at s m (path_at s m k) j ≡ false
  no-earlier k j l e u =
      let f = fresh-parts k e in
      untrue _ (λ t. true≢false (sym (before t (eq-or-lt_of_le {n = j} {m = k - 1} (omega arith))) ∙ f.1 (omega arith)))
    where
      before : through_at s m (path_at s m k) j ≡ true → (j ≡ k - 1) ⊎ (j < k - 1) → through_at s m (path_at s m k) (k - 1) ≡ true
      before t (inl q) = subst (λ (x : ℕ). through_at s m (path_at s m k) x ≡ true) q t
      before t (inr v) = convex s good m (path_at s m k) j (k - 1) k v (omega arith) l t (fresh-parts k e).0

  there : (k : ℕ) → k < n → fresh_at s m k ≡ true → (node_of k < length ns) × (true ≡ true) × (first_in (node_of k) ≡ k)
  there k l e =
      let f = fresh-parts k e in
      let a = is.all (path_at s m k) (stands_at s good m (path_at s m k) k l f.0) in
      let p = first_found (λ j. eqb (path j) (path_at s m k)) (length ns) a.0 a.1 (eq-eqb _ _ (ap (λ (x : Node). x.path) a.2)) in
      let q : path (node_of k) ≡ path_at s m k = eqb-true _ _ p.1 in (
        p.0,
        refl,
        ap (λ (x : ℕ). first_of (through_at s m x) n) q ∙ first_of-is (through_at s m (path_at s m k)) n k (omega arith) (λ j u. no-earlier k j l e u) (λ u. f.0),
      )

  back : (j : ℕ) → j < length ns → true ≡ true → (first_in j < n) × (fresh_at s m (first_in j) ≡ true) × (node_of (first_in j) ≡ j)
  back j l _ =
      let b = stands_by s good m (path j) (is.stand j (omega arith) l) in
      let p = first_found (through_at s m (path j)) n b.0 b.1 b.2 in
      let q : path_at s m (first_in j) ≡ path j = (pass-parts m (path j) (record_at s (first_in j)) p.1).1 in (
        p.0,
        fresh-make (first_in j) (subst (λ (x : ℕ). through_at s m x (first_in j) ≡ true) (sym q) p.1)
            (λ u. subst (λ (x : ℕ). through_at s m x (first_in j - 1) ≡ false) (sym q) (first_of-before (through_at s m (path j)) n (first_in j - 1) (omega arith))),
        first_of-is (λ i. eqb (path i) (path_at s m (first_in j))) (length ns) j (omega arith)
            (λ i u. ne_eqb _ _ (λ (e : path i ≡ path_at s m (first_in j)). omega (arith, is.rises i j u l, q))) (λ u. eq-eqb _ _ (sym q)),
      )

  pub level-size : count (fresh_at s m) n ≡ length ns
  level-size =
      count-matched (fresh_at s m) (λ j. true) node_of first_in n (length ns) (record { there = there; back = back })
      ∙ count-all (λ j. true) (length ns) (λ j l. refl)

pub nodes-counted : (s : List ℕ) → Records s (length s / 8) → (m : ℕ) → nodes_to s (length s / 8) m ≡ length (up_to (stands_in s) (suc m))
unfolding nodes_to up_to level
nodes-counted s good zero = refl
nodes-counted s good (suc m) =
    ap₂ (λ (x y : ℕ). x + y) (nodes-counted s good m) (level-size s good m) ∙ sym (length-append (up_to (stands_in s) (suc m)) (level (stands_in s) (suc m)))
