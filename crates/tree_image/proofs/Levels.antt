-- The nodes of a level are the paths that stand, each once, ascending: the image in document 01's words.
use mathlib.Core.Path.{◌≡◌, refl, sym, ◌∙◌, ap, ap₂, subst}
use mathlib.Core.Logic.{◌⊎◌, inl, inr}
use mathlib.Core.Bool.{Bool, true, false}
use mathlib.Core.List.{List}
use Prim.Native.Nat.{ℕ, zero, suc, ◌+◌, ◌*◌, ◌/◌, ◌%◌, ◌<◌}
use native.Mathlib.Numerals.{add-one}
use native.Mathlib.Omega.{arith}
use lib.Dec.{ltb}
use lib.ListN.{length, get_or}
use borrow.Author.Tests.{ltb-true, ltb-false}
use Rattle.bits.specs.Count.{count}
use Rattle.bits.proofs.Bools.{decided}
use Rattle.tree_image.specs.Parts.{gather, before}
use Rattle.routes.specs.Route.{Good}
use Rattle.routes.specs.declared.Route.{Route}
use Rattle.routes.proofs.Goods.{good-fine}
use Rattle.tree_image.specs.Levels.{LevelOf}
use Rattle.tree_image.specs.Image.{Node, node, child, kids, level, through, node_stands}
use Rattle.tree_image.proofs.Counts.{count_less, count-hit, count-order}
use Rattle.tree_image.proofs.Parts.{picked-length, picked-at, gather-at, gather-split, before-next, before-mono}
use Rattle.tree_image.proofs.Nodes.{level-deep, deep-at}
use Rattle.tree_image.proofs.Lies.{any-is, any-mem, pass-parts, up-pass}

module _ (st : ℕ → ℕ → Bool) where
  abbrev on : ℕ → ℕ → Node
  on m i = get_or (level st m) i (node 0 0)

  -- where a node of the next level comes from
  record From (m j : ℕ) : Type 0 where
    parent : ℕ
    nibble : ℕ
    there : parent < length (level st m)
    small : nibble < 16
    stood : st (suc m) ((on m parent).path * 16 + nibble) ≡ true
    inside : count (child st (on m parent)) nibble < length (kids st (on m parent))
    path : (on (suc m) j).path ≡ (on m parent).path * 16 + nibble
    place : before (kids st) (level st m) parent + count (child st (on m parent)) nibble ≡ j

  from : (m j : ℕ) → j < length (level st (suc m)) → From m j
  unfolding level kids
  from m j h =
      let g = gather-split (kids st) (level st m) (node 0 0) j h in
      let n = on m g.0 in
      let k = count-hit (child st n) 16 g.1 (rw picked-length at g.3) in
      let e : n.depth + 1 ≡ suc m = omega (arith, deep-at m (level st m) g.0 (node 0 0) (level-deep st m) g.2) in
      let at = gather-at (kids st) (level st m) g.0 g.1 (node 0 0) (node 0 0) g.2 g.3 in
      record {
        parent = g.0;
        nibble = k.0;
        there = g.2;
        small = k.1;
        stood = subst (λ (x : ℕ). st x (n.path * 16 + k.0) ≡ true) e k.2;
        inside = omega (arith, k.3, g.3);
        path =
            ap (λ (x : Node). x.path)
            (ap (λ (i : ℕ). get_or (gather (kids st) (level st m)) i (node 0 0)) (sym g.4) ∙ at.1
            ∙ ap (λ (i : ℕ). get_or (kids st n) i (node 0 0)) (sym k.3)
            ∙ picked-at (child st n) (λ c. node (n.depth + 1) (n.path * 16 + c)) 16 k.0 (node 0 0) k.1 k.2);
        place = omega (arith, k.3, g.4);
      }

  -- only what stands
  pub level-stands : (m j : ℕ) → j < length (level st (suc m)) → st (suc m) (on (suc m) j).path ≡ true
  level-stands m j h = let f = from m j h in rw f.path f.stood

  one-root : length (level st 0) ≡ 1
  unfolding level
  one-root = refl

  -- ascending, so each once
  pub level-rises : (m i j : ℕ) → i < j → j < length (level st m) → (on m i).path < (on m j).path
  level-rises zero i j a b = absurd (omega (arith, one-root))
  level-rises (suc m) i j a b = go (from m i (omega arith)) (from m j b) (λ x y l u. level-rises m x y l u)
    where
      go : (x : From m i) (y : From m j) → ((i j : ℕ) → i < j → j < length (level st m) → (on m i).path < (on m j).path) → (on (suc m) i).path < (on (suc m) j).path
      go x y ih = rw (x.path, y.path) (order (decided (ltb x.parent y.parent)) (decided (ltb y.parent x.parent)))
        where
          order : (ltb x.parent y.parent ≡ true) ⊎ (ltb x.parent y.parent ≡ false) → (ltb y.parent x.parent ≡ true) ⊎
              (ltb y.parent x.parent ≡ false)
              → (on m x.parent).path * 16 + x.nibble < (on m y.parent).path * 16 + y.nibble
          order (inl t) o = omega (arith, ih x.parent y.parent (ltb-true _ _ t) y.there, x.small)
          order (inr t) (inl o) =
              let l = ltb-true y.parent x.parent o in
              absurd (omega (
                arith,
                x.place,
                y.place,
                y.inside,
                before-next (kids st) (level st m) y.parent (node 0 0) y.there,
                before-mono (kids st) (level st m) (y.parent + 1) x.parent (omega arith),
              ))
          order (inr t) (inr o) =
              let e : x.parent ≡ y.parent = omega (arith, ltb-false x.parent y.parent t, ltb-false y.parent x.parent o) in
              let z : before (kids st) (level st m) y.parent + count (child st (on m y.parent)) x.nibble ≡ i =
              subst (λ (n : ℕ). before (kids st) (level st m) n + count (child st (on m n)) x.nibble ≡ i) e x.place in
              let c : x.nibble < y.nibble = count-order (child st (on m y.parent)) x.nibble y.nibble (omega (arith, y.place)) in
              omega (arith, ap (λ (n : ℕ). (on m n).path) e)

  -- all that stands
  pub level_all : ((p : ℕ) → st 0 p ≡ true → p ≡ 0) → ((m p c : ℕ) → c < 16 → st (suc m) (p * 16 + c) ≡ true → st m p ≡ true)
      → (m p : ℕ) → st m p ≡ true → (i : ℕ) × (i < length (level st m)) × (on m i ≡ node m p)
  unfolding level kids
  level_all root up zero p e = (0, omega arith, ap (node 0) (sym (root p e)))
  level_all root up (suc m) p e =
      let q : p ≡ p / 16 * 16 + p % 16 = omega arith in
      let t : st (suc m) (p / 16 * 16 + p % 16) ≡ true = rw q at e in
      let w = level_all root up m (p / 16) (up m (p / 16) (p % 16) (omega arith) t) in
      let n = node m (p / 16) in
      let s : m + 1 ≡ suc m = add-one m in
      let o : child st n (p % 16) ≡ true = rw s t in
      let less : count (child st n) (p % 16) < length (kids st (on m w.0)) =
      rw w.2 (rw (picked-length (child st n) (λ c. node (m + 1) (p / 16 * 16 + c)) 16) (count_less (child st n) 16 (p % 16) (omega arith) o)) in
      let g = gather-at (kids st) (level st m) w.0 (count (child st n) (p % 16)) (node 0 0) (node 0 0) w.1 less in (
        before (kids st) (level st m) w.0 + count (child st n) (p % 16),
        g.0,
        g.1 ∙ rw w.2 (picked-at (child st n) (λ c. node (m + 1) (p / 16 * 16 + c)) 16 (p % 16) (node 0 0) (omega arith) o ∙ ap₂ node s (sym q)),
      )

module _ (rs : List Route) (g : Good rs) where
  -- every address begins with no bits
  root-path : (p : ℕ) → node_stands rs 0 p ≡ true → p ≡ 0
  root-path p e =
      let f = any-is (through 0 p) rs e in
      let s = pass-parts 0 p f.0 f.2 in
      omega (arith, s.1, (good-fine rs g f.0 f.1).prefix.addr_ok)

  -- a node's parent stands
  pub parent-stands : (m p c : ℕ) → c < 16 → node_stands rs (suc m) (p * 16 + c) ≡ true → node_stands rs m p ≡ true
  parent-stands m p c l e =
      let f = any-is (through (m + 1) (p * 16 + c)) rs (rw add-one e) in
      any-mem (through m p) rs f.0 f.1 (up-pass m p c f.0 l (good-fine rs g f.0 f.1).prefix.len_ok f.2)

  pub level-is : (m : ℕ) → LevelOf rs m (level (node_stands rs) m)
  unfolding level
  level-is zero = record {
    root = λ e. refl;
    deep = λ i l. deep-at 0 (level (node_stands rs) 0) i (node 0 0) (level-deep (node_stands rs) 0) l;
    rises = level-rises (node_stands rs) 0;
    stand = λ i l. absurd (omega arith);
    all = level_all (node_stands rs) root-path parent-stands 0;
  }
  level-is (suc m) = record {
    root = λ e. absurd (omega arith);
    deep = λ i l. deep-at (suc m) (level (node_stands rs) (suc m)) i (node 0 0) (level-deep (node_stands rs) (suc m)) l;
    rises = level-rises (node_stands rs) (suc m);
    stand = λ i u l. level-stands (node_stands rs) m i l;
    all = level_all (node_stands rs) root-path parent-stands (suc m);
  }
