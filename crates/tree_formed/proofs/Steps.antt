-- What the steps of the test say: of each return, why its answer is that of the definition.
use Rattle.std.specs.Prelude.{Some, None}
use mathlib.Core.Path.{◌≡◌, refl, sym, ◌∙◌, ap, subst}
use mathlib.Core.Logic.{◌⊎◌, inl, inr}
use mathlib.Core.Bool.{Bool, true, false, ◌&&◌, true≢false}
use mathlib.Core.List.{List}
use Prim.Native.Nat.{ℕ, suc, ◌+◌, ◌-◌, ◌*◌, ◌%◌, ◌^◌, ◌≤◌, ◌<◌}
use native.Mathlib.Numerals.{add-one}
use native.Mathlib.Omega.{arith}
use lib.Dec.{leb}
use lib.ListN.{length, get_or}
use lib.Count.{ones}
use borrow.Author.Tests.{leb-true, le-leb}
use Rattle.bits.specs.Tab.{Tells, every}
use Rattle.bits.proofs.Bools.{decided, both, and_split, untrue}
use Rattle.buffers_test.specs.Zeros.{Zeros}
use Rattle.routes.specs.Input.{hop_fine}
use Rattle.tree_image.specs.Node.{bits_of, base_of}
use Rattle.tree_same.specs.Order.{ints, Order}
use Rattle.tree_formed.specs.WellFormed.{nodes_used, ordered, root_ok, hops_in, hops_ok, hops_fine_to, blank_from, well_formed, nodes_if, nodes_where}
use Rattle.tree_formed.specs.Bases.{Shape, NodesShaped, Siblings}
use Rattle.tree_formed.proofs.Meaning.{ordered-is, blank-zeros, zeros-blank}

-- ---- hops and zeros

pub fine-none : (hs : List ℕ) → true ≡ hops_fine_to hs 0
unfolding every
fine-none hs = refl

pub fine_more : (hs : List ℕ) (j : ℕ) (fine t : Bool) → fine ≡ hops_fine_to hs j → t ≡ hop_fine (get_or hs j 0) → (fine && t) ≡ hops_fine_to hs (j + 1)
unfolding every
fine_more hs j fine t e f = swapped ∙ ap (hops_fine_to hs) (sym (add-one j))
  where
    either : (a b : Bool) → (a && b) ≡ (b && a)
    either true true = refl
    either true false = refl
    either false true = refl
    either false false = refl

    swapped : (fine && t) ≡ hops_fine_to hs (suc j)
    swapped = either fine t ∙ rw (e, f)

pub fine-all : (hs : List ℕ) (k j : ℕ) (fine : Bool) → j ≤ k → k ≤ j → fine ≡ hops_fine_to hs j → fine ≡ hops_fine_to hs k
fine-all hs k j fine a b e = let q : j ≡ k = omega arith in rw q at e

-- the hops of the nodes in use: the hop base of the last one and its own
pub hops-last : (ws : List ℕ) (n x y : ℕ) → 0 < n → n ≡ nodes_if (ordered ws) ws → x ≡ base_of ws (n - 1) → y ≡ ones (bits_of ws (n - 1) % 2 ^ 15)
    → x + y ≡ ints ws n
unfolding ints
hops-last ws n x y l e ex ey = go (decided (ordered ws))
  where
    go : (ordered ws ≡ true) ⊎ (ordered ws ≡ false) → x + y ≡ ints ws n
    go (inr z) = absurd (omega (arith, rw z at e))
    go (inl t) =
        let u : n ≡ nodes_used ws = rw t at e in
        let o = subst (Order ws) (sym u) (ordered-is ws t) in
        let q : n ≡ suc (n - 1) = omega arith in
        subst (λ (k : ℕ). x + y ≡ ints ws k) (sym q) (omega (arith, o.base (n - 1) (omega arith)))

-- ---- the whole test

module _ (ws : List ℕ) (n : ℕ) (s : Shape ws n) where
  its-order : (ordered ws ≡ true) × (nodes_used ws ≡ n)
  its-order = go (decided (ordered ws))
    where
      go : (ordered ws ≡ true) ⊎ (ordered ws ≡ false) → (ordered ws ≡ true) × (nodes_used ws ≡ n)
      go (inl t) = (t, sym (rw t at s.ordered))
      go (inr t) = absurd (omega (arith, rw t at s.ordered, s.some))

  pub check-root-in : Siblings ws 0 1 8
  check-root-in = record {
    order = its-order.0;
    inside = omega (arith, its-order.1, s.some);
    few = omega (arith, its-order.1, s.few);
    deep = omega arith;
  }

  pub check-counted : (0 < n) × (3 * n ≤ length ws) × (n ≡ nodes_if (ordered ws) ws)
  check-counted = (s.some, s.lent, s.ordered)

module _ (ws hs : List ℕ) where
  pub check-none : NodesShaped ws None → None ≡ nodes_where (well_formed ws hs) ws
  check-none f = rw (f hs) refl

  module _ (n : ℕ) (s : Shape ws n) where
    fails_by : (well_formed ws hs ≡ true → ⊥) → None ≡ nodes_where (well_formed ws hs) ws
    fails_by f = rw (untrue (well_formed ws hs) f)

    parts : well_formed ws hs ≡ true → (root_ok ws ≡ true) × (hops_ok ws hs ≡ true) × (blank_from ws (3 * nodes_used ws) ≡ true) × (blank_from hs (hops_in ws) ≡ true)
    unfolding well_formed
    parts w =
        let a = and_split (ordered ws) _ w in
        let b = and_split (root_ok ws) _ a.1 in
        let c = and_split (hops_ok ws hs) _ b.1 in
        let d = and_split (blank_from ws (3 * nodes_used ws)) _ c.1 in
        (b.0, c.0, d.0, d.1)

    pub check-root : (r : Bool) → r ≡ root_ok ws → r ≡ false → None ≡ nodes_where (well_formed ws hs) ws
    check-root r q f = fails_by (λ w. true≢false (sym (parts w).0 ∙ sym q ∙ f))

    module _ (k : ℕ) (ek : k ≡ ints ws n) where
      its-hops : hops_in ws ≡ k
      its-hops = ap (ints ws) (its-order ws n s).1 ∙ sym ek

      hop-parts : well_formed ws hs ≡ true → (leb k (length hs) ≡ true) × (leb k 4096 ≡ true) × (hops_fine_to hs k ≡ true)
      unfolding hops_ok
      hop-parts w =
          let h : (leb k (length hs) && (leb k 4096 && hops_fine_to hs k)) ≡ true = rw its-hops at (parts w).1 in
          let a = and_split (leb k (length hs)) _ h in
          let b = and_split (leb k 4096) (hops_fine_to hs k) a.1 in
          (a.0, b.0, b.1)

      pub check-room : length hs < k → None ≡ nodes_where (well_formed ws hs) ws
      check-room l = fails_by (λ w. omega (arith, leb-true k (length hs) (hop-parts w).0))

      pub check-few : 4096 < k → None ≡ nodes_where (well_formed ws hs) ws
      check-few l = fails_by (λ w. omega (arith, leb-true k 4096 (hop-parts w).1))

      pub check-hops : (r : Bool) → r ≡ hops_fine_to hs k → r ≡ false → None ≡ nodes_where (well_formed ws hs) ws
      check-hops r q f = fails_by (λ w. true≢false (sym (hop-parts w).2 ∙ sym q ∙ f))

      pub check-words-after : (r : Bool) → Tells r (Zeros ws (3 * n) (length ws)) → r ≡ false → None ≡ nodes_where (well_formed ws hs) ws
      check-words-after r q f = fails_by (λ w. true≢false (sym (q.1 (blank-zeros ws (3 * n) (rw (its-order ws n s).1 at (parts w).2))) ∙ f))

      pub check-hops-after : (r : Bool) → Tells r (Zeros hs k (length hs)) → r ≡ false → None ≡ nodes_where (well_formed ws hs) ws
      check-hops-after r q f = fails_by (λ w. true≢false (sym (q.1 (blank-zeros hs k (rw its-hops at (parts w).3))) ∙ f))

      pub check-passes : root_ok ws ≡ true → k ≤ length hs → k ≤ 4096 → hops_fine_to hs k ≡ true → Zeros ws (3 * n) (length ws) → Zeros hs k (length hs)
          → Some n ≡ nodes_where (well_formed ws hs) ws
      unfolding well_formed hops_ok
      check-passes r a b c d f =
          let h : hops_ok ws hs ≡ true = rw its-hops (both (le-leb k (length hs) a) (both (le-leb k 4096 b) c)) in
          let x : blank_from ws (3 * nodes_used ws) ≡ true = rw (its-order ws n s).1 (zeros-blank ws (3 * n) d) in
          let y : blank_from hs (hops_in ws) ≡ true = rw its-hops (zeros-blank hs k f) in
          let w : well_formed ws hs ≡ true = both (its-order ws n s).0 (both r (both h (both x y))) in
          rw (w, (its-order ws n s).1) refl
