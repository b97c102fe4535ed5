-- The bases in one pass: where each node's bases are those of the node before it and that node's own ones, all are those of the fixed order. And the
-- way to the first child of each level, which ends after the last node of a well-formed image.
use mathlib.Core.Path.{◌≡◌, refl, sym, ◌∙◌, ap, subst}
use mathlib.Core.Logic.{◌⊎◌, inl, inr}
use Rattle.std.specs.Prelude.{Some, None}
use mathlib.Core.Bool.{Bool, true, false, ◌&&◌, true≢false, false≢true}
use mathlib.Core.List.{List}
use Prim.Native.Nat.{ℕ, zero, suc, ◌+◌, ◌-◌, ◌*◌, ◌/◌, ◌%◌, ◌^◌, ◌≤◌, ◌<◌}
use native.Mathlib.Omega.{arith}
use lib.Dec.{eqb}
use lib.ListN.{length, get_or}
use lib.Count.{ones, ones-le}
use borrow.Author.Tests.{eqb-true, eq-eqb}
use Rattle.bits.specs.Tab.{Tells}
use Rattle.bits.proofs.Bools.{below?, untrue, both, and_split}
use Rattle.tree_image.specs.Node.{bits_of, child_of, base_of}
use Rattle.tree_same.specs.Order.{exts, ints, Order}
use Rattle.tree_formed.specs.WellFormed.{nodes_used, well_formed}
use Rattle.tree_formed.specs.Bases.{PassedOver, EndsAt, Nodes, Begun, NodesUpTo, NodesShaped}
use Rattle.tree_formed.proofs.Meaning.{well-formed-is, is-ordered}
use Rattle.tree_formed.proofs.Held.{exts-next, ints-next, exts-mono}
use Rattle.tree_formed.proofs.TestReturns.{check-few}

-- ---- the way to the first child of each level

-- it does not lead past the nodes in use, and has passed over those before
pub record OnTheWay (ws : List ℕ) (at : ℕ) : Type 0 where
  pub inside : (n : ℕ) → Order ws n → ((j : ℕ) → 3 * n ≤ j → get_or ws j 0 ≡ 0) → at ≤ n
  pub over : (j : ℕ) → j < at → PassedOver ws j

pub way-start : (ws : List ℕ) → OnTheWay ws 0
way-start ws = record { inside = λ n o z. omega arith; over = λ j l. absurd (omega arith) }

module _ (ws : List ℕ) (at : ℕ) (w : OnTheWay ws at) where
  module _ (next : ℕ) (q : next ≡ child_of ws at) where
    pub way_on : at < next → OnTheWay ws next
    way_on l = record { inside = λ n o z. go n o z (below? at n); over = λ j u. past j u (below? j at) }
      where
        past : (j : ℕ) → j < next → (j < at) ⊎ (at ≤ j) → PassedOver ws j
        past j u (inl v) = w.over j v
        past j u (inr v) = record { from = at; low = v; high = omega (arith, q) }

        go : (n : ℕ) → Order ws n → ((j : ℕ) → 3 * n ≤ j → get_or ws j 0 ≡ 0) → (at < n) ⊎ (n ≤ at) → next ≤ n
        go n o z (inl u) = omega (arith, q, o.child at u, o.whole, exts-mono ws at n (omega arith))
        go n o z (inr u) = absurd (omega (arith, q, z (3 * at + 1) (omega arith)))

    pub way_end : next ≤ at → EndsAt ws at
    way_end l = record { end = λ n o z. go n o z (below? at n); over = w.over }
      where
        go : (n : ℕ) → Order ws n → ((j : ℕ) → 3 * n ≤ j → get_or ws j 0 ≡ 0) → (at < n) ⊎ (n ≤ at) → at ≡ n
        go n o z (inl u) = absurd (omega (arith, q, o.child at u, o.fewest at u))
        go n o z (inr u) = omega (arith, w.inside n o z)

  pub way_out : length ws / 3 ≤ at → EndsAt ws at
  way_out l = record { end = λ n o z. omega (arith, w.inside n o z, o.lent); over = w.over }

-- ---- each node against the next

exts-few : (ws : List ℕ) → ((j : ℕ) → get_or ws j 0 < 2 ^ 32) → (i : ℕ) → exts ws i ≤ 16 * i
unfolding exts
exts-few ws narrow zero = omega arith
exts-few ws narrow (suc i) = omega (arith, exts-few ws narrow i, ones-le 16 (bits_of ws i / 2 ^ 16) (omega (arith, narrow (3 * i))))

ints-few : (ws : List ℕ) (i : ℕ) → ints ws i ≤ 15 * i
unfolding ints
ints-few ws zero = omega arith
ints-few ws (suc i) = omega (arith, ints-few ws i, ones-le 15 (bits_of ws i % 2 ^ 15) (omega arith))

pub right-start : (ws : List ℕ) (m : ℕ) → Begun ws m → Tells true (NodesUpTo ws 0)
unfolding exts ints
right-start ws m b = (
  λ z. record {
    child = λ j l. let q : j ≡ 0 = omega arith in rw q b.child;
    base = λ j l. let q : j ≡ 0 = omega arith in rw q b.base;
  },
  λ u. refl,
)

up_to : (P : ℕ → Type 0) (i : ℕ) → ((j : ℕ) → j ≤ i → P j) → P (suc i) → (j : ℕ) → j ≤ suc i → P j
up_to P i f a j l = go (below? i j)
  where
    go : (i < j) ⊎ (j ≤ i) → P j
    go (inl u) = let q : suc i ≡ j = omega arith in subst P q a
    go (inr u) = f j u

-- what one step reckons, of the words as they are read
pub record NodeStep (ws : List ℕ) (i x y child hop : ℕ) : Type 0 where
  pub kids : x ≡ ones (bits_of ws i / 2 ^ 16)
  pub own : y ≡ ones (bits_of ws i % 2 ^ 15)
  pub its_child : child ≡ (child_of ws i + x) % 2 ^ 32
  pub its_hop : hop ≡ (base_of ws i + y) % 2 ^ 32

module _ (ws : List ℕ) (narrow : (j : ℕ) → get_or ws j 0 < 2 ^ 32) (i : ℕ) (few : i ≤ 32768) (x y child hop : ℕ)
    (s : NodeStep ws i x y child hop) where
  next-child : get_or ws (3 * i + 4) 0 ≡ child_of ws (suc i)
  next-child = let q : 3 * i + 4 ≡ 3 * suc i + 1 = omega arith in ap (λ (j : ℕ). get_or ws j 0) q

  next-base : get_or ws (3 * i + 5) 0 ≡ base_of ws (suc i)
  next-base = let q : 3 * i + 5 ≡ 3 * suc i + 2 = omega arith in ap (λ (j : ℕ). get_or ws j 0) q

  -- where the bases of node i are right, no sum wraps
  module _ (right_child : child_of ws i ≡ 1 + exts ws i) (right-base : base_of ws i ≡ ints ws i) where
    sum-child : child ≡ 1 + exts ws (suc i)
    sum-child =
        omega (
          arith,
          s.kids,
          s.its_child,
          right_child,
          exts-next ws i,
          exts-few ws narrow i,
          ones-le 16 (bits_of ws i / 2 ^ 16) (omega (arith, narrow (3 * i))),
        )

    sum-hop : hop ≡ ints ws (suc i)
    sum-hop = omega (arith, s.own, s.its_hop, right-base, ints-next ws i, ints-few ws i, ones-le 15 (bits_of ws i % 2 ^ 15) (omega arith))

  pub right-next : (r : Bool) → Tells r (NodesUpTo ws i)
      → Tells (r && (eqb (get_or ws (3 * i + 4) 0) child && eqb (get_or ws (3 * i + 5) 0) hop)) (NodesUpTo ws (i + 1))
  right-next r f = let q : suc i ≡ i + 1 = omega arith in subst (λ (k : ℕ). Tells (r && both-same) (NodesUpTo ws k)) q (forth, back)
    where
      both-same : Bool
      both-same = eqb (get_or ws (3 * i + 4) 0) child && eqb (get_or ws (3 * i + 5) 0) hop

      forth : (r && both-same) ≡ true → NodesUpTo ws (suc i)
      forth e =
          let a = and_split r both-same e in
          let b = and_split (eqb (get_or ws (3 * i + 4) 0) child) _ a.1 in
          let u = f.0 a.0 in
          let q = sym next-child ∙ eqb-true _ _ b.0 ∙ sum-child (u.child i (omega arith)) (u.base i (omega arith)) in
          let v = sym next-base ∙ eqb-true _ _ b.1 ∙ sum-hop (u.child i (omega arith)) (u.base i (omega arith)) in
          record {
            child = up_to (λ j. child_of ws j ≡ 1 + exts ws j) i u.child q;
            base = up_to (λ j. base_of ws j ≡ ints ws j) i u.base v;
          }

      back : NodesUpTo ws (suc i) → (r && both-same) ≡ true
      back u =
          let child-here = u.child i (omega arith) in
          let base-here = u.base i (omega arith) in
          let next = u.child (suc i) (omega arith) in
          let before = f.1 (record {
            child = λ j l. u.child j (omega arith);
            base = λ j l. u.base j (omega arith);
          }) in
          both before (both (eq-eqb _ _ (next-child ∙ next ∙ sym (sum-child child-here base-here)))
          (eq-eqb _ _ (next-base ∙ u.base (suc i) (omega arith) ∙ sym (sum-hop child-here base-here))))

pub right-end : (ws : List ℕ) (m i : ℕ) (r : Bool) → i ≤ m → m ≤ i → Tells r (NodesUpTo ws i) → Tells r (NodesUpTo ws m)
right-end ws m i r a b f = let q : i ≡ m = omega arith in subst (λ (k : ℕ). Tells r (NodesUpTo ws k)) q f

-- ---- the first n nodes

no-order : (ws : List ℕ) (n : ℕ) → (Order ws n → ⊥) → Tells false (Order ws n)
no-order ws n f = (λ e. absurd (false≢true e), λ o. absurd (f o))

module _ (ws : List ℕ) (n : ℕ) (k : Nodes ws n) where
  pub order-child : (child_of ws 0 ≡ 1 → ⊥) → Tells false (Order ws n)
  unfolding exts
  order-child f = no-order ws n (λ o. f (o.child 0 k.some))

  pub order-base : (base_of ws 0 ≡ 0 → ⊥) → Tells false (Order ws n)
  unfolding ints
  order-base f = no-order ws n (λ o. f (o.base 0 k.some))

  order-up : Order ws n → NodesUpTo ws (n - 1)
  order-up o = record {
    child = λ j l. o.child j (omega (arith, k.some));
    base = λ j l. o.base j (omega (arith, k.some));
  }

  pub order-wrong : (r : Bool) → Tells r (NodesUpTo ws (n - 1)) → r ≡ false → Tells false (Order ws n)
  order-wrong r t f = no-order ws n (λ o. true≢false (sym (t.1 (order-up o)) ∙ f))

  module _ (u : NodesUpTo ws (n - 1)) (x : ℕ) where
    pub order-end : x ≡ child_of ws (n - 1) + ones (bits_of ws (n - 1) / 2 ^ 16) → Tells (eqb x n) (Order ws n)
    order-end ex = (λ e. forth (eqb-true x n e), λ o. eq-eqb x n (omega (arith, whole, o.whole, later (n - 1) (omega (arith, k.some)), more)))
      where
        last : suc (n - 1) ≡ n
        last = omega (arith, k.some)

        whole : x ≡ 1 + exts ws n
        whole = omega (arith, ex, u.child (n - 1) (omega arith), exts-next ws (n - 1), ap (exts ws) last)

        more : exts ws (n - 1) ≤ exts ws n
        more = exts-mono ws (n - 1) n (omega arith)

        -- the way passes over each node, so its children come after it
        later : (i : ℕ) → i < n → i < 1 + exts ws i
        later i l =
            let w = k.over i l in
            omega (arith, w.low, w.high, u.child w.from (omega (arith, w.low)), exts-mono ws w.from i w.low)

        forth : x ≡ n → Order ws n
        forth e = record {
          lent = omega (arith, k.lent);
          whole = omega (arith, whole, e);
          fewest = later;
          child = λ i l. u.child i (omega arith);
          base = λ i l. u.base i (omega arith);
        }

-- ---- the nodes in use

module _ (ws : List ℕ) (n : ℕ) (e : EndsAt ws n) where
  no_image : (wf : (hs : List ℕ) → well_formed ws hs ≡ true → ⊥) → NodesShaped ws None
  no_image wf hs = untrue (well_formed ws hs) (wf hs)

  -- a well-formed image has n nodes
  its-nodes : (hs : List ℕ) → well_formed ws hs ≡ true → n ≡ nodes_used ws
  its-nodes hs t = let w = well-formed-is ws hs t in e.end (nodes_used ws) w.order w.words_after

  pub shape-none : n ≡ 0 → NodesShaped ws None
  shape-none z = no_image (λ hs t. omega (arith, its-nodes hs t, (well-formed-is ws hs t).order.whole))

  pub shape-past : length ws / 3 < n → NodesShaped ws None
  shape-past l = no_image (λ hs t. omega (arith, its-nodes hs t, (well-formed-is ws hs t).order.lent))

  pub shape-many : ((j : ℕ) → get_or ws j 0 < 2 ^ 32) → 32769 < n → NodesShaped ws None
  shape-many narrow l = no_image (λ hs t. omega (arith, its-nodes hs t, few hs t))
    where
      few : (hs : List ℕ) → well_formed ws hs ≡ true → nodes_used ws ≤ 32769
      few hs t = (check-few ws hs (nodes_used ws) (rw t refl) narrow).0

  module _ (r : Bool) (t : Tells r (Order ws n)) where
    pub shape-not : r ≡ false → NodesShaped ws None
    shape-not f = no_image (λ hs w.
        let k = well-formed-is ws hs w in
        true≢false (sym (t.1 (rw (its-nodes hs w) k.order)) ∙ f))

    pub shape_is : n ≤ 32769 → r ≡ true → NodesShaped ws (Some n)
    shape_is few f =
        let o = t.0 f in
        let u = is-ordered ws n o in
        record {
          some = omega (arith, o.whole);
          lent = omega (arith, o.lent);
          few = few;
          ordered = rw u.1 (sym u.0);
        }
