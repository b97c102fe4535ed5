-- A prefix taken out of an image: its hop, and then the nodes of its path that have no bit left, from below. At each step the arrays hold the
-- routes then standing with the path down to the depth at hand; where a node has a bit, its path stands by itself.
use mathlib.Core.Path.{◌≡◌, refl, sym, ◌∙◌, ap, ap₂, subst}
use mathlib.Core.Logic.{◌⊎◌, inl, inr}
use mathlib.Core.Bool.{Bool, true, false, ◌&&◌, true≢false}
use mathlib.Core.List.{List}
use Prim.Native.Nat.{ℕ, zero, suc, ◌+◌, ◌-◌, ◌*◌, ◌/◌, ◌%◌, ◌^◌, ◌≤◌, ◌<◌}
use native.Mathlib.Numerals.{add-one}
use native.Mathlib.Omega.{arith}
use lib.Dec.{eqb, ltb}
use lib.ListN.{get_or}
use borrow.Author.Tests.{eq-eqb, eqb-true, lt-ltb, ltb-true}
use Rattle.bits.specs.Slot.{slot}
use Rattle.bits.proofs.Bools.{decided, and_split, both, untrue}
use Rattle.routes.specs.Route.{key_of}
use Rattle.routes.specs.declared.Route.{Route}
use Rattle.standing.specs.Standing.{remove}
use Rattle.tree_image.specs.Node.{bits_of, child_of, is_set, child_at}
use Rattle.tree_image.specs.Image.{node, word, node_stands, hop_for}
use Rattle.tree_same.specs.Read.{reached, leads, hop_place_at}
use Rattle.tree_same.specs.Order.{ints, Order, stands_at}
use Rattle.tree_same.specs.Holding.{Holding}
use Rattle.tree_same.specs.Listed.{routes_held}
use Rattle.tree_same.proofs.Back.{Shaped}
use Rattle.tree_same.proofs.Same.{fits}
use Rattle.tree_formed.proofs.Builds.{word_some}
use Rattle.tree_hold.specs.More.{also, down_to}
use Rattle.tree_hold.specs.Edits.{Grafted, Prunable, HopPut, Takable}
use Rattle.tree_hold.proofs.Holds.{bits_fit, holding-same}
use Rattle.tree_hold.proofs.GraftBits.{ints-later}
use Rattle.tree_hold.proofs.PutBits.{ints-after}
use Rattle.tree_hold.proofs.Undone.{prune-holds}
use Rattle.tree_hold.proofs.Taken.{take-holds}
use Rattle.tree_hold.proofs.Paths.{on-path, path-child, down-shaped, down-next, down-absent, down-same, path-stands}
use Rattle.tree_theory.specs.Stages.{Descent, OnPath, Standing}
use Rattle.tree_theory.proofs.Ways.{held-leads, child-held, inner-held}
use Rattle.tree_theory.proofs.Places.{hop-at-bit, shaped}
use Rattle.tree_theory.proofs.Midways.{Midway, mid-shape, end-stands, mid-words}
use Rattle.tree_route.proofs.Replaces.{its-node, its-bit}
use Rattle.tree_theory.proofs.Without.{Without, without_is, held_with}
use Rattle.tree_route.proofs.Bares.{own-word, absent-word, full-way}

-- ---- the hop

module _ {ws₀ hs₀ : List ℕ} {n x a len b : ℕ} (k : ℕ) (r : Standing ws₀ hs₀ n (k + 1) x a len b) where
  abbrev deep : ℕ
  deep = len / 4

  abbrev path : ℕ
  path = slot (4 * deep) a

  abbrev rs' : List Route
  rs' = remove (key_of a len) (routes_held ws₀ hs₀)

  abbrev st' : ℕ → ℕ → Bool
  st' = node_stands rs'

  abbrev hop' : ℕ → ℕ → ℕ
  hop' = hop_for rs'

  small : a < 2 ^ 32
  small = r.prefix.addr_ok

  short : len ≤ 32
  short = r.prefix.len_ok

  pub take-ready : Takable ws₀ hs₀ n k x b
  take-ready = record {
    words = record {
      order = r.found.holds.order;
      hops = r.found.hops;
      narrow = bits_fit (shaped r.found).agree.nine r.found.holds;
      rest = r.found.holds.rest;
    };
    parent = r.way.inside;
    small = r.bit.small;
    stands =
        ap (λ (z : ℕ). is_set (bits_of ws₀ z) b) r.way.at ∙ inner-held (shaped r.found) r.found.holds deep path b (its-node r) r.bit.small
        ∙ its-bit r;
    room = omega (arith, r.found.holds.room, r.found.hops);
    blank = λ j l. r.found.holds.blank j (omega (arith, r.found.hops));
  }

  others : Without (routes_held ws₀ hs₀) a len
  others = without_is (routes_held ws₀ hs₀) a len r.found.good r.prefix r.stood

  down-shape : Shaped (down_to st' a deep) hop'
  down-shape = down-shaped st' a small hop' deep (omega (arith, short)) (fits rs' others.good)

  -- the place of the hop
  abbrev place : ℕ
  place = hop_place_at ws₀ x b

  pub shrink-start : {ws hs : List ℕ} → HopPut ws ws₀ hs hs₀ n x b place (get_or hs₀ place 0)
      → Midway (remove (key_of a len) (routes_held ws₀ hs₀)) a (len / 4) ws hs n k
  shrink-start {ws} {hs} g = record {
    good = others.good;
    addr = small;
    deep = omega (arith, short);
    holds =
        take-holds deep path b others.hop down-shape r.bit.small (on-path st' a small deep deep (omega arith))
        (hop-at-bit r.bit short hop' ∙ others.gone)
        others.some (held_with others short r.bit r.found.holds)
        (subst (λ (v : ℕ). HopPut ws ws₀ hs hs₀ n v b place (get_or hs₀ place 0)) r.way.at g);
    hops = omega (arith, ints-after g.bits n g.bits.inside (omega arith), r.found.hops);
  }

-- ---- the nodes

module _ {rs : List Route} {a m : ℕ} {ws hs : List ℕ} {nodes k : ℕ} (g : Midway rs a m ws hs nodes k) where
  abbrev st : ℕ → ℕ → Bool
  st = node_stands rs

  abbrev hop : ℕ → ℕ → ℕ
  hop = hop_for rs

  abbrev at : ℕ → ℕ
  at i = slot (4 * i) a

  pub shrink-path : OnPath ws nodes a m
  shrink-path = record { order = g.holds.order; deep = g.deep; stands = held-leads (mid-shape g) g.holds m (at m) ∙ end-stands g }

  -- the bits of the last node of the path are those of the routes
  last_word : bits_of ws (reached ws m (at m)) ≡ word st hop (node m (at m))
  last_word = g.holds.right m (at m) (end-stands g) ∙ own-word st hop a m (at m)

  -- the code's test of the last node
  abbrev bare : Bool
  bare = ltb 0 m && eqb (bits_of ws (reached ws m (at m))) 0

  module _ (t : Bool) (tells : t ≡ bare) (on : t ≡ true) where
    parts : (ltb 0 m ≡ true) × (eqb (bits_of ws (reached ws m (at m))) 0 ≡ true)
    parts = and_split (ltb 0 m) (eqb (bits_of ws (reached ws m (at m))) 0) (sym tells ∙ on)

    pub shrink-some : (1 ≤ m) × (1 ≤ nodes)
    shrink-some = (ltb-true 0 m parts.0, omega (arith, g.holds.order.whole))

    empty : bits_of ws (reached ws m (at m)) ≡ 0
    empty = eqb-true (bits_of ws (reached ws m (at m))) 0 parts.1

    -- the depth above
    abbrev i : ℕ
    i = m - 1

    shallow : i < 8
    shallow = omega (arith, g.deep, shrink-some)

    down : m ≡ suc i
    down = omega (arith, shrink-some)

    one : nodes ≡ nodes - 1 + 1
    one = omega (arith, shrink-some)

    -- no route passes through the last node
    absent-there : st (suc i) (at (suc i)) ≡ false
    absent-there =
        untrue (st (suc i) (at (suc i)))
        (λ s. word_some rs g.good (suc i) (at (suc i)) s (subst (λ (z : ℕ). word st hop (node z (at z)) ≡ 0) down (sym last_word ∙ empty)))

    held : Holding (down_to st a (suc i)) hop ws hs nodes
    held = subst (λ (z : ℕ). Holding (down_to st a z) hop ws hs nodes) down g.holds

    shape : Shaped (down_to st a (suc i)) hop
    shape = down-shaped st a g.addr hop (suc i) (omega arith) (fits rs g.good)

    up-path : leads ws i (at i) ≡ true
    up-path = held-leads shape held i (at i) ∙ on-path st a g.addr (suc i) i (omega arith)

    pub shrink-up : Order ws (nodes - 1 + 1) × (m - 1 ≤ 8)
    shrink-up = (subst (λ (z : ℕ). Order ws z) one g.holds.order, omega (arith, shallow))

    module _ {u d : ℕ} (w : Descent ws (nodes - 1 + 1) a (m - 1) u d) (c : ℕ) (turn : c ≡ slot (4 * (m - 1 + 1)) a % 16) where
      there : u ≡ reached ws i (at i)
      there = w.at ∙ ap (λ (z : ℕ). reached ws z (at z)) (full-way ws a (nodes - 1 + 1) i u d (omega (arith, shallow)) up-path w)

      its-turn : c ≡ at (suc i) % 16
      its-turn = turn ∙ ap (λ (z : ℕ). at z % 16) (add-one i)

      its-path : at i * 16 + c ≡ at (suc i)
      its-path = ap (λ (z : ℕ). at i * 16 + z) its-turn ∙ sym (path-child st a g.addr i shallow)

      child-is : child_at (bits_of ws u) (child_of ws u) c ≡ reached ws m (at m)
      unfolding reached
      child-is =
          let q : at (suc i) / 16 ≡ at i = omega (arith, its-path, its-turn) in
          let v : u ≡ reached ws i (at (suc i) / 16) = there ∙ ap (reached ws i) (sym q) in
          ap₂ (λ (z d : ℕ). child_at (bits_of ws z) (child_of ws z) d) v its-turn ∙ ap (λ (z : ℕ). reached ws z (at z)) (sym down)

      pub shrink-ready : Prunable ws (nodes - 1) k u c
      unfolding stands_at
      shrink-ready = record {
        words = record {
          order = shrink-up.0;
          hops = g.hops ∙ ap (ints ws) one;
          narrow = λ j l. (mid-words g).narrow j (omega (arith, one));
          rest = λ j l. g.holds.rest j (omega (arith, one));
        };
        parent = w.inside;
        small = omega (arith, its-turn);
        stands =
            ap (λ (z : ℕ). is_set (bits_of ws z) (16 + c)) there
            ∙ child-held shape held i (at i) c (on-path st a g.addr (suc i) i (omega arith)) (omega (arith, its-turn))
            ∙ ap (down_to st a (suc i) (suc i)) its-path ∙ on-path st a g.addr (suc i) (suc i) (omega arith);
        bare = ap (bits_of ws) child-is ∙ empty;
      }

      pub shrink-next : {ws' : List ℕ} → Grafted ws' ws (nodes - 1) u c (child_at (bits_of ws u) (child_of ws u) c) → Midway rs a (m - 1) ws' hs (nodes - 1) k
      shrink-next {ws'} f =
          let s : down_to st a (suc i) ≡ also (down_to st a i) (suc i) (at i * 16 + c) =
          sym (ap (also (down_to st a i) (suc i)) its-path ∙ down-next st a g.addr i) in
          let o = subst (λ (z : ℕ). Holding (also (down_to st a i) (suc i) (at i * 16 + c)) hop ws hs z) one
          (subst (λ (z : ℕ → ℕ → Bool). Holding z hop ws hs nodes) s held) in
          let q : nodes ≡ suc (nodes - 1) = omega (arith, one) in
          record {
            good = g.good;
            addr = g.addr;
            deep = shrink-up.1;
            holds =
                prune-holds i (at i) c (down-shaped st a g.addr hop i shrink-up.1 (fits rs g.good)) shallow (omega (arith, its-turn))
                (on-path st a g.addr i i (omega arith)) (ap (down_to st a i (suc i)) its-path ∙ down-absent st a g.addr i absent-there) o f there;
            hops = g.hops ∙ ap (ints ws) q ∙ ints-later f.bits (nodes - 1) f.bits.inside (omega arith);
          }

  -- where the last node is the root, or has a bit, the path stands by itself
  path-own : (z : ℕ) → m ≡ z → bare ≡ false → (j : ℕ) → j < z → st (suc j) (at (suc j)) ≡ true
  path-own zero e t j l = absurd (omega arith)
  path-own (suc i) e t j l = go (decided (st (suc i) (at (suc i))))
    where
      go : (st (suc i) (at (suc i)) ≡ true) ⊎ (st (suc i) (at (suc i)) ≡ false) → st (suc j) (at (suc j)) ≡ true
      go (inl s) = path-stands st hop a g.addr (fits rs g.good) i j (omega (arith, g.deep)) s l
      go (inr s) =
          let w : word st hop (node m (at m)) ≡ 0 =
          subst (λ (y : ℕ). word st hop (node y (at y)) ≡ 0) (sym e) (absent-word st hop (fits rs g.good) i (at (suc i)) s) in
          absurd (true≢false (sym (both (lt-ltb 0 m (omega arith)) (eq-eqb _ 0 (last_word ∙ w))) ∙ t))

  pub shrink-done : (t : Bool) → t ≡ bare → t ≡ false → Holding (node_stands rs) (hop_for rs) ws hs nodes
  shrink-done t tells off = holding-same (down_to st a m) st hop (λ i p. down-same st a g.addr m (path-own m refl (sym tells ∙ off)) i p) g.holds
