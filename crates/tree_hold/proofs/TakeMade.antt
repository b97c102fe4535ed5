-- A hop taken away by its steps: the hops after its place move down by one, and the hop bases after its node are one less.
use mathlib.Core.Path.{◌≡◌, refl, sym, ◌∙◌, ap}
use mathlib.Core.Logic.{◌⊎◌, inl, inr}
use mathlib.Core.Bool.{false}
use mathlib.Core.List.{List}
use Prim.Native.Nat.{ℕ, suc, ◌+◌, ◌-◌, ◌*◌, ◌/◌, ◌%◌, ◌^◌, ◌≤◌, ◌<◌}
use native.Mathlib.Omega.{arith}
use lib.ListN.{length, get_or, set, length-set}
use lib.Seq.{get_or-set_same, get_or-set_other}
use Rattle.bits.proofs.Bools.{below?, equal?}
use Rattle.moves.specs.Moves.{moved_down}
use Rattle.moves.proofs.Draws.{length-drawn, drawn-in, drawn-before, drawn-after}
use Rattle.tree_image.specs.Node.{bits_of, base_of, is_set}
use Rattle.tree_node.specs.NodeRuns.{WithBit}
use Rattle.tree_same.specs.Read.{hop_place_at}
use Rattle.tree_same.specs.Order.{ints}
use Rattle.tree_formed.proofs.Held.{fewer-ints, ints-next, ints-mono}
use Rattle.tree_hold.specs.Moves.{each}
use Rattle.tree_hold.specs.Edits.{MarkedBits, HopPut, Takable}
use Rattle.tree_hold.proofs.Each.{past, each-length, each_in, each-out}
use Rattle.tree_hold.proofs.PutBits.{low-upto, ints-after}

module _ {ws' hs' : List ℕ} {n k x b : ℕ} (r : Takable ws' hs' n k x b) (y : ℕ) (place : y ≡ hop_place_at ws' x b) where
  pub take-inside : y ≤ k
  take-inside =
      omega (
        arith,
        place,
        r.words.hops,
        r.words.order.base x r.parent,
        fewer-ints (bits_of ws' x) b r.small r.stands,
        ints-next ws' x,
        ints-mono ws' (suc x) n r.parent,
      )

  module _ (v : ℕ) (bit : WithBit v b (bits_of ws' x)) (free : is_set v b ≡ false) (fits : v < 2 ^ 32) where
    abbrev v1 : List ℕ
    v1 = set ws' (3 * x) v

    abbrev ws : List ℕ
    ws = each (λ z. z - 1) v1 2 (x + 1) n

    abbrev g1 : List ℕ
    g1 = moved_down hs' y k 1

    abbrev hs : List ℕ
    hs = set g1 k 0

    lent : 3 * n ≤ length ws'
    lent = omega (arith, r.words.order.lent)

    pub take_long : length ws ≡ length ws'
    take_long = each-length (λ z. z - 1) v1 2 (x + 1) n ∙ length-set ws' (3 * x) v

    long-hops : length g1 ≡ length hs'
    long-hops = length-drawn 0 hs' (λ j. j + 1) y k

    pub take-long-hops : length hs ≡ length hs'
    take-long-hops = length-set g1 k 0 ∙ long-hops

    kept : (j : ℕ) → (j ≡ 3 * x → ⊥) → (j % 3 ≡ 2 → x + 1 ≤ j / 3 → j / 3 < n → ⊥) → get_or ws j 0 ≡ get_or ws' j 0
    kept j e f = each-out (λ z. z - 1) v1 2 (x + 1) n j f ∙ get_or-set_other ws' (3 * x) j v 0 e

    node-bits : bits_of ws x ≡ v
    node-bits = each-out (λ z. z - 1) v1 2 (x + 1) n (3 * x) (λ q a c. omega arith) ∙ get_or-set_same ws' (3 * x) v 0 (omega (arith, lent, r.parent))

    other-bits : (i : ℕ) → (i ≡ x → ⊥) → bits_of ws i ≡ bits_of ws' i
    other-bits i e = kept (3 * i) (λ q. e (omega arith)) (λ q a c. omega arith)

    narrow : (i : ℕ) → i < n → bits_of ws i < 2 ^ 32
    narrow i l = go (equal? i x)
      where
        go : (i ≡ x) ⊎ (i ≡ x → ⊥) → bits_of ws i < 2 ^ 32
        go (inl e) = rw (e, node-bits) fits
        go (inr e) = rw (other-bits i e) (r.words.narrow i l)

    taken-bits : MarkedBits ws ws' n x b
    taken-bits = record {
      small = r.small;
      inside = r.parent;
      narrow = narrow;
      free = rw node-bits free;
      node = rw node-bits bit;
      other = λ i l e. sym (other-bits i e);
    }

    -- one hop fewer
    fewer : ints ws n ≡ k
    fewer = omega (arith, ints-after taken-bits n r.parent (omega arith), r.words.hops)

    -- the hop base of a node after this one is 1 or more
    base-some : (i : ℕ) → x < i → i < n → 1 ≤ base_of ws' i
    base-some i l u =
        omega (arith, r.words.order.base i u, ints-mono ws' (suc x) i l, ints-next ws' x, fewer-ints (bits_of ws' x) b r.small r.stands)

    lowered : (i : ℕ) → x < i → i < n → base_of ws i + 1 ≡ base_of ws' i
    lowered i l u =
        omega (
          arith,
          each_in (λ z. z - 1) v1 2 (x + 1) n i (omega arith) (omega arith) u (omega (arith, lent, length-set ws' (3 * x) v)),
          get_or-set_other ws' (3 * x) (3 * i + 2) v 0 (λ (q : 3 * i + 2 ≡ 3 * x). omega arith),
          base-some i l u,
        )

    hop : (j : ℕ) → (j ≡ k → ⊥) → get_or hs j 0 ≡ get_or g1 j 0
    hop j e = get_or-set_other g1 k j 0 0 e

    pub take_done : HopPut ws ws' hs hs' n x b y (get_or hs' y 0)
    take_done = record {
      bits = taken-bits;
      same = sym take_long;
      same_hops = sym take-long-hops;
      lent = r.words.order.lent;
      room = omega (arith, fewer, r.room);
      place = omega (arith, place, kept (3 * x + 2) (λ (q : 3 * x + 2 ≡ 3 * x). omega arith) (λ q a c. omega arith), low-upto taken-bits b (omega arith));
      child_same = λ i l. sym (kept (3 * i + 1) (λ q. omega arith) (λ q a c. omega arith));
      base_upto = λ i l. sym (kept (3 * i + 2) (λ q. omega arith) (λ q a c. omega arith));
      base_after = λ i l u. sym (lowered i l u);
      rest_old = λ j l. kept j (λ q. omega (arith, r.parent)) (λ q a c. omega arith) ∙ r.words.rest j l;
      rest = r.words.rest;
      hops_below = λ j l. sym (hop j (λ q. omega (arith, take-inside)) ∙ drawn-before 0 hs' (λ z. z + 1) y k j (omega (arith, take-inside, r.room)) l);
      hop_new = refl;
      hops_above = λ j l u.
          let e : j + 1 ≡ suc j = omega arith in
          sym (hop j (λ q. omega (arith, fewer)) ∙ drawn-in 0 hs' (λ z. z + 1) y k j (omega (arith, fewer, r.room)) l (omega (arith, fewer)) ∙ ap
          (λ (z : ℕ). get_or hs' z 0) e);
      blank_old = λ j l. blank_old j (omega (arith, fewer)) (equal? j k) (below? j (length hs'));
      blank = λ j l. r.blank j (omega (arith, fewer));
    }
      where
        blank_old : (j : ℕ) → k ≤ j → (j ≡ k) ⊎ (j ≡ k → ⊥) → (j < length hs') ⊎ (length hs' ≤ j) → get_or hs j 0 ≡ 0
        blank_old j l (inl e) u = rw e (get_or-set_same g1 k 0 0 (omega (arith, long-hops, r.room)))
        blank_old j l (inr e) (inl u) = hop j e ∙ drawn-after 0 hs' (λ z. z + 1) y k j u l ∙ r.blank j (omega (arith, e))
        blank_old j l (inr e) (inr u) = past hs j (omega (arith, take-long-hops))
