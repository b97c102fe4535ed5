-- A graft undone by its steps: the parent's bit is cleared, the child bases after the parent are lowered, and the gap is closed.
use mathlib.Core.Path.{◌≡◌, sym, ◌∙◌, ap}
use mathlib.Core.Logic.{◌⊎◌, inl, inr}
use mathlib.Core.Bool.{false}
use mathlib.Core.List.{List}
use Prim.Native.Nat.{ℕ, zero, suc, ◌+◌, ◌-◌, ◌*◌, ◌/◌, ◌%◌, ◌^◌, ◌≤◌, ◌<◌}
use native.Mathlib.Omega.{arith}
use lib.ListN.{length, get_or, set, length-set}
use lib.Seq.{get_or-set_same, get_or-set_other}
use Rattle.bits.proofs.Bools.{below?, equal?}
use Rattle.moves.specs.Moves.{moved_down}
use Rattle.moves.proofs.Draws.{length-drawn, drawn-in, drawn-before, drawn-after}
use Rattle.tree_image.specs.Node.{bits_of, child_of, is_set, child_at}
use Rattle.tree_node.specs.NodeRuns.{WithBit}
use Rattle.tree_node.specs.Queue.{put3}
use Rattle.tree_node.proofs.Stores.{put3-length, put3-other, put3-at}
use Rattle.tree_formed.proofs.Held.{fewer-exts, exts-next, exts-mono}
use Rattle.tree_hold.specs.Moves.{each}
use Rattle.tree_hold.specs.Edits.{GraftedBits, Grafted, Prunable}
use Rattle.tree_hold.proofs.Each.{past, each-length, each_in, each-out}
use Rattle.tree_hold.proofs.GraftBits.{rank-old, rank-new, count-upto, exts-between, ints-upto}

module _ {ws' : List ℕ} {n k x c : ℕ} (r : Prunable ws' n k x c) (y : ℕ) (place : y ≡ child_at (bits_of ws' x) (child_of ws' x) c) where
  pub prune-after : x < y
  prune-after = omega (arith, place, r.words.order.child x r.parent, r.words.order.fewest x r.parent)

  pub prune-inside : y ≤ n
  prune-inside =
      omega (
        arith,
        place,
        r.words.order.child x r.parent,
        fewer-exts (bits_of ws' x) c (r.words.narrow x r.parent) r.small r.stands,
        exts-next ws' x,
        exts-mono ws' (suc x) (n + 1) r.parent,
        r.words.order.whole,
      )

  module _ (v : ℕ) (bit : WithBit v (16 + c) (bits_of ws' x)) (free : is_set v (16 + c) ≡ false) (fits : v < 2 ^ 32) where
    abbrev v1 : List ℕ
    v1 = set ws' (3 * x) v

    abbrev v2 : List ℕ
    v2 = each (λ z. z - 1) v1 1 (x + 1) (n + 1)

    abbrev v3 : List ℕ
    v3 = moved_down v2 (3 * y) (3 * n) 3

    abbrev ws : List ℕ
    ws = put3 v3 n 0 0 0

    lent : 3 * n + 3 ≤ length ws'
    lent = omega (arith, r.words.order.lent)

    long1 : length v1 ≡ length ws'
    long1 = length-set ws' (3 * x) v

    long2 : length v2 ≡ length ws'
    long2 = each-length (λ z. z - 1) v1 1 (x + 1) (n + 1) ∙ long1

    long3 : length v3 ≡ length ws'
    long3 = length-drawn 0 v2 (λ j. j + 3) (3 * y) (3 * n) ∙ long2

    pub prune-long : length ws ≡ length ws'
    prune-long = put3-length v3 n 0 0 0 ∙ long3

    lowered : (i : ℕ) → x < i → i ≤ n → child_of v2 i ≡ child_of v1 i - 1
    lowered i l u = each_in (λ z. z - 1) v1 1 (x + 1) (n + 1) i (omega arith) (omega arith) (omega arith) (omega (arith, long1, lent))

    unlowered : (j : ℕ) → (j % 3 ≡ 1 → x + 1 ≤ j / 3 → j / 3 < n + 1 → ⊥) → get_or v2 j 0 ≡ get_or v1 j 0
    unlowered j h = each-out (λ z. z - 1) v1 1 (x + 1) (n + 1) j h

    first : (j : ℕ) → (j ≡ 3 * x → ⊥) → get_or v1 j 0 ≡ get_or ws' j 0
    first j h = get_or-set_other ws' (3 * x) j v 0 h

    low : (j : ℕ) → j < 3 * y → get_or ws j 0 ≡ get_or v2 j 0
    low j l =
        put3-other v3 n 0 0 0 j (inl (omega (arith, prune-inside)))
        ∙ drawn-before 0 v2 (λ z. z + 3) (3 * y) (3 * n) j (omega (arith, long2, prune-inside, lent)) l

    high : (i d : ℕ) → d < 3 → y ≤ i → i < n → get_or ws (3 * i + d) 0 ≡ get_or v2 (3 * suc i + d) 0
    high i d u l w =
        let e : 3 * i + d + 3 ≡ 3 * suc i + d = omega arith in
        put3-other v3 n 0 0 0 (3 * i + d) (inl (omega arith))
        ∙ drawn-in 0 v2 (λ z. z + 3) (3 * y) (3 * n) (3 * i + d) (omega (arith, long2, lent)) (omega arith) (omega arith) ∙ ap (λ (z : ℕ). get_or v2 z 0) e

    -- the child base of a node is 1 or more
    base-some : (i : ℕ) → i ≤ n → 1 ≤ child_of ws' i
    base-some i l = omega (arith, r.words.order.child i (omega arith))

    old-child : (i : ℕ) → x < i → i ≤ n → child_of v2 i + 1 ≡ child_of ws' i
    old-child i l u = omega (arith, lowered i l u, first (3 * i + 1) (λ e. omega arith), base-some i u)

    parent-bits : bits_of ws x ≡ v
    parent-bits = low (3 * x) (omega (arith, prune-after)) ∙ unlowered (3 * x) (λ e a b. omega arith) ∙ get_or-set_same ws' (3 * x) v 0
        (omega (arith, lent, r.parent))

    below-bits : (i : ℕ) → i < y → (i ≡ x → ⊥) → bits_of ws i ≡ bits_of ws' i
    below-bits i l h = low (3 * i) (omega arith) ∙ unlowered (3 * i) (λ e a b. omega arith) ∙ first (3 * i) (λ e. h (omega arith))

    above-bits : (i : ℕ) → y ≤ i → i < n → bits_of ws i ≡ bits_of ws' (suc i)
    above-bits i l u =
        let e : 3 * i ≡ 3 * i + 0 = omega arith in
        let f : 3 * suc i + 0 ≡ 3 * suc i = omega arith in
        ap (λ (z : ℕ). get_or ws z 0) e ∙ high i 0 (omega arith) l u ∙ ap (λ (z : ℕ). get_or v2 z 0) f
        ∙ unlowered (3 * suc i) (λ q a b. omega arith) ∙ first (3 * suc i) (λ q. omega (arith, prune-after))

    narrow : (i : ℕ) → i < n → bits_of ws i < 2 ^ 32
    narrow i l = go (equal? i x) (below? i y)
      where
        go : (i ≡ x) ⊎ (i ≡ x → ⊥) → (i < y) ⊎ (y ≤ i) → bits_of ws i < 2 ^ 32
        go (inl e) u = rw (e, parent-bits) fits
        go (inr h) (inl u) = rw (below-bits i u h) (r.words.narrow i (omega arith))
        go (inr h) (inr u) = rw (above-bits i u l) (r.words.narrow (suc i) (omega arith))

    pruned-bits : GraftedBits ws ws' n x c y
    pruned-bits = record {
      small = r.small;
      after = prune-after;
      inside = prune-inside;
      narrow = narrow;
      free = rw parent-bits free;
      parent = rw parent-bits bit;
      below = λ i l h. sym (below-bits i l h);
      new = rw place r.bare;
      above = λ i l u. sym (above-bits i l u);
    }

    parent-child : child_of ws x ≡ child_of ws' x
    parent-child = low (3 * x + 1) (omega (arith, prune-after)) ∙ unlowered (3 * x + 1) (λ e a b. omega arith) ∙ first (3 * x + 1) (λ e. omega arith)

    -- the ones below the child's bit are as many as they were
    same_place : y ≡ child_at (bits_of ws x) (child_of ws x) c
    same_place = omega (arith, place, parent-child, rank-old pruned-bits c, rank-new pruned-bits c, count-upto pruned-bits c (omega arith))

    pub prune-done : Grafted ws ws' n x c y
    prune-done = record {
      bits = pruned-bits;
      same = sym prune-long;
      lent = r.words.order.lent;
      place = same_place;
      child_upto = λ i l. sym (low (3 * i + 1) (omega (arith, prune-after)) ∙ unlowered (3 * i + 1) (λ e a b. omega arith) ∙ first (3 * i + 1)
          (λ e. omega arith));
      child_between = λ i l u. omega (arith, low (3 * i + 1) (omega arith), old-child i l (omega (arith, prune-inside)));
      child_new =
          r.words.order.child y (omega (arith, prune-inside)) ∙ ap (λ (z : ℕ). 1 + z) (exts-between pruned-bits y prune-after (omega arith)) ∙ omega arith;
      child_above = λ i l u. omega (arith, high i 1 (omega arith) l u, old-child (suc i) (omega (arith, prune-after)) (omega arith));
      base_below = λ i l. sym (low (3 * i + 2) (omega arith) ∙ unlowered (3 * i + 2) (λ e a b. omega arith) ∙ first (3 * i + 2) (λ e. omega arith));
      base_new = r.words.order.base y (omega (arith, prune-inside)) ∙ ints-upto pruned-bits y (omega arith);
      base_above = λ i l u.
          sym (high i 2 (omega arith) l u ∙ unlowered (3 * suc i + 2) (λ e a b. omega arith) ∙ first (3 * suc i + 2) (λ e. omega arith));
      rest_old = λ j l. rest_old j l (below? j (3 * n + 3)) (below? j (length ws'));
      rest = r.words.rest;
    }
      where
        zeros : (j i : ℕ) → j ≡ 3 * n + i → i < 3 → get_or ws j 0 ≡ 0
        zeros j zero e u = let q : j ≡ 3 * n = omega arith in rw q (put3-at v3 n 0 0 0 (omega (arith, long3, lent))).0
        zeros j (suc zero) e u = rw e (put3-at v3 n 0 0 0 (omega (arith, long3, lent))).1
        zeros j (suc (suc zero)) e u = rw e (put3-at v3 n 0 0 0 (omega (arith, long3, lent))).2
        zeros j (suc (suc (suc i))) e u = absurd (omega arith)

        rest_old : (j : ℕ) → 3 * n ≤ j → (j < 3 * n + 3) ⊎ (3 * n + 3 ≤ j) → (j < length ws') ⊎ (length ws' ≤ j) → get_or ws j 0 ≡ 0
        rest_old j l (inl u) w = zeros j (j - 3 * n) (omega arith) (omega arith)
        rest_old j l (inr u) (inl w) =
            put3-other v3 n 0 0 0 j (inr u) ∙ drawn-after 0 v2 (λ z. z + 3) (3 * y) (3 * n) j (omega (arith, long2)) (omega arith)
            ∙ unlowered j (λ e a b. omega arith) ∙ first j (λ e. omega (arith, r.parent)) ∙ r.words.rest j (omega arith)
        rest_old j l (inr u) (inr w) = past ws j (omega (arith, prune-long))
