-- A graft made by its steps. It writes the empty node after the last one, opens a gap at the new node's place, and
-- raises the child bases after the parent: the node that is left in the gap has then the bases of the new one.
use mathlib.Core.Path.{◌≡◌, sym, ◌∙◌, ap, subst}
use mathlib.Core.Logic.{◌⊎◌, inl, inr}
use mathlib.Core.List.{List}
use Prim.Native.Nat.{ℕ, zero, suc, ◌+◌, ◌-◌, ◌*◌, ◌/◌, ◌%◌, ◌^◌, ◌≤◌, ◌<◌}
use native.Mathlib.Omega.{arith}
use lib.ListN.{length, get_or, set, length-set}
use lib.Seq.{get_or-set_same, get_or-set_other}
use lib.Pow.{shr_mod}
use lib.Count.{ones}
use Rattle.bits.specs.Count.{count}
use Rattle.bits.proofs.Bools.{below?}
use Rattle.bits.proofs.Packed.{upper-count}
use Rattle.moves.specs.Moves.{moved_up}
use Rattle.moves.proofs.Draws.{length-drawn, drawn-in, drawn-before, drawn-after}
use Rattle.tree_image.specs.Node.{bits_of, child_of, base_of, is_set, child_at}
use Rattle.tree_image.proofs.Counts.{count-mono}
use Rattle.tree_node.specs.NodeRuns.{WithBit}
use Rattle.tree_node.specs.Queue.{put3}
use Rattle.tree_node.proofs.Stores.{put3-length, put3-other, put3-at}
use Rattle.tree_same.specs.Order.{exts, ints, Order}
use Rattle.tree_formed.proofs.Held.{bit-of, exts-next, exts-mono}
use Rattle.tree_hold.specs.Moves.{each}
use Rattle.tree_hold.specs.Edits.{Grafted, Graftable}
use Rattle.tree_hold.proofs.Each.{past, each-length, each_in, each-out}

-- all nodes but the root are children
pub order-full : (ws : List ℕ) (n : ℕ) → Order ws n → n ≡ 1 + exts ws n
order-full ws zero o = absurd (omega (arith, o.whole))
order-full ws (suc i) o = omega (arith, o.whole, o.fewest i (omega arith), exts-mono ws i (suc i) (omega arith))

-- the ones below a bit are no more than all
ones-below-le : (w c : ℕ) → w < 2 ^ 32 → c < 16 → ones (w / 2 ^ 16 % 2 ^ c) ≤ ones (w / 2 ^ 16)
ones-below-le w c fit l =
    let e : c + (16 - c) ≡ 16 = omega arith in
    let a : ones (w / 2 ^ 16) ≡ count (λ i. is_set w (16 + i)) 16 = ap ones (sym (shr_mod {n = w} 16 16 fit)) ∙ upper-count w
    (λ i. is_set w (16 + i)) 16 (λ i u. bit-of w (16 + i)) in
    omega (
      arith,
      a,
      upper-count w (λ i. is_set w (16 + i)) c (λ i u. bit-of w (16 + i)),
      subst (λ (k : ℕ). count (λ i. is_set w (16 + i)) c ≤ count (λ i. is_set w (16 + i)) k) e (count-mono (λ i. is_set w (16 + i)) c (16 - c)),
    )

module _ {ws : List ℕ} {n k x c : ℕ} (r : Graftable ws n k x c) (y : ℕ) (place : y ≡ child_at (bits_of ws x) (child_of ws x) c) where
  pub graft-after : x < y
  graft-after = omega (arith, place, r.words.order.child x r.parent, r.words.order.fewest x r.parent)

  pub graft-inside : y ≤ n
  graft-inside =
      omega (
        arith,
        place,
        r.words.order.child x r.parent,
        ones-below-le (bits_of ws x) c (r.words.narrow x r.parent) r.small,
        exts-next ws x,
        exts-mono ws (suc x) n r.parent,
        r.words.order.whole,
      )

  -- the empty node after the last one; the gap; the child bases
  abbrev w1 : List ℕ
  w1 = put3 ws n 0 n k

  abbrev w2 : List ℕ
  w2 = moved_up w1 (3 * y) (3 * n) 3

  abbrev w3 : List ℕ
  w3 = each (λ z. z + 1) w2 1 (x + 1) (n + 1)

  long1 : length w1 ≡ length ws
  long1 = put3-length ws n 0 n k

  long2 : length w2 ≡ length ws
  long2 = length-drawn 0 w1 (λ j. j - 3) (3 * y + 3) (3 * n + 3) ∙ long1

  long3 : length w3 ≡ length ws
  long3 = each-length (λ z. z + 1) w2 1 (x + 1) (n + 1) ∙ long2

  -- with the empty node, n + 1 nodes have the bases of the order
  first-old : (j : ℕ) → j < 3 * n → get_or w1 j 0 ≡ get_or ws j 0
  first-old j l = put3-other ws n 0 n k j (inl l)

  first-child : (i : ℕ) → i ≤ n → child_of w1 i ≡ 1 + exts ws i
  first-child i l = go (below? i n)
    where
      go : (i < n) ⊎ (n ≤ i) → child_of w1 i ≡ 1 + exts ws i
      go (inl u) = first-old (3 * i + 1) (omega arith) ∙ r.words.order.child i u
      go (inr u) = let e : i ≡ n = omega arith in rw e ((put3-at ws n 0 n k r.room).1 ∙ order-full ws n r.words.order)

  first-base : (i : ℕ) → i ≤ n → base_of w1 i ≡ ints ws i
  first-base i l = go (below? i n)
    where
      go : (i < n) ⊎ (n ≤ i) → base_of w1 i ≡ ints ws i
      go (inl u) = first-old (3 * i + 2) (omega arith) ∙ r.words.order.base i u
      go (inr u) = let e : i ≡ n = omega arith in rw e ((put3-at ws n 0 n k r.room).2 ∙ r.words.hops)

  low : (j : ℕ) → j < 3 * y + 3 → get_or w2 j 0 ≡ get_or w1 j 0
  low j l = drawn-before 0 w1 (λ z. z - 3) (3 * y + 3) (3 * n + 3) j (omega (arith, long1, graft-inside, r.room)) l

  high : (i d : ℕ) → d < 3 → y ≤ i → i < n → get_or w2 (3 * suc i + d) 0 ≡ get_or ws (3 * i + d) 0
  high i d u l v =
      let e : 3 * suc i + d - 3 ≡ 3 * i + d = omega arith in
      drawn-in 0 w1 (λ z. z - 3) (3 * y + 3) (3 * n + 3) (3 * suc i + d) (omega (arith, long1, r.room)) (omega arith) (omega arith)
      ∙ ap (λ (z : ℕ). get_or w1 z 0) e ∙ first-old (3 * i + d) (omega arith)

  -- no child base is more than the number of nodes
  pub graft-few : (i : ℕ) → i ≤ n → child_of w2 i ≤ n
  graft-few i l = go (below? i (suc y)) (later i)
    where
      later : (j : ℕ) → y < j → j ≤ n → child_of w2 j ≤ n
      later zero u v = absurd (omega arith)
      later (suc j) u v =
          omega (
            arith,
            high j 1 (omega arith) (omega arith) (omega arith),
            r.words.order.child j (omega arith),
            exts-mono ws j n
                (omega arith),
            r.words.order.whole,
          )

      go : (i < suc y) ⊎ (suc y ≤ i) → (y < i → i ≤ n → child_of w2 i ≤ n) → child_of w2 i ≤ n
      go (inl u) f = omega (arith, low (3 * i + 1) (omega arith), first-child i l, exts-mono ws i n l, r.words.order.whole)
      go (inr u) f = f (omega arith) l

  -- every base after the parent is one more, no other word is touched
  raised : (i : ℕ) → x < i → i ≤ n → child_of w3 i ≡ child_of w2 i + 1
  raised i l u = each_in (λ z. z + 1) w2 1 (x + 1) (n + 1) i (omega arith) (omega arith) (omega arith) (omega (arith, long2, r.room))

  unraised : (j : ℕ) → (j % 3 ≡ 1 → x + 1 ≤ j / 3 → j / 3 < n + 1 → ⊥) → get_or w3 j 0 ≡ get_or w2 j 0
  unraised j h = each-out (λ z. z + 1) w2 1 (x + 1) (n + 1) j h

  module _ (v : ℕ) (bit : WithBit (bits_of ws x) (16 + c) v) where
    abbrev ws' : List ℕ
    ws' = set (set w3 (3 * y) 0) (3 * x) v

    kept : (j : ℕ) → (j ≡ 3 * x → ⊥) → (j ≡ 3 * y → ⊥) → get_or ws' j 0 ≡ get_or w3 j 0
    kept j a b = get_or-set_other (set w3 (3 * y) 0) (3 * x) j v 0 a ∙ get_or-set_other w3 (3 * y) j 0 0 b

    pub graft-long : length ws' ≡ length ws
    graft-long = simp length-set long3

    -- the first word of a node
    old-bits : (i : ℕ) → i < y → (i ≡ x → ⊥) → bits_of ws' i ≡ bits_of ws i
    old-bits i l h =
        kept (3 * i) (λ e. h (omega arith)) (λ e. omega arith) ∙ unraised (3 * i) (λ e a b. omega arith) ∙ low (3 * i) (omega arith)
        ∙ first-old (3 * i) (omega (arith, graft-inside))

    new-bits : bits_of ws' y ≡ 0
    new-bits = get_or-set_other (set w3 (3 * y) 0) (3 * x) (3 * y) v 0 (λ e. omega (arith, graft-after)) ∙ get_or-set_same w3 (3 * y) 0 0
        (omega (arith, long3, graft-inside, r.room))

    moved-bits : (i : ℕ) → y ≤ i → i < n → bits_of ws' (suc i) ≡ bits_of ws i
    moved-bits i l u =
        let e : 3 * suc i ≡ 3 * suc i + 0 = omega arith in
        let f : 3 * i + 0 ≡ 3 * i = omega arith in
        kept (3 * suc i) (λ q. omega (arith, graft-after)) (λ q. omega arith) ∙ unraised (3 * suc i) (λ q a b. omega arith)
        ∙ ap (λ (z : ℕ). get_or w2 z 0) e ∙ high i 0 (omega arith) l u ∙ ap (λ (z : ℕ). get_or ws z 0) f

    parent-bits : bits_of ws' x ≡ v
    parent-bits = get_or-set_same (set w3 (3 * y) 0) (3 * x) v 0 (simp length-set (omega (arith, long3, r.parent, r.room)))

    pub graft-done : Grafted ws ws' n x c y
    graft-done = record {
      bits = record {
        small = r.small;
        after = graft-after;
        inside = graft-inside;
        narrow = r.words.narrow;
        free = r.free;
        parent = rw parent-bits bit;
        below = old-bits;
        new = new-bits;
        above = moved-bits;
      };
      same = graft-long;
      lent = omega (arith, graft-long, r.room);
      place = place;
      child_upto = λ i l.
          kept (3 * i + 1) (λ e. omega arith) (λ e. omega arith) ∙ unraised (3 * i + 1) (λ e a b. omega arith) ∙ low (3 * i + 1) (omega (arith, graft-after))
          ∙ first-old (3 * i + 1) (omega (arith, r.parent));
      child_between = λ i l u.
          kept (3 * i + 1) (λ e. omega arith) (λ e. omega arith) ∙ raised i l (omega (arith, graft-inside))
          ∙ ap (λ (z : ℕ). z + 1) (low (3 * i + 1) (omega arith) ∙ first-old (3 * i + 1) (omega (arith, graft-inside)));
      child_new =
          kept (3 * y + 1) (λ e. omega arith) (λ e. omega arith) ∙ raised y graft-after graft-inside
          ∙ ap (λ (z : ℕ). z + 1) (low (3 * y + 1) (omega arith) ∙ first-child y graft-inside);
      child_above = λ i l u.
          kept (3 * suc i + 1) (λ e. omega arith) (λ e. omega arith) ∙ raised (suc i) (omega (arith, graft-after)) (omega arith)
          ∙ ap (λ (z : ℕ). z + 1) (high i 1 (omega arith) l u);
      base_below = λ i l.
          kept (3 * i + 2) (λ e. omega arith) (λ e. omega arith) ∙ unraised (3 * i + 2) (λ e a b. omega arith) ∙ low (3 * i + 2) (omega arith)
          ∙ first-old (3 * i + 2) (omega (arith, graft-inside));
      base_new =
          kept (3 * y + 2) (λ e. omega arith) (λ e. omega arith) ∙ unraised (3 * y + 2) (λ e a b. omega arith) ∙ low (3 * y + 2) (omega arith)
          ∙ first-base y graft-inside;
      base_above = λ i l u.
          kept (3 * suc i + 2) (λ e. omega arith) (λ e. omega arith) ∙ unraised (3 * suc i + 2) (λ e a b. omega arith) ∙ high i 2 (omega arith) l u;
      rest_old = r.words.rest;
      rest = λ j l. rest j l (below? j (length ws));
    }
      where
        rest : (j : ℕ) → 3 * (n + 1) ≤ j → (j < length ws) ⊎ (length ws ≤ j) → get_or ws' j 0 ≡ 0
        rest j l (inl u) =
            kept j (λ e. omega (arith, r.parent)) (λ e. omega (arith, graft-inside)) ∙ unraised j (λ e a b. omega arith)
            ∙ drawn-after 0 w1 (λ z. z - 3) (3 * y + 3) (3 * n + 3) j (omega (arith, long1)) (omega arith)
            ∙ put3-other ws n 0 n k j (inr (omega arith)) ∙ r.words.rest j (omega arith)
        rest j l (inr u) = past ws' j (omega (arith, graft-long))
