-- A hop put by its steps: the hops from its place on move up by one, and the hop bases after its node are one more.
use mathlib.Core.Path.{◌≡◌, ◌∙◌, ap, subst}
use mathlib.Core.Logic.{◌⊎◌, inl, inr}
use mathlib.Core.List.{List}
use Prim.Native.Nat.{ℕ, suc, ◌+◌, ◌-◌, ◌*◌, ◌/◌, ◌%◌, ◌^◌, ◌≤◌, ◌<◌}
use native.Mathlib.Omega.{arith}
use lib.ListN.{length, get_or, set, length-set}
use lib.Seq.{get_or-set_same, get_or-set_other}
use lib.Count.{ones}
use Rattle.bits.specs.Count.{count}
use Rattle.bits.proofs.Bools.{below?}
use Rattle.bits.proofs.Packed.{rank-count}
use Rattle.moves.specs.Moves.{moved_up}
use Rattle.moves.proofs.Draws.{length-drawn, drawn-in, drawn-before, drawn-after}
use Rattle.tree_image.specs.Node.{bits_of, is_set}
use Rattle.tree_image.proofs.Counts.{count-mono}
use Rattle.tree_node.specs.NodeRuns.{WithBit}
use Rattle.tree_same.specs.Read.{hop_place_at}
use Rattle.tree_same.specs.Order.{ints}
use Rattle.tree_formed.proofs.Held.{bit-of, ints-next, ints-mono}
use Rattle.tree_hold.specs.Moves.{each}
use Rattle.tree_hold.specs.Edits.{HopPut, Puttable}
use Rattle.tree_hold.proofs.Each.{past, each-length, each_in, each-out}

-- the internal ones below a bit are no more than all
low-le : (w b : ℕ) → b < 15 → ones (w % 2 ^ b) ≤ ones (w % 2 ^ 15)
low-le w b l =
    let e : b + (15 - b) ≡ 15 = omega arith in
    rw (rank-count w (is_set w) b (λ i u. bit-of w i), rank-count w (is_set w) 15 (λ i u. bit-of w i))
    (subst (λ (k : ℕ). count (is_set w) b ≤ count (is_set w) k) e (count-mono (is_set w) b (15 - b)))

module _ {ws hs : List ℕ} {n k x b : ℕ} (r : Puttable ws hs n k x b) (y : ℕ) (place : y ≡ hop_place_at ws x b) where
  pub put-inside : y ≤ k
  put-inside =
      omega (
        arith,
        place,
        r.words.hops,
        r.words.order.base x r.parent,
        low-le (bits_of ws x) b r.small,
        ints-next ws x,
        ints-mono ws (suc x) n r.parent,
      )

  abbrev h1 : List ℕ
  h1 = moved_up hs y k 1

  abbrev w1 : List ℕ
  w1 = each (λ z. z + 1) ws 2 (x + 1) n

  lent : 3 * n ≤ length ws
  lent = omega (arith, r.words.order.lent)

  long-hops : length h1 ≡ length hs
  long-hops = length-drawn 0 hs (λ j. j - 1) (y + 1) (k + 1)

  long-words : length w1 ≡ length ws
  long-words = each-length (λ z. z + 1) ws 2 (x + 1) n

  unraised : (j : ℕ) → (j % 3 ≡ 2 → x + 1 ≤ j / 3 → j / 3 < n → ⊥) → get_or w1 j 0 ≡ get_or ws j 0
  unraised j h = each-out (λ z. z + 1) ws 2 (x + 1) n j h

  module _ (v h : ℕ) (bit : WithBit (bits_of ws x) b v) where
    abbrev ws' : List ℕ
    ws' = set w1 (3 * x) v

    abbrev hs' : List ℕ
    hs' = set h1 y h

    pub put-long : length ws' ≡ length ws
    put-long = length-set w1 (3 * x) v ∙ long-words

    pub put-long-hops : length hs' ≡ length hs
    put-long-hops = length-set h1 y h ∙ long-hops

    kept : (j : ℕ) → (j ≡ 3 * x → ⊥) → (j % 3 ≡ 2 → x + 1 ≤ j / 3 → j / 3 < n → ⊥) → get_or ws' j 0 ≡ get_or ws j 0
    kept j e f = get_or-set_other w1 (3 * x) j v 0 e ∙ unraised j f

    hop : (j : ℕ) → (j ≡ y → ⊥) → get_or hs' j 0 ≡ get_or h1 j 0
    hop j e = get_or-set_other h1 y j h 0 e

    pub put-done : HopPut ws ws' hs hs' n x b y h
    put-done = record {
      bits = record {
        small = r.small;
        inside = r.parent;
        narrow = r.words.narrow;
        free = r.free;
        node = rw (get_or-set_same w1 (3 * x) v 0 (omega (arith, long-words, lent, r.parent))) bit;
        other = λ i l e. kept (3 * i) (λ q. e (omega arith)) (λ q a c. omega arith);
      };
      same = put-long;
      same_hops = put-long-hops;
      lent = omega (arith, put-long, r.words.order.lent);
      room = omega (arith, put-long-hops, r.room, r.words.hops);
      place = place;
      child_same = λ i l. kept (3 * i + 1) (λ q. omega arith) (λ q a c. omega arith);
      base_upto = λ i l. kept (3 * i + 2) (λ q. omega arith) (λ q a c. omega arith);
      base_after = λ i l u.
          get_or-set_other w1 (3 * x) (3 * i + 2) v 0 (λ q. omega arith) ∙ each_in (λ z. z + 1) ws 2 (x + 1) n i (omega arith) (omega arith) u
          (omega (arith, lent));
      rest_old = r.words.rest;
      rest = λ j l. kept j (λ q. omega (arith, r.parent)) (λ q a c. omega arith) ∙ r.words.rest j l;
      hops_below = λ j l. hop j (λ q. omega arith) ∙ drawn-before 0 hs (λ z. z - 1) (y + 1) (k + 1) j (omega (arith, put-inside, r.room)) (omega arith);
      hop_new = get_or-set_same h1 y h 0 (omega (arith, long-hops, put-inside, r.room));
      hops_above = λ j l u.
          let e : suc j - 1 ≡ j = omega arith in
          hop (suc j) (λ q. omega arith)
          ∙ drawn-in 0 hs (λ z. z - 1) (y + 1) (k + 1) (suc j) (omega (arith, r.room, r.words.hops)) (omega arith) (omega (arith, r.words.hops))
          ∙ ap (λ (z : ℕ). get_or hs z 0) e;
      blank_old = λ j l. r.blank j (omega (arith, r.words.hops));
      blank = λ j l. blank j l (below? j (length hs));
    }
      where
        blank : (j : ℕ) → ints ws n + 1 ≤ j → (j < length hs) ⊎ (length hs ≤ j) → get_or hs' j 0 ≡ 0
        blank j l (inl u) =
            hop j (λ q. omega (arith, put-inside, r.words.hops))
            ∙ drawn-after 0 hs (λ z. z - 1) (y + 1) (k + 1) j u (omega (arith, r.words.hops)) ∙ r.blank j (omega (arith, r.words.hops))
        blank j l (inr u) = past hs' j (omega (arith, put-long-hops))
