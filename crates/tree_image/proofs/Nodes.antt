-- The nodes of an image in their order, its words and its hops by their places.
use mathlib.Core.Path.{◌≡◌, refl, sym, ◌∙◌, ap, subst}
use mathlib.Core.Logic.{◌⊎◌, inl, inr}
use mathlib.Core.Bool.{Bool, true, false, cond}
use mathlib.Core.List.{List, [], ◌∷◌, ◌++◌, append-nil}
use Prim.Native.Nat.{ℕ, zero, suc, ◌+◌, ◌-◌, ◌*◌, ◌≤◌, ◌<◌}
use native.Mathlib.Nat.{le_of_suc-le-suc, not-suc-le-zero, add-zero, add-suc, add_assoc, le_refl}
use native.Mathlib.Numerals.{add-one}
use native.Mathlib.Omega.{arith}
use lib.Dec.{ltb}
use lib.ListN.{length, get_or, take, length-append, get_or-append}
use lib.Seq.{get_or-append-add, take-length, take-append-le}
use borrow.Author.Tests.{lt-ltb, le-ltb, ltb-true, ltb-false}
use Rattle.bits.proofs.Bools.{decided}
use Rattle.bits.specs.Bit.{bit_at}
use Rattle.bits.specs.Count.{bit}
use Rattle.tree_image.specs.Parts.{picked, gather, before}
use Rattle.tree_image.specs.Image.{Node, node, child, inner, set_bit, word, kids, hops_of, level, up_to, nodes, words_from}
use Rattle.bits.proofs.Packed.{packed-bit}
use Rattle.tree_image.proofs.Parts.{picked_none, gather_append, before-take, before-mono}

-- each node has the depth m
unfoldable pub Deep : ℕ → List Node → Type 0
Deep m [] = Unit
Deep m (n ∷ ns) = (n.depth ≡ m) × Deep m ns

deep-append : (m : ℕ) (xs ys : List Node) → Deep m xs → Deep m ys → Deep m (xs ++ ys)
unfolding Deep
deep-append m [] ys a b = b
deep-append m (x ∷ xs) ys a b = (a.0, deep-append m xs ys a.1 b)

deep-picked : (m : ℕ) (f : ℕ → Bool) (g : ℕ → Node) (n : ℕ) → ((i : ℕ) → (g i).depth ≡ m) → Deep m (picked f g n)
unfolding Deep picked
deep-picked m f g zero h = tt
deep-picked m f g (suc n) h = deep-append m (picked f g n) (cond (f n) (g n ∷ []) []) (deep-picked m f g n h) (one (f n))
  where
    one : (b : Bool) → Deep m (cond b (g n ∷ []) [])
    one true = (h n, tt)
    one false = tt

pub deep-at : (m : ℕ) (xs : List Node) (i : ℕ) (d : Node) → Deep m xs → i < length xs → (get_or xs i d).depth ≡ m
unfolding Deep
deep-at m [] i d h l = absurd (not-suc-le-zero l)
deep-at m (x ∷ xs) zero d h l = h.0
deep-at m (x ∷ xs) (suc i) d h l = deep-at m xs i d h.1 (le_of_suc-le-suc l)

module _ (st : ℕ → ℕ → Bool) where
  deep-gather : (m : ℕ) (ns : List Node) → Deep m ns → Deep (m + 1) (gather (kids st) ns)
  unfolding Deep gather kids
  deep-gather m [] h = tt
  deep-gather m (n ∷ ns) h = deep-append (m + 1) (kids st n) (gather (kids st) ns)
      (deep-picked (m + 1) (child st n) _ 16 (λ i. ap (λ (x : ℕ). x + 1) h.0)) (deep-gather m ns h.1)

  pub level-deep : (m : ℕ) → Deep m (level st m)
  unfolding Deep level
  level-deep zero = (refl, tt)
  level-deep (suc m) = subst (λ (x : ℕ). Deep x (gather (kids st) (level st m))) (add-one m) (deep-gather m (level st m) (level-deep m))

  -- the queue: every node but the root is a child, in the order of the parents
  pub up_next : (m : ℕ) → up_to st (suc m) ≡ node 0 0 ∷ gather (kids st) (up_to st m)
  unfolding up_to level gather
  up_next zero = refl
  up_next (suc m) =
      ap (λ (l : List Node). l ++ gather (kids st) (level st m)) (up_next m)
      ∙ ap (λ (l : List Node). node 0 0 ∷ l) (sym (gather_append (kids st) (up_to st m) (level st m)))

  no_kids : ((p : ℕ) → st 9 p ≡ false) → (ns : List Node) → Deep 8 ns → gather (kids st) ns ≡ []
  unfolding Deep gather kids
  no_kids z [] h = refl
  no_kids z (n ∷ ns) h =
      let d : n.depth + 1 ≡ 9 = omega (arith, h.0) in
      let e : (i : ℕ) → i < 16 → child st n i ≡ false = λ i l. rw d (z (n.path * 16 + i)) in
      rw (picked_none (child st n) (λ c. node (n.depth + 1) (n.path * 16 + c)) 16 e) (no_kids z ns h.1)

  pub nodes-fix : ((p : ℕ) → st 9 p ≡ false) → nodes st ≡ node 0 0 ∷ gather (kids st) (nodes st)
  unfolding up_to
  nodes-fix z =
      up_next 8
      ∙ ap (λ (l : List Node). node 0 0 ∷ l)
      (sym
      (gather_append (kids st) (up_to st 8) (level st 8)
      ∙ ap (λ (l : List Node). gather (kids st) (up_to st 8) ++ l) (no_kids z (level st 8) (level-deep 8))
      ∙ append-nil (gather (kids st) (up_to st 8))))

  -- no node is deeper than the last level
  pub depth-lt : (k i : ℕ) (d : Node) → i < length (up_to st k) → (get_or (up_to st k) i d).depth < k
  unfolding up_to
  depth-lt zero i d l = absurd (not-suc-le-zero l)
  depth-lt (suc k) i d l = go (decided (ltb i (length (up_to st k)))) (λ u. depth-lt k i d u)
    where
      go : (ltb i (length (up_to st k)) ≡ true) ⊎ (ltb i (length (up_to st k)) ≡ false) → (i < length (up_to st k) → (get_or (up_to st k) i d).depth < k)
          → (get_or (up_to st k ++ level st k) i d).depth < suc k
      go (inl t) ih =
          let u = ltb-true i (length (up_to st k)) t in
          rw (get_or-append (up_to st k) (level st k) d i u) (omega (arith, ih u))
      go (inr t) ih =
          let u = ltb-false i (length (up_to st k)) t in
          let e : i ≡ length (up_to st k) + (i - length (up_to st k)) = omega arith in
          let v : i - length (up_to st k) < length (level st k) = omega (arith, length-append (up_to st k) (level st k)) in
          let q = ap (λ (x : ℕ). get_or (up_to st k ++ level st k) x d) e ∙ get_or-append-add (up_to st k) (level st k) (i - length (up_to st k)) d in
          rw q (omega (arith, deep-at k (level st k) (i - length (up_to st k)) d (level-deep k) v))

  -- the nodes of the first levels come first
  prefix : (k j : ℕ) → take (length (up_to st k)) (up_to st (k + j)) ≡ up_to st k
  unfolding up_to
  prefix k zero = rw add-zero (take-length (up_to st k))
  prefix k (suc j) = rw add-suc (take-append-le (length (up_to st k)) (up_to st (k + j)) (level st (k + j)) (longer k j) ∙ prefix k j)
    where
      longer : (k j : ℕ) → length (up_to st k) ≤ length (up_to st (k + j))
      longer k zero = rw add-zero (le_refl (length (up_to st k)))
      longer k (suc j) = rw (add-suc, length-append) (omega (arith, longer k j))

  none_at_all : length (up_to st 0) ≡ 0
  unfolding up_to
  none_at_all = refl

  -- the queue's end stays ahead: each node has been named before its turn
  pub ahead : (k x : ℕ) → k ≤ 9 → x < length (up_to st k) → x ≤ before (kids st) (nodes st) x
  ahead zero x h l = absurd (omega (arith, none_at_all))
  ahead (suc k) x h l = go (decided (ltb x (length (up_to st k)))) (λ u. ahead k x (omega arith) u)
    where
      sum : k + (9 - k) ≡ 9
      sum = omega arith

      own : length (gather (kids st) (up_to st k)) ≡ before (kids st) (nodes st) (length (up_to st k))
      own = ap (λ (l : List Node). length (gather (kids st) l)) (sym (rw sum at (prefix k (9 - k)))) ∙ before-take (kids st) (nodes st) (length (up_to st k))

      go : (ltb x (length (up_to st k)) ≡ true) ⊎ (ltb x (length (up_to st k)) ≡ false) → (x < length (up_to st k) → x ≤ before (kids st) (nodes st) x)
          → x ≤ before (kids st) (nodes st) x
      go (inl t) ih = ih (ltb-true x (length (up_to st k)) t)
      go (inr t) ih = omega (arith, own, ap length (up_next k), before-mono (kids st) (nodes st) (length (up_to st k)) x (ltb-false x (length (up_to st k)) t))

module _ (st : ℕ → ℕ → Bool) (hop : ℕ → ℕ → ℕ) where
  -- ---- the words of node i

  pub words-length : (ns : List Node) (c h : ℕ) → length (words_from st hop ns c h) ≡ 3 * length ns
  unfolding words_from
  words-length [] c h = refl
  words-length (n ∷ ns) c h = omega (arith, words-length ns (c + length (kids st n)) (h + length (hops_of hop n)))

  pub words-at : (ns : List Node) (c h i : ℕ) (d : Node) → i < length ns
      → (get_or (words_from st hop ns c h) (3 * i) 0 ≡ word st hop (get_or ns i d))
      × (get_or (words_from st hop ns c h) (3 * i + 1) 0 ≡ c + before (kids st) ns i)
      × (get_or (words_from st hop ns c h) (3 * i + 2) 0 ≡ h + before (hops_of hop) ns i)
  unfolding words_from before
  words-at [] c h i d l = absurd (not-suc-le-zero l)
  words-at (n ∷ ns) c h zero d l = (refl, sym (add-zero c), sym (add-zero h))
  words-at (n ∷ ns) c h (suc i) d l =
      let e : 3 * suc i ≡ suc (suc (suc (3 * i))) = omega arith in
      let e1 : 3 * suc i + 1 ≡ suc (suc (suc (3 * i + 1))) = omega arith in
      let e2 : 3 * suc i + 2 ≡ suc (suc (suc (3 * i + 2))) = omega arith in
      let ih = words-at ns (c + length (kids st n)) (h + length (hops_of hop n)) i d (le_of_suc-le-suc l) in
      (rw e ih.0, rw e1 (ih.1 ∙ add_assoc c _ _), rw e2 (ih.2 ∙ add_assoc h _ _))

  -- ---- the bits of a word

  word-bit : (n : Node) (b : ℕ) → b < 32 → bit_at (word st hop n) b ≡ bit (set_bit st hop n b)
  unfolding word
  word-bit n b l = packed-bit (set_bit st hop n) 32 b l

  pub inner-bit : (n : Node) (b : ℕ) → b < 15 → bit_at (word st hop n) b ≡ bit (inner hop n b)
  unfolding set_bit
  inner-bit n b l = word-bit n b (omega arith) ∙ rw (lt-ltb b 15 l)

  pub clear-bit : (n : Node) → bit_at (word st hop n) 15 ≡ 0
  unfolding set_bit
  clear-bit n = word-bit n 15 (omega arith)

  pub child-bit : (n : Node) (c : ℕ) → c < 16 → bit_at (word st hop n) (16 + c) ≡ bit (child st n c)
  unfolding set_bit
  child-bit n c l =
      let e : (16 + c) - 16 ≡ c = omega arith in
      word-bit n (16 + c) (omega arith) ∙ rw (le-ltb (16 + c) 15 (omega arith), le-ltb (16 + c) 16 (omega arith), e)

  pub set-child : (n : Node) (i : ℕ) → set_bit st hop n (16 + i) ≡ child st n i
  unfolding set_bit
  set-child n i =
      let e : (16 + i) - 16 ≡ i = omega arith in
      rw (le-ltb (16 + i) 15 (omega arith), le-ltb (16 + i) 16 (omega arith), e)

  pub set-inner : (n : Node) (i : ℕ) → i < 15 → set_bit st hop n i ≡ inner hop n i
  unfolding set_bit
  set-inner n i l = rw (lt-ltb i 15 l)
