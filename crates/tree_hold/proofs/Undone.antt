-- An edit and its reverse by one law. What an edit leaves determines what it came from; and an image with one node or one hop more is what
-- the edit makes of the image without it. So an edit read backwards leaves that image.
use mathlib.Core.Path.{◌≡◌, refl, sym, ◌∙◌, ap, ap₂, subst}
use mathlib.Core.Logic.{◌⊎◌, inl, inr}
use mathlib.Core.Bool.{Bool, true, false, cond}
use mathlib.Core.List.{List, ◌++◌, append-nil}
use Prim.Native.Nat.{ℕ, zero, suc, ◌+◌, ◌-◌, ◌*◌, ◌/◌, ◌%◌, ◌^◌, ◌≤◌, ◌<◌}
use native.Mathlib.Omega.{arith}
use lib.Dec.{eqb}
use lib.ListN.{length, get_or, replicate}
use lib.Seq.{ext_get_or}
use borrow.Author.Tests.{ne_eqb}
use Rattle.bits.specs.Bit.{bit_at}
use Rattle.bits.specs.Count.{bit}
use Rattle.bits.proofs.Bools.{below?, equal?}
use Rattle.tree_image.specs.Node.{bits_of, child_of, base_of, is_set, child_at}
use Rattle.tree_image.specs.Parts.{zero_padded}
use Rattle.tree_image.specs.Image.{node, child, nodes, words, hops, Image, image_by}
use Rattle.tree_image.proofs.Nodes.{child-bit, words-length}
use Rattle.tree_image.proofs.Holds.{pad-length}
use Rattle.tree_node.specs.NodeRuns.{WithBit}
use Rattle.tree_node.proofs.Marks.{with-bit, word-bits}
use Rattle.tree_same.specs.Read.{reached}
use Rattle.tree_same.specs.Order.{ints, stands_at}
use Rattle.tree_same.specs.Holding.{Holding}
use Rattle.tree_same.proofs.Back.{Shaped, bit-set-is}
use Rattle.tree_same.proofs.Holdings.{nodes-are, hops-are, holds-image, stands-found, image-holding}
use Rattle.tree_formed.proofs.Held.{bit-of}
use Rattle.tree_hold.specs.More.{also}
use Rattle.tree_hold.specs.Edits.{Grafted, Graftable, HopPut}
use Rattle.tree_hold.proofs.Holds.{held-words}
use Rattle.tree_hold.proofs.GraftBits.{rank-old, rank-new, count-upto}
use Rattle.tree_hold.proofs.Grafts.{moved-low, all-ints, leads-moved, graft-holds}
use Rattle.tree_hold.proofs.GraftMade.{graft-done}
use Rattle.tree_hold.proofs.Puts as puts

-- ---- what was there before is determined

-- a word by the word with one bit more
same_word : {v w b r : ℕ} → WithBit v b r → WithBit w b r → is_set v b ≡ false → is_set w b ≡ false → v < 2 ^ 32 → w < 2 ^ 32 → v ≡ w
same_word {v} {w} {b} {r} p q f g l u =
    word-bits v (is_set w) l (λ k a. bit-of v k ∙ ap bit (go k (equal? k b))) ∙ sym (word-bits w (is_set w) u (λ k a. bit-of w k))
  where
    go : (k : ℕ) → (k ≡ b) ⊎ (k ≡ b → ⊥) → is_set v k ≡ is_set w k
    go k (inl e) = rw e (f ∙ sym g)
    go k (inr n) = ap (λ (z : ℕ). eqb z 1) (sym (other p) ∙ other q)
      where
        other : {x : ℕ} → WithBit x b r → bit_at r k ≡ bit_at x k
        other {x} z = z.bits k ∙ ap (λ (t : Bool). cond t 1 (bit_at x k)) (ne_eqb k b n)

-- two lists of words that agree node by node, and have zeros after
same-words : (a b : List ℕ) (n : ℕ) → length a ≡ length b →
    ((i : ℕ) → i < n → (bits_of a i ≡ bits_of b i) × (child_of a i ≡ child_of b i) × (base_of a i ≡ base_of b i))
    → ((j : ℕ) → 3 * n ≤ j → get_or a j 0 ≡ 0) → ((j : ℕ) → 3 * n ≤ j → get_or b j 0 ≡ 0) → a ≡ b
same-words a b n e f za zb = ext_get_or 0 a b e (λ j u. go j (below? j (3 * n)))
  where
    at : (j i r : ℕ) → j ≡ 3 * i + r → r < 3 → i < n → get_or a j 0 ≡ get_or b j 0
    at j i zero q u l = let z : j ≡ 3 * i = omega arith in rw z (f i l).0
    at j i (suc zero) q u l = rw q (f i l).1
    at j i (suc (suc zero)) q u l = rw q (f i l).2
    at j i (suc (suc (suc r))) q u l = absurd (omega arith)

    go : (j : ℕ) → (j < 3 * n) ⊎ (3 * n ≤ j) → get_or a j 0 ≡ get_or b j 0
    go j (inl l) = at j (j / 3) (j % 3) (omega arith) (omega arith) (omega arith)
    go j (inr l) = za j l ∙ sym (zb j l)

pub graft-back : {a b ws' : List ℕ} {n x c y : ℕ} → Grafted a ws' n x c y → Grafted b ws' n x c y → a ≡ b
graft-back {a} {b} {ws'} {n} {x} {c} {y} g h = same-words a b n (sym g.same ∙ h.same)
    (λ i l. (bits i l (equal? i x) (below? i y), child i l (below? x i) (below? i y), base i l (below? i y))) g.rest_old h.rest_old
  where
    bits : (i : ℕ) → i < n → (i ≡ x) ⊎ (i ≡ x → ⊥) → (i < y) ⊎ (y ≤ i) → bits_of a i ≡ bits_of b i
    bits i l (inl e) u =
        rw e (same_word g.bits.parent h.bits.parent g.bits.free h.bits.free (g.bits.narrow x (omega (arith, e)))
        (h.bits.narrow x (omega (arith, e))))
    bits i l (inr e) (inl u) = sym (g.bits.below i u e) ∙ h.bits.below i u e
    bits i l (inr e) (inr u) = sym (g.bits.above i u l) ∙ h.bits.above i u l

    child : (i : ℕ) → i < n → (x < i) ⊎ (i ≤ x) → (i < y) ⊎ (y ≤ i) → child_of a i ≡ child_of b i
    child i l (inr e) u = sym (g.child_upto i e) ∙ h.child_upto i e
    child i l (inl e) (inl u) = omega (arith, g.child_between i e u, h.child_between i e u)
    child i l (inl e) (inr u) = omega (arith, g.child_above i u l, h.child_above i u l)

    base : (i : ℕ) → i < n → (i < y) ⊎ (y ≤ i) → base_of a i ≡ base_of b i
    base i l (inl u) = sym (g.base_below i u) ∙ h.base_below i u
    base i l (inr u) = sym (g.base_above i u l) ∙ h.base_above i u l

pub put_back : {a b ws' ha hb hs' : List ℕ} {n x t y h k : ℕ} → HopPut a ws' ha hs' n x t y h → HopPut b ws' hb hs' n x t y k → (a ≡ b) × (ha ≡ hb)
put_back {a} {b} {ws'} {ha} {hb} {hs'} {n} {x} {t} {y} {h} {k} g f =
    let e = words_same in
    (e, ext_get_or 0 ha hb (sym g.same_hops ∙ f.same_hops) (λ j u. go j (ap (λ (v : List ℕ). ints v n) e) (below? j y) (below? j (ints a n))))
  where
    bits : (i : ℕ) → i < n → (i ≡ x) ⊎ (i ≡ x → ⊥) → bits_of a i ≡ bits_of b i
    bits i l (inl e) =
        rw e (same_word g.bits.node f.bits.node g.bits.free f.bits.free (g.bits.narrow x g.bits.inside)
        (f.bits.narrow x f.bits.inside))
    bits i l (inr e) = sym (g.bits.other i l e) ∙ f.bits.other i l e

    base : (i : ℕ) → i < n → (x < i) ⊎ (i ≤ x) → base_of a i ≡ base_of b i
    base i l (inr e) = sym (g.base_upto i e) ∙ f.base_upto i e
    base i l (inl e) = omega (arith, g.base_after i e l, f.base_after i e l)

    words_same : a ≡ b
    words_same =
        same-words a b n (sym g.same ∙ f.same)
        (λ i l. (bits i l (equal? i x), sym (g.child_same i l) ∙ f.child_same i l, base i l (below? x i))) g.rest_old f.rest_old

    go : (j : ℕ) → ints a n ≡ ints b n → (j < y) ⊎ (y ≤ j) → (j < ints a n) ⊎ (ints a n ≤ j) → get_or ha j 0 ≡ get_or hb j 0
    go j e (inl l) u = sym (g.hops_below j l) ∙ f.hops_below j l
    go j e (inr l) (inl u) = sym (g.hops_above j l u) ∙ f.hops_above j l (omega arith)
    go j e (inr l) (inr u) = g.blank_old j u ∙ sym (f.blank_old j (omega arith))

-- ---- images in arrays of one size

-- arrays that hold the same routes and have the same sizes are the same
pub same-held : {st : ℕ → ℕ → Bool} {hop : ℕ → ℕ → ℕ} {ws vs hs gs : List ℕ} {n m : ℕ} → ((p : ℕ) → st 9 p ≡ false) → Holding st hop ws hs n
    → Holding st hop vs gs m
    → length ws ≡ length vs → length hs ≡ length gs → (ws ≡ vs) × (hs ≡ gs)
same-held {st} {hop} {ws} {vs} {hs} {gs} {n} {m} nine a b e f =
    let i = holds-image st hop ws hs n nine a in
    let j = holds-image st hop vs gs m nine b in
    let q : image_by st hop (length ws) (length hs) ≡ image_by st hop (length vs) (length gs) = ap₂ (λ (x y : ℕ). image_by st hop x y) e f in
    (i.0 ∙ ap (λ (x : Image). x.words) q ∙ sym j.0, i.1 ∙ ap (λ (x : Image). x.hops) q ∙ sym j.1)

-- a list that fills its room
full : (xs : List ℕ) → zero_padded (length xs) xs ≡ xs
full xs = let z : length xs - length xs ≡ 0 = omega arith in ap (λ (k : ℕ). xs ++ replicate k 0) z ∙ append-nil xs

pub image-sizes : (st : ℕ → ℕ → Bool) (hop : ℕ → ℕ → ℕ) (w h : ℕ) → 3 * length (nodes st) ≤ w → length (hops st hop) ≤ h
    → (length (image_by st hop w h).words ≡ w) × (length (image_by st hop w h).hops ≡ h)
unfolding image_by words
image-sizes st hop w h a b = (pad-length w (words st hop) (omega (arith, words-length st hop (nodes st) 1 0)), pad-length h (hops st hop) b)

-- ---- one node more

module _ {st : ℕ → ℕ → Bool} {hop : ℕ → ℕ → ℕ} (m p c : ℕ) (fits : Shaped st hop) (deep : m < 8) (small : c < 16) (stood : stands_at st m p ≡ true)
    (absent : st (suc m) (p * 16 + c) ≡ false) where
  abbrev st' : ℕ → ℕ → Bool
  st' = also st (suc m) (p * 16 + c)

  pub also-nine : (q : ℕ) → st' 9 q ≡ false
  unfolding also
  also-nine q = rw (fits.agree.nine q, ne_eqb 9 (suc m) (λ e. omega arith)) refl

  -- the image without the node can be grafted, and then is the image with it
  module _ (w h : ℕ) (room : 3 * length (nodes st) + 3 ≤ w) (space : length (hops st hop) ≤ h) where
    abbrev old : Image
    old = image_by st hop w h

    sizes : (length old.words ≡ w) × (length old.hops ≡ h)
    sizes = image-sizes st hop w h (omega arith) space

    held : Holding st hop old.words old.hops (length (nodes st))
    held = image-holding st hop fits w h (omega arith) space

    abbrev x : ℕ
    x = reached old.words m p

    inside : x < length (nodes st)
    inside = (stands-found st hop old.words old.hops (length (nodes st)) fits held m p stood).0

    none : child st (node m p) c ≡ false
    none = let e : m + 1 ≡ suc m = omega arith in ap (λ (z : ℕ). st z (p * 16 + c)) e ∙ absent

    ready : Graftable old.words (length (nodes st)) (ints old.words (length (nodes st))) x c
    ready = record {
      words = held-words fits.agree.nine held;
      parent = inside;
      small = small;
      free = bit-set-is (bits_of old.words x) (16 + c) false
          (ap (λ (z : ℕ). bit_at z (16 + c)) (held.right m p stood) ∙ child-bit st hop (node m p) c small ∙ ap bit none);
      room = omega (arith, sizes.0);
    }

    made : (ws' : List ℕ) × (y : ℕ) × Grafted old.words ws' (length (nodes st)) x c y
    made =
        let v = with-bit (bits_of old.words x) (16 + c) (ready.words.narrow x inside) (omega arith) in
        (_, _, graft-done ready (child_at (bits_of old.words x) (child_of old.words x) c) refl _ v)

    grafted : Holding st' hop made.0 old.hops (length (nodes st) + 1)
    grafted = graft-holds m p fits held made.2 stood refl deep absent

    same-ints : ints made.0 (length (nodes st) + 1) ≡ ints old.words (length (nodes st))
    same-ints = all-ints m p fits held made.2 stood refl deep absent

  -- so there is one node more, and the hops are the same
  pub also-nodes : length (nodes st') ≡ length (nodes st) + 1
  also-nodes =
      let w : ℕ = 3 * length (nodes st) + 3 in
      let h : ℕ = length (hops st hop) in
      sym (nodes-are st' hop _ _ _ also-nine (grafted (3 * length (nodes st) + 3) (length (hops st hop)) (omega arith) (omega arith)))

  pub also-hops : hops st' hop ≡ hops st hop
  unfolding image_by
  also-hops =
      let w : ℕ = 3 * length (nodes st) + 3 in
      let h : ℕ = length (hops st hop) in
      let g = grafted w h (omega arith) (omega arith) in
      let i = (holds-image st' hop _ _ _ also-nine g).1 in
      let s = sizes w h (omega arith) (omega arith) in
      let k : length (hops st' hop) ≡ length (hops st hop) =
      sym (hops-are st' hop _ _ _ also-nine g) ∙ same-ints w h (omega arith) (omega arith) ∙ hops-are st hop _ _ _ fits.agree.nine
      (held w h (omega arith) (omega arith)) in
      sym (full (hops st' hop)) ∙ ap (λ (z : ℕ). zero_padded z (hops st' hop)) (k ∙ sym s.1) ∙ sym i ∙ full (hops st hop)

  -- and taking the node away leaves the image without it
  module _ {ws ws' hs : List ℕ} {n x₁ y : ℕ} (h : Holding st' hop ws' hs (n + 1)) (g : Grafted ws ws' n x₁ c y) (at : x₁ ≡ reached ws' m p) where
    count-is : n ≡ length (nodes st)
    count-is = omega (arith, nodes-are st' hop ws' hs (n + 1) also-nine h, also-nodes)

    room : 3 * length (nodes st) + 3 ≤ length ws'
    room = omega (arith, count-is, h.order.lent)

    space : length (hops st hop) ≤ length hs
    space = omega (arith, h.room, hops-are st' hop ws' hs (n + 1) also-nine h, ap length also-hops)

    abbrev ws₀ : List ℕ
    ws₀ = (old (length ws') (length hs) room space).words

    abbrev hs₀ : List ℕ
    hs₀ = (old (length ws') (length hs) room space).hops

    abbrev x₀ : ℕ
    x₀ = x (length ws') (length hs) room space

    abbrev y₀ : ℕ
    y₀ = (made (length ws') (length hs) room space).1

    held₀ : Holding st hop ws₀ hs₀ (length (nodes st))
    held₀ = held (length ws') (length hs) room space

    -- what the graft makes of the image without the node is what is held
    made-is : ((made (length ws') (length hs) room space).0 ≡ ws') × (hs₀ ≡ hs)
    made-is =
        let k = made (length ws') (length hs) room space in
        let s = sizes (length ws') (length hs) room space in
        same-held also-nine (grafted (length ws') (length hs) room space) h (k.2.same ∙ s.0) s.1

    same-node : x₀ ≡ x₁
    same-node =
        let k = made (length ws') (length hs) room space in
        sym (leads-moved m p fits held₀ k.2 stood refl deep absent m p stood ∙ moved-low y₀ x₀ k.2.bits.after) ∙ ap
        (λ (v : List ℕ). reached v m p) made-is.0 ∙ sym at

    -- the place of the child, by the words with it
    place_after : {a : List ℕ} {z : ℕ} → Grafted a ws' n x₁ c z → z ≡ child_at (bits_of ws' x₁) (child_of ws' x₁) c
    place_after f = omega (arith, f.place, f.child_upto x₁ (omega arith), rank-old f.bits c, rank-new f.bits c, count-upto f.bits c (omega arith))

    graft₀ : Grafted ws₀ ws' n x₁ c y₀
    graft₀ =
        let k = made (length ws') (length hs) room space in
        let a = subst (λ (v : List ℕ). Grafted ws₀ v (length (nodes st)) x₀ c y₀) made-is.0 k.2 in
        let b = subst (λ (z : ℕ). Grafted ws₀ ws' z x₀ c y₀) (sym count-is) a in
        subst (λ (z : ℕ). Grafted ws₀ ws' n z c y₀) same-node b

    pub prune-holds : Holding st hop ws hs n
    prune-holds =
        let r : y₀ ≡ y = place_after graft₀ ∙ sym (place_after g) in
        let b : ws₀ ≡ ws = graft-back (subst (λ (z : ℕ). Grafted ws₀ ws' n x₁ c z) r graft₀) g in
        let o = subst (λ (z : ℕ). Holding st hop ws₀ hs₀ z) (sym count-is) held₀ in
        subst (λ (v : List ℕ). Holding st hop v hs n) b (subst (λ (v : List ℕ). Holding st hop ws₀ v n) made-is.1 o)
