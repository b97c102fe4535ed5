-- A hop put: the arrays then hold the routes with one hop more. No path leads elsewhere, since the extending bits are as they were; a hop's
-- place is one further where it comes after the new one.
use mathlib.Core.Path.{◌≡◌, refl, sym, ◌∙◌, ap, ap₂, subst}
use mathlib.Core.Logic.{◌⊎◌, inl, inr}
use mathlib.Core.Bool.{Bool, true, cond, ◌&&◌, true≢false}
use mathlib.Core.List.{List}
use Prim.Native.Nat.{ℕ, zero, suc, ◌+◌, ◌-◌, ◌*◌, ◌/◌, ◌%◌, ◌^◌, ◌≤◌, ◌<◌}
use native.Mathlib.Omega.{arith}
use lib.Dec.{eqb, ltb}
use lib.Pow.{high}
use lib.ListN.{get_or}
use lib.Count.{ones}
use borrow.Author.Tests.{lt-ltb, le-ltb, eq-eqb, eqb-true}
use Rattle.bits.specs.Bit.{bit_at}
use Rattle.bits.specs.Count.{bit, count}
use Rattle.bits.proofs.Bools.{and_split, below?, equal?, untrue}
use Rattle.bits.proofs.Packed.{packed-bit, rank-count}
use Rattle.tree_image.specs.Node.{bits_of, base_of, is_set}
use Rattle.tree_image.specs.Image.{Node, node, inner_len, bit_hop, inner, set_bit, word}
use Rattle.tree_image.specs.Done.{node_no}
use Rattle.tree_image.proofs.Counts.{count-mono, count_less}
use Rattle.tree_image.proofs.Nodes.{set-inner}
use Rattle.tree_image.proofs.Lies.{inner-cases}
use Rattle.tree_node.proofs.Marks.{word-bits}
use Rattle.tree_same.specs.Read.{reached, hop_place_at}
use Rattle.tree_same.specs.Order.{ints, Order, stands_at}
use Rattle.tree_same.specs.Holding.{Holding}
use Rattle.tree_same.proofs.Back.{Shaped}
use Rattle.tree_same.proofs.Holdings.{stands-found}
use Rattle.tree_formed.proofs.Held.{bit-of, ints-next, ints-mono}
use Rattle.tree_hold.specs.More.{with_hop}
use Rattle.tree_hold.specs.Edits.{HopPut}
use Rattle.tree_hold.proofs.Holds.{word_fits}
use Rattle.tree_hold.proofs.PutBits.{bit-same, bit-new, low-upto, low-past, high-at, exts-same, ints-upto, ints-after}

module _ {ws ws' hs hs' : List ℕ} {n x b y h : ℕ} (o : Order ws n) (g : HopPut ws ws' hs hs' n x b y h) where
  abbrev w : ℕ
  w = bits_of ws x

  abbrev w' : ℕ
  w' = bits_of ws' x

  pub put_order : Order ws' n
  put_order = record {
    lent = g.lent;
    whole = omega (arith, exts-same g.bits n (omega arith), o.whole);
    fewest = λ i l. omega (arith, exts-same g.bits i (omega arith), o.fewest i l);
    child = λ i l. g.child_same i l ∙ o.child i l ∙ ap (λ (z : ℕ). 1 + z) (sym (exts-same g.bits i (omega arith)));
    base = λ i l. go i l (below? x i);
  }
    where
      go : (i : ℕ) → i < n → (x < i) ⊎ (i ≤ x) → base_of ws' i ≡ ints ws' i
      go i l (inl u) = omega (arith, g.base_after i u l, o.base i l, ints-after g.bits i u (omega arith))
      go i l (inr u) = omega (arith, g.base_upto i u, o.base i l, ints-upto g.bits i u)

  -- the place of a hop, before and after
  y-is : y ≡ ints ws x + ones (w % 2 ^ b)
  y-is = g.place ∙ ap (λ (z : ℕ). z + ones (w % 2 ^ b)) (o.base x g.bits.inside)

  at_place : (i k : ℕ) → i < n → k < 15 → is_set (bits_of ws i) k ≡ true → get_or hs' (hop_place_at ws' i k) 0 ≡ get_or hs (hop_place_at ws i k) 0
  at_place i k l u s = go (below? i x) (below? x i)
    where
      in-node : ones (bits_of ws i % 2 ^ k) < ones (bits_of ws i % 2 ^ 15)
      in-node = rw (
        rank-count (bits_of ws i) (is_set (bits_of ws i)) k (λ j v. bit-of (bits_of ws i) j),
        rank-count (bits_of ws i)
            (is_set (bits_of ws i)) 15 (λ j v. bit-of (bits_of ws i) j),
      ) (count_less (is_set (bits_of ws i)) 15 k u s)

      before-end : hop_place_at ws i k < ints ws (suc i)
      before-end = omega (arith, in-node, o.base i l, ints-next ws i)

      in-hops : hop_place_at ws i k < ints ws n
      in-hops = omega (arith, before-end, ints-mono ws (suc i) n l)

      mono : (d e : ℕ) → d ≤ e → ones (w % 2 ^ d) ≤ ones (w % 2 ^ e)
      mono d e v =
          let q : d + (e - d) ≡ e = omega arith in
          rw (rank-count w (is_set w) d (λ j z. bit-of w j), rank-count w (is_set w) e (λ j z. bit-of w j))
          (subst (λ (z : ℕ). count (is_set w) d ≤ count (is_set w) z) q (count-mono (is_set w) d (e - d)))

      same : hop_place_at ws' i k ≡ hop_place_at ws i k → hop_place_at ws i k < y
          → get_or hs' (hop_place_at ws' i k) 0 ≡ get_or hs (hop_place_at ws i k) 0
      same e v = ap (λ (z : ℕ). get_or hs' z 0) e ∙ g.hops_below _ v

      next : hop_place_at ws' i k ≡ suc (hop_place_at ws i k) → y ≤ hop_place_at ws i k
          → get_or hs' (hop_place_at ws' i k) 0 ≡ get_or hs (hop_place_at ws i k) 0
      next e v = ap (λ (z : ℕ). get_or hs' z 0) e ∙ g.hops_above _ v in-hops

      own : i ≡ x → (k < b) ⊎ (b ≤ k) → (k ≡ b) ⊎ (k ≡ b → ⊥) → get_or hs' (hop_place_at ws' i k) 0 ≡ get_or hs (hop_place_at ws i k) 0
      own e (inl v) z =
          let t : is_set w k ≡ true = rw e at s in
          let less : ones (w % 2 ^ k) < ones (w % 2 ^ b) = rw
          (rank-count w (is_set w) k (λ j q. bit-of w j), rank-count w (is_set w) b (λ j q. bit-of w j)) (count_less (is_set w) b k v t) in
          same (rw e (omega (arith, g.base_upto x (omega arith), low-upto g.bits k (omega arith)))) (rw e (omega (arith, g.place, less)))
      own e (inr v) (inl z) = absurd (true≢false (sym (rw (e, z) at s) ∙ g.bits.free))
      own e (inr v) (inr z) = next (rw e (omega (arith, g.base_upto x (omega arith), low-past g.bits k (omega arith))))
          (rw e (omega (arith, g.place, mono b k v)))

      go : (i < x) ⊎ (x ≤ i) → (x < i) ⊎ (i ≤ x) → get_or hs' (hop_place_at ws' i k) 0 ≡ get_or hs (hop_place_at ws i k) 0
      go (inl v) z =
          same (ap₂ (λ (p q : ℕ). p + ones (q % 2 ^ k)) (g.base_upto i (omega arith)) (g.bits.other i l (λ (e : i ≡ x). omega arith)))
          (omega (arith, before-end, ints-mono ws (suc i) x v, y-is))
      go (inr v) (inr z) = own (omega arith) (below? k b) (equal? k b)
      go (inr v) (inl z) =
          next (ap₂ (λ (p q : ℕ). p + ones (q % 2 ^ k)) (g.base_after i z l) (g.bits.other i l (λ (e : i ≡ x). omega arith)) ∙ omega arith)
          (omega (arith, o.base i l, ints-mono ws (suc x) i z, ints-next ws x, y-is, mono b 15 (omega (arith, g.bits.small))))

  new-place : get_or hs' (base_of ws' x + ones (w' % 2 ^ b)) 0 ≡ h
  new-place = ap (λ (z : ℕ). get_or hs' z 0) (omega (arith, g.base_upto x (omega arith), low-upto g.bits b (omega arith), g.place)) ∙ g.hop_new

-- a bit of a node and no other has the prefix of one route
one_bit : (a c k m p b : ℕ) → k < 15 → b < 15 → 4 * a + inner_len k ≡ 4 * m + inner_len b → c * 2 ^ inner_len k + (k + 1 - 2 ^ inner_len k)
    ≡ p * 2 ^ inner_len b + (b + 1 - 2 ^ inner_len b)
    → (a ≡ m) × (c ≡ p) × (k ≡ b)
one_bit a c k m p b u v e f =
    let x = inner-cases k u in
    let y = inner-cases b v in
    let i : inner_len k ≡ inner_len b = omega (arith, x.0, y.0) in
    let am : a ≡ m = omega (arith, x.0, y.0) in
    let cp : c ≡ p = sym (high c (inner_len k) x.2) ∙ ap₂ (λ (s t : ℕ). s / 2 ^ t) f i ∙ high p (inner_len b) y.2 in
    let s : c * 2 ^ inner_len k ≡ p * 2 ^ inner_len b = ap₂ (λ (t z : ℕ). t * 2 ^ z) cp i in
    let t : 2 ^ inner_len k ≡ 2 ^ inner_len b = ap (λ (z : ℕ). 2 ^ z) i in
    (am, cp, omega (arith, x.1, y.1))

module _ {st : ℕ → ℕ → Bool} {hop : ℕ → ℕ → ℕ} {ws ws' hs hs' : List ℕ} {n x b y h : ℕ} (m p : ℕ) (fits : Shaped st hop) (held : Holding st hop ws hs n)
    (g : HopPut ws ws' hs hs' n x b y h) (stood : stands_at st m p ≡ true) (at : x ≡ reached ws m p) (some : 0 < h) where
  abbrev hop' : ℕ → ℕ → ℕ
  hop' = with_hop hop (4 * m + inner_len b) (p * 2 ^ inner_len b + (b + 1 - 2 ^ inner_len b)) h

  abbrev ord : Order ws n
  ord = held.order

  -- no path leads elsewhere
  pub leads-same : (a c : ℕ) → stands_at st a c ≡ true → reached ws' a c ≡ reached ws a c
  unfolding reached stands_at
  leads-same zero c e = refl
  leads-same (suc a) c e =
      let up = fits.up a c e in
      let i = (stands-found st hop ws hs n fits held a (c / 16) up).0 in
      rw (leads-same a (c / 16) up)
      (ap₂ (λ (s t : ℕ). s + t) (g.child_same (reached ws a (c / 16)) i) (high-at g.bits (reached ws a (c / 16)) (c % 16) i))

  hop-own : bit_hop hop' (node m p) b ≡ h
  unfolding bit_hop with_hop
  hop-own = rw (eq-eqb (4 * m + inner_len b) _ refl, eq-eqb (p * 2 ^ inner_len b + (b + 1 - 2 ^ inner_len b)) _ refl) refl

  hop-other : (a c k : ℕ) → k < 15 → ((a ≡ m) × (c ≡ p) × (k ≡ b) → ⊥) → bit_hop hop' (node a c) k ≡ bit_hop hop (node a c) k
  unfolding bit_hop with_hop
  hop-other a c k l ne =
      ap (λ (z : Bool). cond z h (hop (4 * a + inner_len k) (c * 2 ^ inner_len k + (k + 1 - 2 ^ inner_len k))))
      (untrue (eqb (4 * a + inner_len k) (4 * m + inner_len b) && eqb (c * 2 ^ inner_len k + (k + 1 - 2 ^ inner_len k))
      (p * 2 ^ inner_len b + (b + 1 - 2 ^ inner_len b)))
      (λ t.
      let s = and_split (eqb (4 * a + inner_len k) (4 * m + inner_len b))
      (eqb (c * 2 ^ inner_len k + (k + 1 - 2 ^ inner_len k)) (p * 2 ^ inner_len b + (b + 1 - 2 ^ inner_len b))) t in
      ne (one_bit a c k m p b l g.bits.small (eqb-true _ _ s.0) (eqb-true _ _ s.1))))

  parent-only : (a c : ℕ) → stands_at st a c ≡ true → reached ws a c ≡ x → (a ≡ m) × (c ≡ p)
  parent-only a c e i =
      let u = (stands-found st hop ws hs n fits held a c e).1 in
      let v = (stands-found st hop ws hs n fits held m p stood).1 in
      let q : node a c ≡ node m p = sym u ∙ ap (λ (k : ℕ). node_no st k) (i ∙ at) ∙ v in
      (ap (λ (k : Node). k.depth) q, ap (λ (k : Node). k.path) q)

  -- the bits of a node by their kinds
  by_kind : (a c v : ℕ) → v < 2 ^ 32 → ((k : ℕ) → k < 15 → bit_at v k ≡ bit (inner hop' (node a c) k)) →
      ((k : ℕ) → 15 ≤ k → bit_at v k ≡ bit_at (word st hop (node a c)) k) → v ≡ word st hop' (node a c)
  unfolding word set_bit
  by_kind a c v l in-bits out-bits = word-bits v (set_bit st hop' (node a c)) l (λ k u. go k u (below? k 15))
    where
      high-kind : (k : ℕ) → 15 ≤ k → set_bit st hop (node a c) k ≡ set_bit st hop' (node a c) k
      high-kind k u = rw (le-ltb k 15 u) refl

      go : (k : ℕ) → k < 32 → (k < 15) ⊎ (15 ≤ k) → bit_at v k ≡ bit (set_bit st hop' (node a c) k)
      go k u (inl r) = in-bits k r ∙ ap bit (sym (set-inner st hop' (node a c) k r))
      go k u (inr r) = out-bits k r ∙ packed-bit (set_bit st hop (node a c)) 32 k u ∙ ap bit (high-kind k r)

  old-inner : (a c k : ℕ) → k < 15 → bit_at (word st hop (node a c)) k ≡ bit (inner hop (node a c) k)
  unfolding word
  old-inner a c k l = packed-bit (set_bit st hop (node a c)) 32 k (omega arith) ∙ ap bit (set-inner st hop (node a c) k l)

  right' : (a c : ℕ) → stands_at st a c ≡ true → bits_of ws' (reached ws' a c) ≡ word st hop' (node a c)
  right' a c e = rw (leads-same a c e) (go (equal? (reached ws a c) x))
    where
      go : (reached ws a c ≡ x) ⊎ (reached ws a c ≡ x → ⊥) → bits_of ws' (reached ws a c) ≡ word st hop' (node a c)
      go (inr i) =
          g.bits.other (reached ws a c) (stands-found st hop ws hs n fits held a c e).0 i ∙ held.right a c e
          ∙ by_kind a c _ (word_fits st hop (node a c))
          (λ k l. old-inner a c k l ∙ ap (λ (z : ℕ). bit (ltb 0 z)) (sym (hop-other a c k l (λ q. i (ap₂ (reached ws) q.0 q.1 ∙ sym at))))) (λ k l. refl)
      go (inl i) =
          let q = parent-only a c e i in
          let old : bits_of ws x ≡ word st hop (node a c) = ap (bits_of ws) (sym i) ∙ held.right a c e in
          rw i
          (by_kind a c (bits_of ws' x) g.bits.node.fits (λ k l. own k l (equal? k b) old q)
          (λ k l. bit-same g.bits k (λ (z : k ≡ b). omega (arith, g.bits.small)) ∙ ap (λ (z : ℕ). bit_at z k) old))
        where
          own : (k : ℕ) → k < 15 → (k ≡ b) ⊎ (k ≡ b → ⊥) → bits_of ws x ≡ word st hop (node a c) → (a ≡ m) × (c ≡ p) → bit_at (bits_of ws' x) k ≡ bit
              (inner hop' (node a c) k)
          own k l (inl z) old q =
              ap (bit_at (bits_of ws' x)) z ∙ bit-new g.bits
              ∙ ap bit (sym (lt-ltb 0 h some)) ∙ ap (λ (t : ℕ). bit (ltb 0 t))
              (sym (ap₂ (λ (s t : ℕ). bit_hop hop' (node s t) k) q.0 q.1 ∙ ap (bit_hop hop' (node m p)) z ∙ hop-own))
          own k l (inr z) old q =
              bit-same g.bits k z ∙ ap (λ (t : ℕ). bit_at t k) old ∙ old-inner a c k l
              ∙ ap (λ (t : ℕ). bit (ltb 0 t)) (sym (hop-other a c k l (λ t. z t.2)))

  put' : (a c k : ℕ) → stands_at st a c ≡ true → k < 15 → inner hop' (node a c) k ≡ true
      → get_or hs' (hop_place_at ws' (reached ws' a c) k) 0 ≡ bit_hop hop' (node a c) k
  put' a c k e l s = rw (leads-same a c e) (go (equal? (reached ws a c) x) (equal? k b))
    where
      old : ((a ≡ m) × (c ≡ p) × (k ≡ b) → ⊥) → get_or hs' (hop_place_at ws' (reached ws a c) k) 0 ≡ bit_hop hop' (node a c) k
      old ne =
          let same = hop-other a c k l ne in
          let on : inner hop (node a c) k ≡ true = sym (ap (ltb 0) same) ∙ s in
          let set : is_set (bits_of ws (reached ws a c)) k ≡ true = eq-eqb _ 1 (ap (λ (z : ℕ). bit_at z k) (held.right a c e) ∙ old-inner a c k l ∙ ap bit on) in
          at_place ord g (reached ws a c) k (stands-found st hop ws hs n fits held a c e).0 l set ∙ held.put a c k e l on ∙ sym same

      go : (reached ws a c ≡ x) ⊎ (reached ws a c ≡ x → ⊥) → (k ≡ b) ⊎ (k ≡ b → ⊥) → get_or hs' (hop_place_at ws' (reached ws a c) k) 0 ≡ bit_hop hop' (node a c) k
      go (inl i) (inl z) =
          let q = parent-only a c e i in
          rw (i, z) (new-place ord g) ∙ sym (ap₂ (λ (u v : ℕ). bit_hop hop' (node u v) k) q.0 q.1 ∙ ap (bit_hop hop' (node m p)) z ∙ hop-own)
      go (inr i) z = old (λ q. i (ap₂ (reached ws) q.0 q.1 ∙ sym at))
      go (inl i) (inr z) = old (λ q. z q.2)

  pub all-ints : ints ws' n ≡ ints ws n + 1
  all-ints = ints-after g.bits n g.bits.inside (omega arith)

  pub put_holds : Holding st hop' ws' hs' n
  put_holds = record {
    order = put_order ord g;
    right = right';
    put = put';
    room = omega (arith, all-ints, g.room);
    rest = g.rest;
    blank = λ j l. g.blank j (omega (arith, all-ints));
  }
