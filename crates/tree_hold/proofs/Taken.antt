-- A hop taken away: an image with a hop is what putting it makes of the image without it.
use mathlib.Core.Path.{◌≡◌, refl, sym, ◌∙◌, ap, subst}
use mathlib.Core.Bool.{Bool, true, false}
use mathlib.Core.List.{List}
use Prim.Native.Nat.{ℕ, ◌+◌, ◌-◌, ◌*◌, ◌^◌, ◌≤◌, ◌<◌}
use native.Mathlib.Omega.{arith}
use lib.Dec.{ltb}
use lib.ListN.{length}
use Rattle.bits.specs.Count.{bit}
use Rattle.tree_image.specs.Node.{bits_of}
use Rattle.tree_image.specs.Image.{node, inner_len, bit_hop, nodes, hops, Image, image_by}
use Rattle.tree_image.proofs.Nodes.{inner-bit}
use Rattle.tree_node.proofs.Marks.{with-bit}
use Rattle.tree_same.specs.Read.{reached, hop_place_at}
use Rattle.tree_same.specs.Order.{ints, stands_at}
use Rattle.tree_same.specs.Holding.{Holding}
use Rattle.tree_same.proofs.Back.{Shaped, bit-set-is}
use Rattle.tree_same.proofs.Holdings.{nodes-are, hops-are, stands-found, image-holding}
use Rattle.tree_hold.specs.More.{with_hop}
use Rattle.tree_hold.specs.Edits.{HopPut, Puttable}
use Rattle.tree_hold.proofs.Holds.{held-words}
use Rattle.tree_hold.proofs.PutBits.{low-upto}
use Rattle.tree_hold.proofs.Puts.{leads-same, all-ints, put_holds}
use Rattle.tree_hold.proofs.HopMade.{put-done}
use Rattle.tree_hold.proofs.Undone.{same-held, image-sizes, put_back}

-- the prefix of the route at the internal bit b of a node
abbrev pub len_at : ℕ → ℕ → ℕ
len_at m b = 4 * m + inner_len b

abbrev pub bits_at : ℕ → ℕ → ℕ
bits_at p b = p * 2 ^ inner_len b + (b + 1 - 2 ^ inner_len b)

module _ {st : ℕ → ℕ → Bool} {hop : ℕ → ℕ → ℕ} (m p b h : ℕ) (fits : Shaped st hop) (small : b < 15) (stood : stands_at st m p ≡ true)
    (none : bit_hop hop (node m p) b ≡ 0) (some : 0 < h) where
  abbrev hop' : ℕ → ℕ → ℕ
  hop' = with_hop hop (len_at m b) (bits_at p b) h

  -- the image without the hop: the hop can be put, and then it is the image with it
  module _ (w s : ℕ) (room : 3 * length (nodes st) ≤ w) (space : length (hops st hop) + 1 ≤ s) where
    abbrev old : Image
    old = image_by st hop w s

    sizes : (length old.words ≡ w) × (length old.hops ≡ s)
    sizes = image-sizes st hop w s room (omega arith)

    held : Holding st hop old.words old.hops (length (nodes st))
    held = image-holding st hop fits w s room (omega arith)

    abbrev x : ℕ
    x = reached old.words m p

    inside : x < length (nodes st)
    inside = (stands-found st hop old.words old.hops (length (nodes st)) fits held m p stood).0

    count-hops : ints old.words (length (nodes st)) ≡ length (hops st hop)
    count-hops = hops-are st hop old.words old.hops (length (nodes st)) fits.agree.nine held

    ready : Puttable old.words old.hops (length (nodes st)) (ints old.words (length (nodes st))) x b
    ready = record {
      words = held-words fits.agree.nine held;
      parent = inside;
      small = small;
      free = bit-set-is _ b false (rw (held.right m p stood) (inner-bit st hop (node m p) b small) ∙ ap (λ (z : ℕ). bit (ltb 0 z)) none);
      room = omega (arith, sizes.1, count-hops);
      blank = held.blank;
    }

    made : (ws' : List ℕ) × (hs' : List ℕ) × HopPut old.words ws' old.hops hs' (length (nodes st)) x b (hop_place_at old.words x b) h
    made =
        let v = with-bit (bits_of old.words x) b (ready.words.narrow x inside) (omega arith) in
        (_, _, put-done ready (hop_place_at old.words x b) refl _ h v)

    put-it : Holding st hop' made.0 made.1 (length (nodes st))
    put-it = put_holds m p fits held made.2 stood refl some

    put-ints : ints made.0 (length (nodes st)) ≡ ints old.words (length (nodes st)) + 1
    put-ints = all-ints m p fits held made.2 stood refl some

  -- so there is one hop more
  pub more-hops : length (hops st hop') ≡ length (hops st hop) + 1
  more-hops =
      let w : ℕ = 3 * length (nodes st) in
      let s : ℕ = length (hops st hop) + 1 in
      omega (
        arith,
        hops-are st hop' _ _ _ fits.agree.nine (put-it (3 * length (nodes st)) (length (hops st hop) + 1) (omega arith) (omega arith)),
        put-ints (3 * length (nodes st)) (length (hops st hop) + 1) (omega arith) (omega arith),
        count-hops (3 * length (nodes st)) (length (hops st hop) + 1) (omega arith) (omega arith),
      )

  module _ {ws' hs' : List ℕ} {n : ℕ} (h' : Holding st hop' ws' hs' n) where
    -- the arrays without the hop
    pub record Before : Type 0 where
      pub words : List ℕ
      pub hops : List ℕ
      pub holds : Holding st hop words hops n
      pub at : reached ws' m p ≡ reached words m p
      pub put : HopPut words ws' hops hs' n (reached ws' m p) b (hop_place_at ws' (reached ws' m p) b) h

    count-is : n ≡ length (nodes st)
    count-is = nodes-are st hop' ws' hs' n fits.agree.nine h'

    room' : 3 * length (nodes st) ≤ length ws'
    room' = omega (arith, count-is, h'.order.lent)

    space' : length (hops st hop) + 1 ≤ length hs'
    space' = omega (arith, h'.room, hops-are st hop' ws' hs' n fits.agree.nine h', more-hops)

    -- the place of the hop, by the words with it
    place_after : {a f : List ℕ} {z t : ℕ} → HopPut a ws' f hs' n (reached ws' m p) b z t → z ≡ hop_place_at ws' (reached ws' m p) b
    place_after g = omega (arith, g.place, g.base_upto (reached ws' m p) (omega arith), low-upto g.bits b (omega arith))

    abbrev ws₀ : List ℕ
    ws₀ = (old (length ws') (length hs') room' space').words

    abbrev hs₀ : List ℕ
    hs₀ = (old (length ws') (length hs') room' space').hops

    abbrev x₀ : ℕ
    x₀ = x (length ws') (length hs') room' space'

    -- what putting the hop makes of the image without it is what is held
    made-is : ((made (length ws') (length hs') room' space').0 ≡ ws') × ((made (length ws') (length hs') room' space').1 ≡ hs')
    made-is =
        let k = made (length ws') (length hs') room' space' in
        let s = sizes (length ws') (length hs') room' space' in
        same-held fits.agree.nine (put-it (length ws') (length hs') room' space') h' (k.2.same ∙ s.0) (k.2.same_hops ∙ s.1)

    same-node : x₀ ≡ reached ws' m p
    same-node =
        sym (leads-same m p fits (held (length ws') (length hs') room' space') (made (length ws') (length hs') room' space').2 stood refl some m p stood)
        ∙ ap (λ (v : List ℕ). reached v m p) made-is.0

    put₀ : HopPut ws₀ ws' hs₀ hs' n (reached ws' m p) b (hop_place_at ws₀ x₀ b) h
    put₀ =
        let k = made (length ws') (length hs') room' space' in
        let a = subst (λ (v : List ℕ). HopPut ws₀ k.0 hs₀ v (length (nodes st)) x₀ b (hop_place_at ws₀ x₀ b) h) made-is.1 k.2 in
        let c = subst (λ (v : List ℕ). HopPut ws₀ v hs₀ hs' (length (nodes st)) x₀ b (hop_place_at ws₀ x₀ b) h) made-is.0 a in
        let d = subst (λ (z : ℕ). HopPut ws₀ ws' hs₀ hs' z x₀ b (hop_place_at ws₀ x₀ b) h) (sym count-is) c in
        subst (λ (z : ℕ). HopPut ws₀ ws' hs₀ hs' n z b (hop_place_at ws₀ x₀ b) h) same-node d

    pub before : Before
    before = record {
      words = ws₀;
      hops = hs₀;
      holds = subst (λ (z : ℕ). Holding st hop ws₀ hs₀ z) (sym count-is) (held (length ws') (length hs') room' space');
      at = sym same-node;
      put = subst (λ (y : ℕ). HopPut ws₀ ws' hs₀ hs' n (reached ws' m p) b y h) (place_after put₀) put₀;
    }

    -- taking it away leaves them
    pub take-holds : {ws hs : List ℕ} {y k : ℕ} → HopPut ws ws' hs hs' n (reached ws' m p) b y k → Holding st hop ws hs n
    take-holds {ws} {hs} {y} {k} g =
        let o = before in
        let e = put_back o.put (subst (λ (z : ℕ). HopPut ws ws' hs hs' n (reached ws' m p) b z k) (place_after g) g) in
        subst (λ (v : List ℕ). Holding st hop v hs n) e.0 (subst (λ (v : List ℕ). Holding st hop o.words v n) e.1 o.holds)
