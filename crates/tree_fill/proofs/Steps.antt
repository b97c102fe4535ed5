-- One step of the queue: the node at its head is made, its hops are put, and its children wait at its end.
use mathlib.Core.Path.{◌≡◌, refl, sym, ◌∙◌, ap, ap₂, subst}
use mathlib.Core.Logic.{◌⊎◌, inl, inr}
use mathlib.Core.Bool.{true, false}
use mathlib.Core.List.{List}
use Prim.Native.Nat.{ℕ, ◌+◌, ◌-◌, ◌*◌, ◌/◌, ◌%◌, ◌^◌, ◌≤◌, ◌<◌}
use native.Mathlib.Nat.{eq-or-lt_of_le, le_refl}
use native.Mathlib.Omega.{arith}
use lib.Count.{ones}
use lib.ListN.{length, get_or}
use Rattle.bits.specs.Count.{count}
use Rattle.bits.proofs.Bools.{below?}
use Rattle.routes.specs.Record.{Records, routes_in}
use Rattle.tree_image.specs.Parts.{gather}
use Rattle.tree_image.specs.Image.{Node, node, bit_hop, inner, child, kids, hops_of, hops}
use Rattle.tree_image.specs.Image as image
use Rattle.tree_image.specs.Done.{Done}
use Rattle.tree_image.proofs.Counts.{count_less, count-hit}
use Rattle.tree_image.proofs.Parts.{picked-length, before-next, before-le, before-mono}
use Rattle.tree_image.proofs.Nodes.{nodes-fix, depth-lt}
use Rattle.tree_image.proofs.Holds.{child-place}
use Rattle.tree_image.proofs.Serves.{agree}
use Rattle.tree_node.specs.NodeRuns.{stands_in, hop_in, path_at, node_at, ThroughRun, NodeRun, inner_in, child_in, word_in}
use Rattle.tree_node.specs.Queue.{put3, Waits, HopsReady, HopsPut, KidsReady, KidsPut}
use Rattle.tree_fill.specs.Fill.{nodes_in, node_in, kids_before, hops_before, State, NodeWaits}
use Rattle.tree_node.proofs.Stores.{put3-length, put3-other, put3-at}
use Rattle.tree_node.proofs.NodeRuns.{good-list}
use Rattle.tree_node.proofs.Hops.{inner-ones, child-ones}
use Rattle.tree_node.proofs.Kids.{waits-still}

module _ (s : List ℕ) (good : Records s (length s / 8)) where
  pub nine : (p : ℕ) → stands_in s 9 p ≡ false
  nine = (agree (routes_in s) (good-list s good)).nine

  nodes-count : length (nodes_in s) ≡ 1 + length (gather (kids (stands_in s)) (nodes_in s))
  nodes-count = ap length (nodes-fix (stands_in s) nine) ∙ omega arith

  -- the end of the queue stays within the nodes
  pub tail-le : (i : ℕ) → 1 + kids_before s i ≤ length (nodes_in s)
  tail-le i = omega (arith, nodes-count, before-le (kids (stands_in s)) (nodes_in s) i)

kids-count : (s : List ℕ) (n : Node) → length (kids (stands_in s) n) ≡ count (child (stands_in s) n) 16
unfolding kids
kids-count s n = picked-length (child (stands_in s) n) (λ c. node (n.depth + 1) (n.path * 16 + c)) 16

hops-count : (s : List ℕ) (n : Node) → length (hops_of (hop_in s) n) ≡ count (inner (hop_in s) n) 15
unfolding hops_of
hops-count s n = picked-length (inner (hop_in s) n) (bit_hop (hop_in s) n) 15

hops-are : (s : List ℕ) → length (hops (stands_in s) (hop_in s)) ≡ length (gather (hops_of (hop_in s)) (nodes_in s))
unfolding hops
hops-are s = refl

hop-le : (s : List ℕ) (i : ℕ) → hops_before s i ≤ length (hops (stands_in s) (hop_in s))
hop-le s i = omega (arith, before-le (hops_of (hop_in s)) (nodes_in s) i, hops-are s)

-- the state with a node that waits
pub state-waits : (s ws hs : List ℕ) (i t h : ℕ) → State s ws hs i t h → i < t → NodeWaits s ws hs i t h
state-waits s ws hs i t h now l =
    let room = now.room in
    let le = tail-le s room.records i in
    record {
      now = now;
      waits = l;
      whole = omega (arith, room.words_room, le, now.tail);
      tail_fits = omega (arith, room.words_fit, le, now.tail);
      hop_fits = omega (arith, room.hops_fit, hop-le s i, now.hop);
    }

module _ (s ws hs : List ℕ) (i t h : ℕ) (next : NodeWaits s ws hs i t h) where
  now : State s ws hs i t h
  now = next.now

  good : Records s (length s / 8)
  good = now.room.records

  here : i < length (nodes_in s)
  here = omega (arith, tail-le s good i, now.tail, next.waits)

  -- what the words of the node at i say
  module _ (m a e : ℕ) (em : m ≡ get_or ws (3 * i) 0) (ea : a ≡ get_or ws (3 * i + 1) 0) (ee : e ≡ get_or ws (3 * i + 2) 0) where
    w : Waits s ws i (node_in s i)
    w = now.wait i (le_refl i) next.waits

    qm : (node_in s i).depth ≡ m
    qm = sym (em ∙ w.depth)

    qa : w.start ≡ a
    qa = sym (ea ∙ w.from)

    pub node-is : node_in s i ≡ node_at s m a
    node-is = w.is ∙ ap₂ (node_at s) qm qa

    pub node-run : NodeRun s m a e
    node-run =
        let qp : (node_in s i).path ≡ path_at s m a = ap (λ (n : Node). n.path) node-is in
        let qe : w.stop ≡ e = sym (ee ∙ w.upto) in
        let r : ThroughRun s (node_in s i).depth (node_in s i).path w.start w.stop = w.run in
        record {
          records = good;
          deep = omega (arith, depth-lt (stands_in s) 9 i (node 0 0) here, qm);
          run = subst (λ (x : ℕ). ThroughRun s m (path_at s m a) a x) qe
              (subst (λ (x : ℕ). ThroughRun s m (path_at s m a) x w.stop) qa
              (subst (λ (x : ℕ). ThroughRun s m x w.start w.stop) qp
              (subst (λ (x : ℕ). ThroughRun s x (node_in s i).path w.start w.stop) qm r)));
        }

    kids-next : kids_before s (i + 1) ≡ kids_before s i + count (child_in s m a) 16
    kids-next = before-next (kids (stands_in s)) (nodes_in s) i (node 0 0) here ∙ ap (λ (x : ℕ). kids_before s i + x)
        (kids-count s (node_in s i) ∙ ap (λ (n : Node). count (child (stands_in s) n) 16) node-is)

    hops-next : hops_before s (i + 1) ≡ hops_before s i + count (inner_in s m a) 15
    hops-next = before-next (hops_of (hop_in s)) (nodes_in s) i (node 0 0) here ∙ ap (λ (x : ℕ). hops_before s i + x)
        (hops-count s (node_in s i) ∙ ap (λ (n : Node). count (inner (hop_in s) n) 15) node-is)

    module _ (word : ℕ) (ew : word ≡ word_in s m a) where
      pub hops-ready : HopsReady s m a e word h hs
      hops-ready = record { node = node-run; word = ew; room = omega (arith, now.hop, hops-next, now.room.hops_room, hop-le s (i + 1)) }

      pub kids-ready : KidsReady s m a e word t ws
      kids-ready = record { node = node-run; word = ew; room = omega (arith, now.tail, kids-next, now.room.words_room, tail-le s good (i + 1)) }

      module _ (hs' : List ℕ) (H : HopsPut s m a h hs hs') (ws₁ : List ℕ) (K : KidsPut s m a t ws ws₁) where
        pub node-room : 3 * i + 3 ≤ length ws₁
        node-room = omega (arith, next.whole, K.same)

        module _ (t₁ h₁ : ℕ) (et : t₁ ≡ t) (eh : h₁ ≡ h) (ws' : List ℕ) (eq : ws' ≡ put3 ws₁ i word t₁ h₁) (t' h' : ℕ)
            (et' : t' ≡ ones (word / 2 ^ 16 % 2 ^ 16)) (eh' : h' ≡ ones (word % 2 ^ 15)) where
          more_kids : t' ≡ count (child_in s m a) 16
          more_kids = et' ∙ ap (λ (x : ℕ). ones (x / 2 ^ 16 % 2 ^ 16)) ew ∙ child-ones s m a 16 (omega arith)

          more-hops : h' ≡ count (inner_in s m a) 15
          more-hops = eh' ∙ ap (λ (x : ℕ). ones (x % 2 ^ 15)) ew ∙ inner-ones s m a 15 (omega arith)

          far : (j : ℕ) → (j < 3 * i) ⊎ (3 * i + 3 ≤ j) → get_or ws' j 0 ≡ get_or ws₁ j 0
          far j o = ap (λ (x : List ℕ). get_or x j 0) eq ∙ put3-other ws₁ i word t₁ h₁ j o

          -- the places of an earlier node's hops come before
          early : (x b : ℕ) → x < i → b < 15 → inner (hop_in s) (node_in s x) b ≡ true → hops_before s x + count (inner (hop_in s) (node_in s x)) b < h
          early x b u lb o =
              omega (
                arith,
                now.hop,
                count_less (inner (hop_in s) (node_in s x)) 15 b lb o,
                hops-count s (node_in s x),
                before-next (hops_of (hop_in s)) (nodes_in s) x (node 0 0) (omega (arith, here)),
                before-mono (hops_of (hop_in s)) (nodes_in s) (x + 1) i (omega arith),
              )

          done_next : (x : ℕ) → (x ≡ i) ⊎ (x < i) → Done (stands_in s) (hop_in s) ws' hs' x
          done_next x (inl q) =
              let at = put3-at ws₁ i word t₁ h₁ node-room in
              rw (q, eq)
              record {
                bits = at.0 ∙ ew ∙ ap (image.word (stands_in s) (hop_in s)) (sym node-is);
                child = at.1 ∙ et ∙ now.tail;
                base = at.2 ∙ eh ∙ now.hop;
                put = subst (λ (n : Node). (b : ℕ) → b < 15 → inner (hop_in s) n b ≡ true → get_or hs' (hops_before s i + count (inner (hop_in s) n) b) 0
                    ≡ bit_hop (hop_in s) n b) (sym node-is)
                    (λ b lb o. ap (λ (y : ℕ). get_or hs' (y + count (inner_in s m a) b) 0) (sym now.hop) ∙ H.put b lb o);
              }
          done_next x (inr u) =
              let d = now.done x u in
              record {
                bits = far (3 * x) (inl (omega arith)) ∙ K.below (3 * x) (omega (arith, next.waits)) ∙ d.bits;
                child = far (3 * x + 1) (inl (omega arith)) ∙ K.below (3 * x + 1) (omega (arith, next.waits)) ∙ d.child;
                base = far (3 * x + 2) (inl (omega arith)) ∙ K.below (3 * x + 2) (omega (arith, next.waits)) ∙ d.base;
                put = λ b lb o. H.below _ (early x b u lb o) ∙ d.put b lb o;
              }

          wait-next : (x : ℕ) → i + 1 ≤ x → x < t + t' → (x < t) ⊎ (t ≤ x) → Waits s ws' x (node_in s x)
          wait-next x l u (inl v) = waits-still s ws ws' x (node_in s x) (λ j p q. far j (inr (omega arith)) ∙ K.below j (omega arith))
              (now.wait x (omega arith) v)
          wait-next x l u (inr v) =
              let r = count-hit (child_in s m a) 16 (x - t) (omega (arith, more_kids)) in
              let g = child-place (stands_in s) (nine s good) i (node_at s m a) r.0 here node-is r.1 r.2 in
              let q : 1 + kids_before s i + count (child_in s m a) r.0 ≡ x = omega (arith, now.tail, r.3) in
              let z : t + count (child_in s m a) r.0 ≡ x = omega (arith, r.3) in
              let n : node_in s x ≡ node (m + 1) (path_at s m a * 16 + r.0) = subst (λ (y : ℕ). node_in s y ≡ node (m + 1) (path_at s m a * 16 + r.0)) q g.1 in
              subst (Waits s ws' x) (sym n)
              (waits-still s ws₁ ws' x _ (λ j c d. far j (inr (omega (arith, next.waits))))
              (subst (λ (y : ℕ). Waits s ws₁ y (node (m + 1) (path_at s m a * 16 + r.0))) z (K.wait r.0 r.1 r.2)))

          lengths : length ws' ≡ length ws
          lengths = ap length eq ∙ put3-length ws₁ i word t₁ h₁ ∙ K.same

          pub state-next : State s ws' hs' (i + 1) (t + t') (h + h')
          state-next = record {
            room = rw (lengths, H.same) now.room;
            order = omega (arith, next.waits);
            tail = omega (arith, now.tail, kids-next, more_kids);
            hop = omega (arith, now.hop, hops-next, more-hops);
            done = λ x u. done_next x (eq-or-lt_of_le {n = x} {m = i} (omega arith));
            wait = λ x l u. wait-next x l u (below? x t);
            rest = λ j u. far j (inr (omega (arith, next.waits))) ∙ K.above j (omega (arith, more_kids)) ∙ now.rest j (omega arith);
            blank = λ j u. H.above j (omega (arith, more-hops)) ∙ now.blank j (omega arith);
          }
