-- The start of the queue, and its end: when no node waits, all nodes are done, and so the arrays hold the image.
use mathlib.Core.Path.{◌≡◌, sym, ◌∙◌, ap}
use mathlib.Core.Logic.{◌⊎◌, inl, inr}
use mathlib.Core.List.{List}
use Prim.Native.Nat.{ℕ, ◌+◌, ◌*◌, ◌/◌, ◌%◌, ◌≤◌, ◌<◌}
use native.Mathlib.Omega.{arith}
use lib.ListN.{length, get_or, replicate, length-replicate, get_or-eq_default}
use Rattle.bits.proofs.Bools.{below?}
use Rattle.routes.specs.Record.{record_at, Records}
use Rattle.tree_image.specs.Parts.{zero_padded}
use Rattle.tree_image.specs.Image.{Node, node, kids, hops_of, words, hops, image_by}
use Rattle.tree_image.specs.Done.{AllDone}
use Rattle.tree_image.proofs.Parts.{before-zero, before-all}
use Rattle.tree_image.proofs.Nodes.{up_next, ahead}
use Rattle.bits.proofs.Tabs.{get_d-zeros}
use Rattle.tree_image.proofs.Filled.{all-filled}
use Rattle.tree_node.specs.NodeRuns.{stands_in, hop_in, path_at}
use Rattle.tree_node.specs.Queue.{put3, Waits}
use Rattle.tree_fill.specs.Fill.{nodes_in, node_in, hops_before, ImageRoom, State, ImageFilled}
use Rattle.tree_node.proofs.Stores.{put3-length, put3-other, put3-at}
use Rattle.tree_node.proofs.NodeRuns.{root-run}
use Rattle.tree_fill.proofs.Steps.{tail-le}

-- the root's path is empty, also where there is no record
root-path : (s : List ℕ) → Records s (length s / 8) → length s % 8 ≡ 0 → path_at s 0 0 ≡ 0
unfolding record_at
root-path s good whole = go (below? 0 (length s / 8))
  where
    go : (0 < length s / 8) ⊎ (length s / 8 ≤ 0) → path_at s 0 0 ≡ 0
    go (inl l) = omega (arith, (good.each 0 l).prefix.addr_ok)
    go (inr l) =
        let z : (i : ℕ) → get_or s i 0 ≡ 0 = λ i. get_or-eq_default s 0 {n = i} (omega arith) in
        omega (arith, z 0, z 1, z 2, z 3)

module _ (s : List ℕ) (w h : ℕ) (room : ImageRoom s w h) (ws₀ hs : List ℕ) (zw : ws₀ ≡ replicate w 0) (zh : hs ≡ replicate h 0) where
  blank-length : length ws₀ ≡ w
  blank-length = ap length zw ∙ length-replicate w 0

  hops-length : length hs ≡ h
  hops-length = ap length zh ∙ length-replicate h 0

  pub root-room : 3 * 0 + 3 ≤ length ws₀
  root-room = omega (arith, blank-length, room.words_room, tail-le s room.records 0)

  pub state-start : (n : ℕ) (ws : List ℕ) → n ≡ length s / 8 → ws ≡ put3 ws₀ 0 0 0 n → State s ws hs 0 1 0
  state-start n ws en eq = record {
    room = rw (ap length eq ∙ put3-length ws₀ 0 0 0 n ∙ blank-length, hops-length) room;
    order = omega arith;
    tail = omega (arith, before-zero (kids (stands_in s)) (nodes_in s));
    hop = sym (before-zero (hops_of (hop_in s)) (nodes_in s));
    done = λ x u. absurd (omega arith);
    wait = λ x l u. let q : x ≡ 0 = omega arith in rw (q, root_is) waits;
    rest = λ j u. ap (λ (y : List ℕ). get_or y j 0) eq ∙ put3-other ws₀ 0 0 0 n j (inr u) ∙ ap (λ (y : List ℕ). get_or y j 0) zw ∙ get_d-zeros w j;
    blank = λ j u. ap (λ (y : List ℕ). get_or y j 0) zh ∙ get_d-zeros h j;
  }
    where
      root_is : node_in s 0 ≡ node 0 0
      root_is = ap (λ (ns : List Node). get_or ns 0 (node 0 0)) (up_next (stands_in s) 8)

      waits : Waits s ws 0 (node 0 0)
      waits =
          let at = put3-at ws₀ 0 0 0 n root-room in
          rw eq
          record {
            start = 0;
            stop = length s / 8;
            depth = at.0;
            from = at.1;
            upto = at.2 ∙ en;
            is = ap (node 0)
                (sym (root-path s room.records room.whole));
            run = root-run s room.records;
          }

-- when no node waits
module _ (s ws hs : List ℕ) (i t h : ℕ) (now : State s ws hs i t h) (l : t ≤ i) where
  good : Records s (length s / 8)
  good = now.room.records

  all_done : i ≡ length (nodes_in s)
  all_done = go (below? i (length (nodes_in s)))
    where
      go : (i < length (nodes_in s)) ⊎ (length (nodes_in s) ≤ i) → i ≡ length (nodes_in s)
      go (inl u) = absurd (omega (arith, now.tail, now.order, ahead (stands_in s) 9 i (omega arith) u))
      go (inr u) = omega (arith, now.tail, now.order, tail-le s good i)

  -- all hops are put
  all-put : h ≡ length (hops (stands_in s) (hop_in s))
  unfolding hops
  all-put = now.hop ∙ ap (hops_before s) all_done ∙ before-all (hops_of (hop_in s)) (nodes_in s)

  complete : AllDone (stands_in s) (hop_in s) ws hs
  complete = record {
    words_room = now.room.words_room;
    hops_room = now.room.hops_room;
    each = λ x u. now.done x (omega (arith, all_done));
    rest = λ j u. now.rest j (omega (arith, all_done, now.order));
    blank = λ j u. now.blank j (omega (arith, all-put));
  }

  pub filled : (ws₀ hs₀ : List ℕ) → length ws ≡ length ws₀ → length hs ≡ length hs₀ → ImageFilled s ws₀ hs₀ ws hs
  unfolding image_by
  filled ws₀ hs₀ e f = record {
    words = (all-filled (stands_in s) (hop_in s) ws hs complete).0 ∙ ap (λ (n : ℕ). zero_padded n (words (stands_in s) (hop_in s))) e;
    hops = (all-filled (stands_in s) (hop_in s) ws hs complete).1 ∙ ap (λ (n : ℕ). zero_padded n (hops (stands_in s) (hop_in s))) f;
  }

-- the queue ends: each turn takes a node
pub node-taken : (s ws hs : List ℕ) (i t h : ℕ) → State s ws hs i t h → i < t → i < length (nodes_in s)
node-taken s ws hs i t h now l = omega (arith, now.tail, tail-le s now.room.records i)
