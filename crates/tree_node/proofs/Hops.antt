-- The hops of a node, put one by one at their places.
use mathlib.Core.Path.{◌≡◌, refl, sym, ◌∙◌, ap, subst}
use mathlib.Core.Logic.{◌⊎◌, inl, inr, ⊎_elim}
use mathlib.Core.Bool.{Bool, true}
use mathlib.Core.List.{List}
use Prim.Native.Nat.{ℕ, ◌+◌, ◌*◌, ◌/◌, ◌%◌, ◌^◌, ◌≤◌, ◌<◌}
use native.Mathlib.Nat.{eq-or-lt_of_le}
use native.Mathlib.Omega.{arith}
use lib.Count.{ones}
use lib.ListN.{length, get_or, set, length-set}
use lib.Seq.{get_or-set_same, get_or-set_other}
use Rattle.bits.specs.Count.{count}
use Rattle.bits.proofs.Bools.{below?}
use Rattle.routes.specs.Record.{record_at}
use Rattle.routes.specs.declared.Route.{Route}
use Rattle.tree_image.specs.Image.{bit_hop, word}
use Rattle.tree_image.proofs.Counts.{count_less}
use Rattle.bits.proofs.Packed.{rank-count, upper-count}
use Rattle.tree_image.proofs.Nodes.{inner-bit, child-bit}
use Rattle.standing.proofs.Prefixes.{one_key}
use Rattle.tree_image.proofs.Lies.{at_bit, bit_of, bit-at}
use Rattle.tree_node.specs.NodeRuns.{stands_in, hop_in, path_at, node_at, node_bit, inner_in, child_in, word_in}
use Rattle.tree_node.specs.Queue.{HopsReady, HopsPut}
use Rattle.tree_node.proofs.NodeRuns.{short}
use Rattle.tree_node.proofs.Words.{its-place, own-bit, bit-own}

-- the ones of a node's word below a bit
pub inner-ones : (s : List ℕ) (m a b : ℕ) → b ≤ 15 → ones (word_in s m a % 2 ^ b) ≡ count (inner_in s m a) b
inner-ones s m a b l = rank-count (word_in s m a) (inner_in s m a) b (λ x lx. inner-bit (stands_in s) (hop_in s) (node_at s m a) x (omega arith))

pub child-ones : (s : List ℕ) (m a c : ℕ) → c ≤ 16 → ones (word_in s m a / 2 ^ 16 % 2 ^ c) ≡ count (child_in s m a) c
child-ones s m a c l = upper-count (word_in s m a) (child_in s m a) c (λ x lx. child-bit (stands_in s) (hop_in s) (node_at s m a) x (omega arith))

-- different places for different bits that are set
pub apart : (f : ℕ → Bool) (i j : ℕ) → f i ≡ true → f j ≡ true → (i ≡ j → ⊥) → count f i ≡ count f j → ⊥
apart f i j a b n e = go (below? i j) (below? j i)
  where
    go : (i < j) ⊎ (j ≤ i) → (j < i) ⊎ (i ≤ j) → ⊥
    go (inl l) o = omega (arith, count_less f j i l a)
    go (inr l) (inl o) = omega (arith, count_less f i j o b)
    go (inr l) (inr o) = n (omega arith)

-- the hops of the records from a up to k are put
pub record HopsTo (s : List ℕ) (m a base k : ℕ) (old new : List ℕ) : Type 0 where
  pub same : length new ≡ length old
  pub put : (x : ℕ) → a ≤ x → x < k → (record_at s x).len < 4 * (m + 1) → get_or new (base + count (inner_in s m a) (bit_of m (record_at s x))) 0 ≡ (record_at s x).hop
  pub below : (j : ℕ) → j < base → get_or new j 0 ≡ get_or old j 0
  pub above : (j : ℕ) → base + count (inner_in s m a) 15 ≤ j → get_or new j 0 ≡ get_or old j 0

pub hops-none : (s : List ℕ) (m a base : ℕ) (old : List ℕ) → HopsTo s m a base a old old
hops-none s m a base old = record { same = refl; put = λ x l u. absurd (omega arith); below = λ j l. refl; above = λ j l. refl }

-- a record that goes on below the node has no hop here
pub hops-skip : (s : List ℕ) (m a base k : ℕ) (old new : List ℕ) (r : Route) (w : ℕ) → HopsTo s m a base k old new → r ≡ record_at s k → w ≡ r.len
    → 4 * (m + 1) ≤ w → HopsTo s m a base (k + 1) old new
hops-skip s m a base k old new r w h is ew l = record {
  same = h.same;
  put = λ x u v q. ⊎_elim (λ (e : x ≡ k). absurd (omega (arith, q, ap (λ (y : ℕ). (record_at s y).len) e, ap (λ (y : Route). y.len) is)))
      (λ (v' : x < k). h.put x u v' q) (eq-or-lt_of_le {n = x} {m = k} (omega arith));
  below = h.below;
  above = h.above;
}

module _ (s : List ℕ) (m a e base k word : ℕ) (old new : List ℕ) (ready : HopsReady s m a e word base old) (h : HopsTo s m a base k old new)
    (l : a ≤ k) (u : k < e)
    (r : Route) (is : r ≡ record_at s k) (w : ℕ) (ew : w ≡ r.len) (ends : w < 4 * (m + 1)) (b : ℕ) (eb : b ≡ node_bit m r.addr w) (o : ℕ)
    (eo : o ≡ ones (word % 2 ^ b)) (j : ℕ) (ej : j ≡ o) where
  ends-here : (record_at s k).len < 4 * (m + 1)
  ends-here = omega (arith, ap (λ (y : Route). y.len) is)

  place_is : base + j ≡ base + count (inner_in s m a) (bit_of m (record_at s k))
  place_is =
      let z = own-bit s m a e ready.node k l u ends-here in
      ap (λ (x : ℕ). base + x)
      (ej ∙ eo ∙ ap (λ (x : ℕ). ones (x % 2 ^ b)) ready.word ∙ ap (λ (x : ℕ). ones (word_in s m a % 2 ^ x)) (its-place s m k r is w ew b eb ∙ z.1)
      ∙ inner-ones s m a (bit_of m (record_at s k)) (omega (arith, z.0)))

  less : count (inner_in s m a) (bit_of m (record_at s k)) < count (inner_in s m a) 15
  less = let o = own-bit s m a e ready.node k l u ends-here in count_less (inner_in s m a) 15 (bit_of m (record_at s k)) o.0 o.3

  pub hop-room : base + j < length new
  hop-room = omega (arith, place_is, less, ready.room, h.same)

  -- two records of the node lie at different bits
  other : (x : ℕ) → a ≤ x → x < k → (record_at s x).len < 4 * (m + 1) → base + count (inner_in s m a) (bit_of m (record_at s x)) ≡ base + j → ⊥
  other x v q t z =
      let n = ready.node in
      let ox = own-bit s m a e n x v (omega arith) t in
      let ok = own-bit s m a e n k l u ends-here in
      let lx : x < length s / 8 = omega (arith, n.run.last) in
      let lk : k < length s / 8 = omega (arith, n.run.last) in
      apart (inner_in s m a) (bit_of m (record_at s x)) (bit_of m (record_at s k)) ox.3 ok.3
      (λ (same : bit_of m (record_at s x) ≡ bit_of m (record_at s k)).
      omega (
        arith,
        n.records.rises x k q lk,
        one_key _ _ (record_at s x) (record_at s k) (n.records.each x lx) (n.records.each k lk)
            (subst (λ (y : ℕ). at_bit m (path_at s m a) y (record_at s x) ≡ true) same
            (bit-at m (path_at s m a) (record_at s x) (short s n.records x lx) (n.run.inside x v (omega arith)) t).1)
            (bit-at m (path_at s m a) (record_at s k) (short s n.records k lk) (n.run.inside k l u) ends-here).1,
      ))
      (omega (arith, z, place_is))

  pub hops-more : HopsTo s m a base (k + 1) old (set new (base + j) r.hop)
  hops-more = record {
    same = simp length-set h.same;
    put = λ x v q t. one x v t (eq-or-lt_of_le {n = x} {m = k} (omega arith));
    below = λ i v. get_or-set_other new (base + j) i r.hop 0 (λ (q : i ≡ base + j). omega arith) ∙ h.below i v;
    above = λ i v. get_or-set_other new (base + j) i r.hop 0 (λ (q : i ≡ base + j). omega (arith, place_is, less)) ∙ h.above i v;
  }
    where
      one : (x : ℕ) → a ≤ x → (record_at s x).len < 4 * (m + 1) → (x ≡ k) ⊎ (x < k) → get_or (set new (base + j) r.hop)
          (base + count (inner_in s m a) (bit_of m (record_at s x))) 0 ≡ (record_at s x).hop
      one x v t (inl q) =
          rw (q, ← place_is) (get_or-set_same new (base + j) r.hop 0 hop-room ∙ ap (λ (y : Route). y.hop) is)
      one x v t (inr q) = get_or-set_other new (base + j) _ r.hop 0 (other x v q t) ∙ h.put x v q t

pub hops-done : (s : List ℕ) (m a e base k word : ℕ) (old new : List ℕ) → HopsReady s m a e word base old → k ≤ e → e ≤ k
    → HopsTo s m a base k old new → HopsPut s m a base old new
hops-done s m a e base k word old new ready l u h = record {
  same = h.same;
  put = λ b lb o.
      let f = bit-own s m a e ready.node b lb o in
      let g = own-bit s m a e ready.node f.0 f.1 f.2 f.3 in
      ap (λ (x : ℕ). get_or new (base + count (inner_in s m a) x) 0) f.4 ∙ h.put f.0 f.1 (omega (arith, f.2)) f.3 ∙ sym g.2 ∙ ap
      (bit_hop (hop_in s) (node_at s m a)) (sym f.4);
  below = h.below;
  above = h.above;
}
