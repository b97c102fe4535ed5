-- The children of a node, put one by one at their places, where each waits with its run.
use mathlib.Core.Path.{◌≡◌, refl, sym, ◌∙◌, ap, subst}
use mathlib.Core.Logic.{◌⊎◌, inl, inr, ⊎_elim}
use mathlib.Core.Bool.{true}
use mathlib.Core.List.{List}
use Prim.Native.Nat.{ℕ, ◌+◌, ◌*◌, ◌/◌, ◌%◌, ◌^◌, ◌≤◌, ◌<◌}
use native.Mathlib.Nat.{eq-or-lt_of_le}
use native.Mathlib.Omega.{arith}
use lib.Count.{ones}
use lib.ListN.{length, get_or}
use Rattle.bits.specs.Count.{count}
use Rattle.bits.specs.Slot.{slot}
use Rattle.bits.proofs.Bools.{below?, untrue}
use Rattle.routes.specs.Record.{record_at}
use Rattle.routes.specs.declared.Route.{Route}
use Rattle.tree_image.specs.Image.{Node, node}
use Rattle.tree_image.proofs.Counts.{count_less}
use Rattle.tree_image.proofs.Lies.{pass-parts, pass-make, kid_of}
use Rattle.tree_node.specs.NodeRuns.{path_at, node_at, through_at, ThroughRun, NodeRun, RunEnd, child_in, word_in}
use Rattle.tree_node.specs.Queue.{put3, Waits, KidsReady, KidsPut}
use Rattle.tree_node.proofs.Stores.{put3-length, put3-other, put3-at}
use Rattle.tree_node.proofs.NodeRuns.{short, child-run}
use Rattle.tree_node.proofs.Words.{own-kid, kid-own}
use Rattle.tree_node.proofs.Hops.{child-ones, apart}

-- a node that waits still waits where other words change
pub waits-still : (s ws ws' : List ℕ) (x : ℕ) (n : Node) → ((j : ℕ) → 3 * x ≤ j → j < 3 * x + 3 → get_or ws' j 0 ≡ get_or ws j 0) → Waits s ws x n → Waits s ws' x n
waits-still s ws ws' x n same w = record {
  start = w.start;
  stop = w.stop;
  depth = same (3 * x) (omega arith) (omega arith) ∙ w.depth;
  from = same (3 * x + 1) (omega arith) (omega arith) ∙ w.from;
  upto = same (3 * x + 2) (omega arith) (omega arith) ∙ w.upto;
  is = w.is;
  run = w.run;
}

-- the children of the records from a up to k wait, and none of them has a record from k on
pub record KidsTo (s : List ℕ) (m a e t k : ℕ) (old new : List ℕ) : Type 0 where
  pub same : length new ≡ length old
  pub wait : (x : ℕ) → a ≤ x → x < k → 4 * (m + 1) ≤ (record_at s x).len → Waits s new (t + count (child_in s m a) (kid_of m (record_at s x))) (node_at s (m + 1) x)
  pub clean : (x y : ℕ) → a ≤ x → x < k → k ≤ y → y < e → 4 * (m + 1) ≤ (record_at s y).len → through_at s (m + 1) (path_at s (m + 1) y) x ≡ true → ⊥
  pub below : (j : ℕ) → j < 3 * t → get_or new j 0 ≡ get_or old j 0
  pub above : (j : ℕ) → 3 * (t + count (child_in s m a) 16) ≤ j → get_or new j 0 ≡ get_or old j 0

pub kids-none : (s : List ℕ) (m a e t : ℕ) (old : List ℕ) → KidsTo s m a e t a old old
kids-none s m a e t old = record {
  same = refl;
  wait = λ x l u. absurd (omega arith);
  clean = λ x y l u. absurd (omega arith);
  below = λ j l. refl;
  above = λ j l. refl;
}

-- a record that ends in the node has no child
pub kids-skip : (s : List ℕ) (m a e t k : ℕ) (old new : List ℕ) (r : Route) (w : ℕ) → KidsTo s m a e t k old new → r ≡ record_at s k → w ≡ r.len
    → w < 4 * (m + 1) → KidsTo s m a e t (k + 1) old new
kids-skip s m a e t k old new r w h is ew ends = record {
  same = h.same;
  wait = λ x l u q. ⊎_elim (λ (z : x ≡ k). absurd (omega (arith, q, own x z))) (λ (v : x < k). h.wait x l v q) (eq-or-lt_of_le {n = x} {m = k} (omega arith));
  clean = λ x y l u v i q o.
      ⊎_elim
      (λ (z : x ≡ k). omega (arith, own x z, (pass-parts (m + 1) (path_at s (m + 1) y) (record_at s x) o).0))
      (λ (g : x < k). h.clean x y l g (omega arith) i q o)
      (eq-or-lt_of_le {n = x} {m = k} (omega arith));
  below = h.below;
  above = h.above;
}
  where
    own : (x : ℕ) → x ≡ k → (record_at s x).len < 4 * (m + 1)
    own x z = omega (arith, ap (λ (y : ℕ). (record_at s y).len) z, ap (λ (y : Route). y.len) is)

-- a node with a child is not of the last depth
module _ (s : List ℕ) (m a e k : ℕ) (r : Route) (w : ℕ) (its : NodeRun s m a e) (u : k < e) (is : r ≡ record_at s k) (ew : w ≡ r.len)
    (long : 4 * (m + 1) ≤ w) where
  pub kid-slot : 4 * (m + 1) ≤ 32
  kid-slot = omega (arith, ap (λ (y : Route). y.len) is, short s its.records k (omega (arith, its.run.last)))

  pub kid-deep : m + 1 ≤ 8
  kid-deep = omega (arith, kid-slot)

module _ (s : List ℕ) (m a e t k word : ℕ) (old new : List ℕ) (ready : KidsReady s m a e word t old) (h : KidsTo s m a e t k old new) (l : a ≤ k) (u : k < e)
    (r : Route) (is : r ≡ record_at s k) (w : ℕ) (ew : w ≡ r.len) (long : 4 * (m + 1) ≤ w) (j o q : ℕ) (ej : j ≡ o)
    (eo : o ≡ ones (word / 2 ^ 16 % 2 ^ (q % 16))) (eq : q ≡ slot (4 * (m + 1)) r.addr) where
  goes_on : 4 * (m + 1) ≤ (record_at s k).len
  goes_on = omega (arith, ap (λ (y : Route). y.len) is)

  mine : (path_at s (m + 1) k ≡ path_at s m a * 16 + kid_of m (record_at s k)) × (child_in s m a (kid_of m (record_at s k)) ≡ true)
  mine = let o = own-kid s m a e ready.node k l u goes_on in (o.1, o.2)

  place_is : t + j ≡ t + count (child_in s m a) (kid_of m (record_at s k))
  place_is =
      ap (λ (x : ℕ). t + x)
      (ej ∙ eo ∙ ap (λ (x : ℕ). ones (x / 2 ^ 16 % 2 ^ (q % 16))) ready.word ∙ ap (λ (x : ℕ). ones (word_in s m a / 2 ^ 16 % 2 ^ (x % 16)))
      (eq ∙ ap (λ (y : Route). slot (4 * (m + 1)) y.addr) is)
      ∙ child-ones s m a (kid_of m (record_at s k)) (omega arith))

  less : count (child_in s m a) (kid_of m (record_at s k)) < count (child_in s m a) 16
  less = count_less (child_in s m a) 16 (kid_of m (record_at s k)) (omega arith) mine.1

  pub kid-room : 3 * (t + j) + 3 ≤ length new
  kid-room = omega (arith, place_is, less, ready.room, h.same)

  module _ (z : ℕ) (end : RunEnd s (m + 1) k e z) (from upto : ℕ) (ef : from ≡ k) (eu : upto ≡ z) (new' : List ℕ)
      (en : new' ≡ put3 new (t + j) (m + 1) from upto) where
    run : ThroughRun s (m + 1) (path_at s (m + 1) k) k z
    run =
        child-run s ready.node.records m (path_at s m a) a e k z ready.node.run l u goes_on
        (λ y v g. untrue _ (λ o. h.clean y k v g (omega arith) u goes_on o)) end

    far : (i : ℕ) → (i < 3 * (t + j)) ⊎ (3 * (t + j) + 3 ≤ i) → get_or new' i 0 ≡ get_or new i 0
    far i o = ap (λ (x : List ℕ). get_or x i 0) en ∙ put3-other new (t + j) (m + 1) from upto i o

    -- the records before have other children
    other : (x : ℕ) → a ≤ x → x < k → 4 * (m + 1) ≤ (record_at s x).len → count (child_in s m a) (kid_of m (record_at s x)) ≡ count (child_in s m a)
        (kid_of m (record_at s k)) → ⊥
    other x v g b c =
        let o = own-kid s m a e ready.node x v (omega arith) b in
        apart (child_in s m a) (kid_of m (record_at s x)) (kid_of m (record_at s k)) o.2 mine.1
        (λ (i : kid_of m (record_at s x) ≡ kid_of m (record_at s k)).
        h.clean x k v g (omega arith) u goes_on (pass-make (m + 1) (path_at s (m + 1) k) (record_at s x) b
        (o.1 ∙ ap (λ (y : ℕ). path_at s m a * 16 + y) i ∙ sym mine.0))) c

    -- the records of this child
    same-path : (x : ℕ) → k ≤ x → x < z → path_at s (m + 1) x ≡ path_at s (m + 1) k
    same-path x v g = (pass-parts (m + 1) (path_at s (m + 1) k) (record_at s x) (run.inside x v g)).1

    here-waits : Waits s new' (t + count (child_in s m a) (kid_of m (record_at s k))) (node_at s (m + 1) k)
    here-waits =
        let at = put3-at new (t + j) (m + 1) from upto kid-room in
        rw (← place_is, en)
        record { start = k; stop = z; depth = at.0; from = at.1 ∙ ef; upto = at.2 ∙ eu; is = refl; run = run }

    pub kids-more : KidsTo s m a e t z old new'
    kids-more = record {
      same = ap length en ∙ put3-length new (t + j) (m + 1) from upto ∙ h.same;
      wait = λ x v g b. wait x v g b (below? x k);
      clean = λ x y v g i n b o. clean x y v g i n b o (below? x k);
      below = λ i v. far i (inl (omega arith)) ∙ h.below i v;
      above = λ i v. far i (inr (omega (arith, place_is, less))) ∙ h.above i v;
    }
      where
        wait : (x : ℕ) → a ≤ x → x < z → 4 * (m + 1) ≤ (record_at s x).len → (x < k) ⊎ (k ≤ x) → Waits s new'
            (t + count (child_in s m a) (kid_of m (record_at s x))) (node_at s (m + 1) x)
        wait x v g b (inl o) =
            let n : t + count (child_in s m a) (kid_of m (record_at s x)) ≡ t + j → ⊥ = λ c. other x v o b (omega (arith, c, place_is)) in
            waits-still s new new' _ _ (λ i p c. far i (side i p c (below? (t + count (child_in s m a) (kid_of m (record_at s x))) (t + j)) n)) (h.wait x v o b)
          where
            side : (i : ℕ) → 3 * (t + count (child_in s m a) (kid_of m (record_at s x))) ≤ i → i < 3 * (t + count (child_in s m a) (kid_of m (record_at s x))) + 3
                → (t + count (child_in s m a) (kid_of m (record_at s x)) < t + j) ⊎ (t + j ≤ t + count (child_in s m a) (kid_of m (record_at s x)))
                → (t + count (child_in s m a) (kid_of m (record_at s x)) ≡ t + j → ⊥) → (i < 3 * (t + j)) ⊎ (3 * (t + j) + 3 ≤ i)
            side i p c (inl d) n = inl (omega arith)
            side i p c (inr d) n =
                inr (⊎_elim (λ (f : t + j ≡ t + count (child_in s m a) (kid_of m (record_at s x))). absurd (n (sym f)))
                (λ (f : t + j < t + count (child_in s m a) (kid_of m (record_at s x))). omega arith) (eq-or-lt_of_le d))
        wait x v g b (inr o) = subst (λ (y : ℕ). Waits s new' (t + count (child_in s m a) (y % 16)) (node (m + 1) y)) (sym (same-path x o g)) here-waits

        clean : (x y : ℕ) → a ≤ x → x < z → z ≤ y → y < e → 4 * (m + 1) ≤ (record_at s y).len → through_at s (m + 1) (path_at s (m + 1) y) x ≡ true →
            (x < k) ⊎ (k ≤ x) → ⊥
        clean x y v g i n b o (inl d) = h.clean x y v d (omega (arith, end.after)) n b o
        clean x y v g i n b o (inr d) =
            let c = run.only y (omega (arith, ready.node.run.last))
            (pass-make (m + 1) (path_at s (m + 1) k) (record_at s y) b
            (sym (pass-parts (m + 1) (path_at s (m + 1) y) (record_at s x) o).1 ∙ same-path x d g)) in
            omega (arith, c.1)

-- the same, from what the code has done
pub kids-put : (s : List ℕ) (m a e t k word : ℕ) (old new new' : List ℕ) (j from upto : ℕ) → new' ≡ put3 new (t + j) (m + 1) from upto
    → KidsReady s m a e word t old → KidsTo s m a e t k old new → a ≤ k → k < e
    → (r : Route) → r ≡ record_at s k → (w : ℕ) → w ≡ r.len → 4 * (m + 1) ≤ w → (o : ℕ) → j ≡ o → (q : ℕ) → o ≡ ones (word / 2 ^ 16 % 2 ^ (q % 16))
    → q ≡ slot (4 * (m + 1)) r.addr
    → (z : ℕ) → RunEnd s (m + 1) k e z → from ≡ k → upto ≡ z → KidsTo s m a e t z old new'
kids-put s m a e t k word old new new' j from upto en ready h l u r is w ew long o ej q eo eq z end ef eu =
    kids-more s m a e t k word old new ready h l u r is w ew long j o q ej eo eq z end from upto ef eu new' en

pub kids-done : (s : List ℕ) (m a e t k word : ℕ) (old new : List ℕ) → KidsReady s m a e word t old → k ≤ e → e ≤ k → KidsTo s m a e t k old new
    → KidsPut s m a t old new
kids-done s m a e t k word old new ready l u h = record {
  same = h.same;
  wait = λ c lc o.
      let f = kid-own s m a e ready.node c lc o in
      let g = own-kid s m a e ready.node f.0 f.1 f.2 f.3 in
      let p : path_at s (m + 1) f.0 ≡ path_at s m a * 16 + c = g.1 ∙ ap (λ (y : ℕ). path_at s m a * 16 + y) (sym f.4) in
      subst (λ (y : ℕ). Waits s new (t + count (child_in s m a) c) (node (m + 1) y)) p
      (subst (λ (y : ℕ). Waits s new (t + count (child_in s m a) y) (node_at s (m + 1) f.0)) (sym f.4)
      (h.wait f.0 f.1 (omega (arith, f.2)) f.3));
  below = h.below;
  above = h.above;
}
