-- The word of a node has exactly the bits at which the records of its run lie.
use mathlib.Core.Path.{◌≡◌, sym, ◌∙◌, ap, subst}
use mathlib.Core.Logic.{◌⊎◌, inl, inr}
use mathlib.Core.Bool.{Bool, true, false, cond, true≢false, false≢true}
use mathlib.Core.List.{List}
use Prim.Native.Nat.{ℕ, ◌+◌, ◌-◌, ◌*◌, ◌/◌, ◌%◌, ◌^◌, ◌≤◌, ◌<◌}
use native.Mathlib.Nat.{eq-or-lt_of_le, div-eq_of_lt}
use native.Mathlib.Omega.{arith}
use lib.Dec.{eqb}
use lib.Pow.{pow_pos}
use lib.ListN.{length}
use borrow.Author.Tests.{lt-ltb, le-ltb, ltb-true, eq-eqb, eqb-true}
use Rattle.bits.specs.Bit.{bit_at}
use Rattle.bits.specs.Count.{bit}
use Rattle.bits.proofs.Bools.{decided, below?}
use Rattle.routes.specs.Record.{record_at}
use Rattle.routes.specs.declared.Route.{Route}
use Rattle.tree_image.specs.Image.{bit_hop, set_bit, word}
use Rattle.tree_image.proofs.Nodes.{set-inner, set-child}
use Rattle.tree_image.proofs.Lies.{pass-parts, up-pass, kid_of, kid_at, kid_is, bit_of, bit-at, bit-pass, bit_is}
use Rattle.tree_node.specs.NodeRuns.{stands_in, hop_in, path_at, node_at, NodeRun, node_bit, node_bit_at, WithBit, inner_in, child_in, word_in}
use Rattle.tree_node.proofs.Marks.{word-bits}
use Rattle.tree_node.proofs.NodeRuns.{stands_at, stands_by, hop-at, hop-by, short}

place-inner : (m addr len : ℕ) → len < 4 * (m + 1) → node_bit m addr len ≡ 2 ^ (len - 4 * m) - 1 + addr / 2 ^ (32 - len) % 2 ^ (len - 4 * m)
unfolding node_bit
place-inner m addr len l = rw (lt-ltb len (4 * (m + 1)) l)

place-outer : (m addr len : ℕ) → 4 * (m + 1) ≤ len → node_bit m addr len ≡ 16 + addr / 2 ^ (32 - 4 * (m + 1)) % 16
unfolding node_bit
place-outer m addr len l = rw (le-ltb len (4 * (m + 1)) l)

module _ (s : List ℕ) (m a e : ℕ) (its : NodeRun s m a e) where
  abbrev p : ℕ
  p = path_at s m a

  abbrev test : ℕ → Bool
  test = set_bit (stands_in s) (hop_in s) (node_at s m a)

  inside : (x : ℕ) → x < e → x < length s / 8
  inside x u = omega (arith, its.run.last)

  -- a record that ends in the node: its bit, and the hop there
  pub own-bit : (x : ℕ) → a ≤ x → x < e → (record_at s x).len < 4 * (m + 1)
      → (bit_of m (record_at s x) < 15) × (node_bit_at s m x ≡ bit_of m (record_at s x)) ×
      (bit_hop (hop_in s) (node_at s m a) (bit_of m (record_at s x)) ≡ (record_at s x).hop) × (inner_in s m a (bit_of m (record_at s x)) ≡ true)
  unfolding bit_hop
  own-bit x l u w =
      let k = bit-at m p (record_at s x) (short s its.records x (inside x u)) (its.run.inside x l u) w in
      let h : bit_hop (hop_in s) (node_at s m a) (bit_of m (record_at s x)) ≡ (record_at s x).hop = hop-at s its.records _ _ x (inside x u) k.1 in (
        k.0,
        place-inner m (record_at s x).addr (record_at s x).len w,
        h,
        lt-ltb 0 (bit_hop (hop_in s) (node_at s m a) (bit_of m (record_at s x))) (rw h (its.records.each x (inside x u)).hop_one),
      )

  -- and the record of a bit that is set
  pub bit-own : (b : ℕ) → b < 15 → inner_in s m a b ≡ true → (x : ℕ) × (a ≤ x) × (x < e) × ((record_at s x).len < 4 * (m + 1)) × (b ≡ bit_of m (record_at s x))
  unfolding bit_hop
  bit-own b l o =
      let f = hop-by s its.records _ _ (ltb-true 0 (bit_hop (hop_in s) (node_at s m a) b) o) in
      let t = bit-pass m p b (record_at s f.0) l (short s its.records f.0 f.1) f.2 in
      let i = its.run.only f.0 f.1 t.0 in
      (f.0, i.0, i.1, t.1, bit_is m p b (record_at s f.0) l (short s its.records f.0 f.1) f.2)

  -- a longer record: its child
  pub own-kid : (x : ℕ) → a ≤ x → x < e → 4 * (m + 1) ≤ (record_at s x).len
      → (node_bit_at s m x ≡ 16 + kid_of m (record_at s x)) × (path_at s (m + 1) x ≡ p * 16 + kid_of m (record_at s x)) ×
      (child_in s m a (kid_of m (record_at s x)) ≡ true)
  own-kid x l u w =
      let t = kid_at m p (record_at s x) (short s its.records x (inside x u)) (its.run.inside x l u) w in (
        place-outer m (record_at s x).addr (record_at s x).len w,
        (pass-parts (m + 1) (p * 16 + kid_of m (record_at s x)) (record_at s x) t).1,
        stands_at s its.records (m + 1) (p * 16 + kid_of m (record_at s x)) x (inside x u) t,
      )

  -- and a record of a child that stands
  pub kid-own : (c : ℕ) → c < 16 → child_in s m a c ≡ true → (x : ℕ) × (a ≤ x) × (x < e) × (4 * (m + 1) ≤ (record_at s x).len) × (c ≡ kid_of m (record_at s x))
  kid-own c l o =
      let f = stands_by s its.records (m + 1) (p * 16 + c) o in
      let i = its.run.only f.0 f.1 (up-pass m p c (record_at s f.0) l (short s its.records f.0 f.1) f.2) in
      (f.0, i.0, i.1, (pass-parts (m + 1) (p * 16 + c) (record_at s f.0) f.2).0, kid_is m p c (record_at s f.0) l f.2)

  -- where a record lies a bit is set
  set_here : (x : ℕ) → a ≤ x → x < e → test (node_bit_at s m x) ≡ true
  set_here x l u = go (below? (record_at s x).len (4 * (m + 1)))
    where
      go : ((record_at s x).len < 4 * (m + 1)) ⊎ (4 * (m + 1) ≤ (record_at s x).len) → test (node_bit_at s m x) ≡ true
      go (inl w) = let k = own-bit x l u w in ap test k.1 ∙ set-inner (stands_in s) (hop_in s) (node_at s m a) (bit_of m (record_at s x)) k.0 ∙ k.3
      go (inr w) = let k = own-kid x l u w in ap test k.0 ∙ set-child (stands_in s) (hop_in s) (node_at s m a) (kid_of m (record_at s x)) ∙ k.2

  -- and no other is
  set-by : (b : ℕ) → b < 32 → test b ≡ true → (x : ℕ) × (a ≤ x) × (x < e) × (node_bit_at s m x ≡ b)
  unfolding set_bit
  set-by b l o = go (below? b 15) (below? b 16)
    where
      go : (b < 15) ⊎ (15 ≤ b) → (b < 16) ⊎ (16 ≤ b) → (x : ℕ) × (a ≤ x) × (x < e) × (node_bit_at s m x ≡ b)
      go (inl u) v =
          let f = bit-own b u (rw (lt-ltb b 15 u) at o) in
          (f.0, f.1, f.2, (own-bit f.0 f.1 f.2 f.3).1 ∙ sym f.4)
      go (inr u) (inl v) = absurd (false≢true (rw (le-ltb b 15 u, lt-ltb b 16 v) at o))
      go (inr u) (inr v) =
          let f = kid-own (b - 16) (omega arith) (rw (le-ltb b 15 u, le-ltb b 16 v) at o) in
          (f.0, f.1, f.2, (own-kid f.0 f.1 f.2 f.3).0 ∙ omega (arith, f.4))

-- a record of the run, as the code has read it
module _ (s : List ℕ) (m k : ℕ) (r : Route) (is : r ≡ record_at s k) (w : ℕ) (ew : w ≡ r.len) where
  the-len : w ≡ (record_at s k).len
  the-len = ew ∙ ap (λ (x : Route). x.len) is

  pub its-low : (a e : ℕ) → NodeRun s m a e → a ≤ k → k < e → 4 * m ≤ w
  its-low a e its l u = omega (arith, the-len, (pass-parts m (path_at s m a) (record_at s k) (its.run.inside k l u)).0)

  pub its-high : (a e : ℕ) → NodeRun s m a e → k < e → w ≤ 32
  its-high a e its u = omega (arith, the-len, short s its.records k (omega (arith, its.run.last)))

  pub its-place : (b : ℕ) → b ≡ node_bit m r.addr w → b ≡ node_bit_at s m k
  its-place b e = e ∙ rw (ew, is)

-- the bits of the records from a up to k are set
pub record MarksTo (s : List ℕ) (m a k w : ℕ) : Type 0 where
  pub fits : w < 2 ^ 32
  pub put : (x : ℕ) → a ≤ x → x < k → bit_at w (node_bit_at s m x) ≡ 1
  pub only : (b : ℕ) → bit_at w b ≡ 1 → (x : ℕ) × (a ≤ x) × (x < k) × (node_bit_at s m x ≡ b)

pub marks-none : (s : List ℕ) (m a : ℕ) → MarksTo s m a a 0
marks-none s m a = record {
  fits = omega arith;
  put = λ x l u. absurd (omega arith);
  only = λ b o. let z : 0 / 2 ^ b ≡ 0 = div-eq_of_lt (pow_pos b) in absurd (omega arith);
}

pub marks-more : (s : List ℕ) (m a k word b v : ℕ) (r : Route) (w : ℕ) → MarksTo s m a k word → a ≤ k → r ≡ record_at s k → w ≡ r.len → b ≡ node_bit m
    r.addr w → WithBit word b v → MarksTo s m a (k + 1) v
marks-more s m a k word b v r w h l is ew eb n = record {
  fits = n.fits;
  put = λ x u v. n.bits (node_bit_at s m x) ∙ put x u (eq-or-lt_of_le {n = x} {m = k} (omega arith)) (decided (eqb (node_bit_at s m x) b));
  only = λ c o. only c (sym (n.bits c) ∙ o) (decided (eqb c b));
}
  where
    e : b ≡ node_bit_at s m k
    e = its-place s m k r is w ew b eb

    put : (x : ℕ) → a ≤ x → (x ≡ k) ⊎ (x < k) → (eqb (node_bit_at s m x) b ≡ true) ⊎ (eqb (node_bit_at s m x) b ≡ false) → cond
        (eqb (node_bit_at s m x) b) 1 (bit_at word (node_bit_at s m x)) ≡ 1
    put x u v (inl t) = rw t
    put x u (inr v) (inr t) = rw t (h.put x u v)
    put x u (inl q) (inr t) = absurd (true≢false (sym (eq-eqb (node_bit_at s m x) b (ap (node_bit_at s m) q ∙ sym e)) ∙ t))

    only : (c : ℕ) → cond (eqb c b) 1 (bit_at word c) ≡ 1 → (eqb c b ≡ true) ⊎ (eqb c b ≡ false) → (x : ℕ) × (a ≤ x) × (x < k + 1) × (node_bit_at s m x ≡ c)
    only c o (inl t) = (k, l, omega arith, sym e ∙ sym (eqb-true c b t))
    only c o (inr t) = let f = h.only c (rw t at o) in (f.0, f.1, omega (arith, f.2), f.3)

pub marks-word : (s : List ℕ) (m a e k w : ℕ) → NodeRun s m a e → k ≤ e → e ≤ k → MarksTo s m a k w → w ≡ word_in s m a
unfolding word
marks-word s m a e k w its l u h =
    word-bits w (set_bit (stands_in s) (hop_in s) (node_at s m a)) h.fits
    (λ b v. go b v (decided (set_bit (stands_in s) (hop_in s) (node_at s m a) b)) (below? (bit_at w b) 1))
  where
    go : (b : ℕ) → b < 32 → (set_bit (stands_in s) (hop_in s) (node_at s m a) b ≡ true) ⊎ (set_bit (stands_in s) (hop_in s) (node_at s m a) b ≡ false) →
        (bit_at w b < 1) ⊎ (1 ≤ bit_at w b)
        → bit_at w b ≡ bit (set_bit (stands_in s) (hop_in s) (node_at s m a) b)
    go b v (inl t) o =
        let f = set-by s m a e its b v t in
        rw t (subst (λ (x : ℕ). bit_at w x ≡ 1) f.3 (h.put f.0 f.1 (omega (arith, f.2))))
    go b v (inr t) (inl o) = rw t (omega arith)
    go b v (inr t) (inr o) =
        let f = h.only b (omega arith) in
        absurd (true≢false (sym (set_here s m a e its f.0 f.1 (omega (arith, f.2))) ∙ ap (set_bit (stands_in s) (hop_in s) (node_at s m a)) f.3 ∙ t))
