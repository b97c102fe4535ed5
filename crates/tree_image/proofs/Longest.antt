-- Where an image holds routes, each at the bit of its node, the walk finds the longest route that matches. Routes are given here by
-- their hops: `R l q` is the hop of the route of length l whose bits are q, and 0 where there is none.
use Rattle.std.specs.Prelude.{Option, Some, None}
use mathlib.Core.Path.{◌≡◌, refl, sym, ap, subst, ◌∙◌}
use mathlib.Core.Bool.{Bool, true, false, not, cond}
use mathlib.Core.Logic.{◌⊎◌, inl, inr, ⊎_elim}
use mathlib.Core.List.{List}
use Prim.Native.Nat.{ℕ, zero, suc, ◌+◌, ◌-◌, ◌*◌, ◌/◌, ◌%◌, ◌^◌, ◌<◌, ◌≤◌}
use native.Mathlib.Nat.{div-one, eq-or-lt_of_le}
use native.Mathlib.Omega.{arith}
use borrow.Author.Tests.{lt-ltb, le-leb, eq-eqb, ne_eqb}
use lib.Pow.{shr-shr}
use lib.ListN.{length, get_or}
use lib.Count.{ones}
use Rattle.bits.specs.Bit.{bit_at}
use Rattle.bits.proofs.Bools.{decided}
use Rattle.routes.specs.Input.{hop_fine}
use Rattle.standing.specs.Down.{or_next, down}
use Rattle.standing.proofs.Downs.{or-next-none, or-next-some}
use Rattle.tree_image.specs.Node.{bits_of, child_of, base_of, is_set, try_bit, deepest_of, better_of, child_at, nibble_of}
use Rattle.tree_image.specs.Walk.{tree_hop_said, fetched_from, walk_from, tree_said}
use Rattle.tree_image.proofs.Walks.{walk-last, walk-stop, walk-down}

abbrev pub Hops : Type 0
Hops = ℕ → ℕ → ℕ

-- the hop of the longest route shorter than k that matches a, or 0
abbrev pub longest : Hops → ℕ → ℕ → ℕ
longest R a = down (λ l. R l (a / 2 ^ (32 - l)))

-- the internal bit b of a node, and the hop that it leads to
pub record Hopped (R : Hops) (hs : List ℕ) (w base b l q : ℕ) : Type 0 where
  pub off : bit_at w b ≡ 0 → R l q ≡ 0
  pub on : bit_at w b ≡ 1 → (base + ones (w % 2 ^ b) < length hs) × (get_or hs (base + ones (w % 2 ^ b)) 0 ≡ R l q) × (0 < R l q) × (R l q ≤ 32767)

-- the node i, which stands for the path p of 4 * m bits, is lent, and holds the routes of the inner lengths below t
pub record NodeOf (R : Hops) (ws hs : List ℕ) (t m i p : ℕ) : Type 0 where
  pub here : i < length ws / 3
  pub clear : bit_at (bits_of ws i) 15 ≡ 0
  pub holds : (j u : ℕ) → j < t → u < 2 ^ j → Hopped R hs (bits_of ws i) (base_of ws i) (2 ^ j - 1 + u) (4 * m + j) (p * 2 ^ j + u)

-- no route of 4 * (m + 1) bits or more begins with the path p of 4 * (m + 1) bits
abbrev pub NoneBelow : Hops → ℕ → ℕ → Type 0
NoneBelow R m p = (l q : ℕ) → 4 * (m + 1) ≤ l → l ≤ 32 → q / 2 ^ (l - 4 * (m + 1)) ≡ p → R l q ≡ 0

-- the node i and all below it, with d levels below; `st m p` says whether the node for the path p of 4 * m bits stands
unfoldable pub SubtreeHolds : (ℕ → ℕ → Bool) → Hops → List ℕ → List ℕ → ℕ → ℕ → ℕ → ℕ → Type 0
SubtreeHolds st R ws hs zero m i p = NodeOf R ws hs 1 m i p
SubtreeHolds st R ws hs (suc d) m i p = NodeOf R ws hs 4 m i p
    × ((c : ℕ) → c < 16 → st (m + 1) (p * 16 + c) ≡ true
    → (bit_at (bits_of ws i) (16 + c) ≡ 1) × SubtreeHolds st R ws hs d (m + 1) (child_at (bits_of ws i) (child_of ws i) c) (p * 16 + c))
    × ((c : ℕ) → c < 16 → st (m + 1) (p * 16 + c) ≡ false → (bit_at (bits_of ws i) (16 + c) ≡ 0) × NoneBelow R m (p * 16 + c))

-- how many nodes the walk has read when it ends, with d levels below depth m
unfoldable pub reads_from : (ℕ → ℕ → Bool) → ℕ → ℕ → ℕ → ℕ
reads_from st a zero m = m + 1
reads_from st a (suc d) m = cond (st (m + 1) (a / 2 ^ (4 * d))) (reads_from st a d (m + 1)) (m + 1)

-- what is remembered on the way: the place of the hop h, or nothing where h is 0
abbrev Rep : List ℕ → Option ℕ → ℕ → Type 0
Rep hs None h = h ≡ 0
Rep hs (Some i) h = (i < length hs) × (get_or hs i 0 ≡ h) × (0 < h) × (h ≤ 32767)

fetched : (hs : List ℕ) (n h : ℕ) (best : Option ℕ) → Rep hs best h → fetched_from hs n best ≡ tree_hop_said h n
unfolding fetched_from hop_fine
fetched hs n h None r = rw r
fetched hs n h (Some i) r = rw (lt-ltb i (length hs) r.0, r.1, le-leb 1 h r.2, le-leb h 32767 r.3)

-- one bit of a node
bit-cases : (w b : ℕ) → (bit_at w b ≡ 0) ⊎ (bit_at w b ≡ 1)
bit-cases w b = cases (bit_at w b) (omega arith)
  where
    cases : (x : ℕ) → x < 2 → (x ≡ 0) ⊎ (x ≡ 1)
    cases zero h = inl refl
    cases (suc zero) h = inr refl
    cases (suc (suc x)) h = absurd (omega arith)

not_set : (w b : ℕ) → bit_at w b ≡ 0 → is_set w b ≡ false
not_set w b z = ne_eqb (bit_at w b) 1 (λ (o : bit_at w b ≡ 1). omega arith)

try-rep : (R : Hops) (hs : List ℕ) (w base b l q h : ℕ) (rest best : Option ℕ) → Hopped R hs w base b l q
    → Rep hs (better_of w base rest best) h → Rep hs (better_of w base (try_bit w b rest) best) (or_next (R l q) h)
unfolding try_bit better_of
try-rep R hs w base b l q h rest best k r =
    ⊎_elim
    (λ z. rw (not_set w b z, or-next-none (R l q) h (k.off z)) r)
    (λ o. rw (eq-eqb (bit_at w b) 1 o, or-next-some (R l q) h (λ e. omega (arith, (k.on o).2))) (k.on o))
    (bit-cases w b)

-- the lengths of one node
next : (R : Hops) (a k l q : ℕ) → k ≡ suc l → a / 2 ^ (32 - l) ≡ q → longest R a k ≡ or_next (R l q) (longest R a l)
unfolding down
next R a k l q e f = rw (e, f)

-- the first l bits of a, from its first 4 * m + 4 bits x
cut-path : (a m e l n x q : ℕ) → m + suc e ≡ 8 → l + n ≡ 4 * m + 4 → a / 2 ^ (4 * e) ≡ x → x / 2 ^ n ≡ q → a / 2 ^ (32 - l) ≡ q
cut-path a m e l n x q d s h f = let t : 32 - l ≡ 4 * e + n = omega arith in rw (t, ← shr-shr a (4 * e) n, h) f

by_two : (p v : ℕ) → (p * 16 + v) / 2 ≡ p * 8 + v / 2
by_two p v = omega arith

by-four : (p v : ℕ) → (p * 16 + v) / 4 ≡ p * 4 + v / 4
by-four p v = omega arith

by-eight : (p v : ℕ) → (p * 16 + v) / 8 ≡ p * 2 + v / 8
by-eight p v = omega arith

by-sixteen : (p v : ℕ) → v < 16 → (p * 16 + v) / 16 ≡ p
by-sixteen p v h = omega arith

module _ (R : Hops) (ws hs : List ℕ) (a m i p : ℕ) (best : Option ℕ) (r : Rep hs best (longest R a (4 * m))) where
  none-rep : Rep hs (better_of (bits_of ws i) (base_of ws i) None best) (longest R a (4 * m))
  unfolding better_of
  none-rep = r

  own-rep : (t : ℕ) → 0 < t → NodeOf R ws hs t m i p → Rep hs (better_of (bits_of ws i) (base_of ws i) (try_bit (bits_of ws i) 0 None) best)
      (or_next (R (4 * m) p) (longest R a (4 * m)))
  own-rep t h k =
      let e : 4 * m + 0 ≡ 4 * m = omega arith in
      let f : p * 1 + 0 ≡ p = omega arith in
      try-rep R hs _ _ 0 (4 * m) p _ None best (rw (e, f) at (k.holds 0 0 h (omega arith))) none-rep

  -- a node of depth 8: bit 0 alone
  last-rep : NodeOf R ws hs 1 m i p → m ≡ 8 → p ≡ a → Rep hs (better_of (bits_of ws i) (base_of ws i) (try_bit (bits_of ws i) 0 None) best) (longest R a 33)
  last-rep k e f =
      let q : a / 2 ^ (32 - 4 * m) ≡ p = rw (e, f) (omega arith) in
      rw (next R a 33 (4 * m) p (omega arith) q) (own-rep 1 (omega arith) k)

  -- a node above: the four inner lengths
  inner-rep : NodeOf R ws hs 4 m i p → (e v : ℕ) → m + suc e ≡ 8 → v < 16 → a / 2 ^ (4 * e) ≡ p * 16 + v → Rep hs
      (better_of (bits_of ws i) (base_of ws i) (deepest_of (bits_of ws i) v) best) (longest R a (4 * m + 4))
  unfolding deepest_of
  inner-rep k e v d h x =
      rw (
        next R a (4 * m + 4) (4 * m + 3) (p * 8 + v / 2) (omega arith) (cut-path a m e (4 * m + 3) 1 _ _ d (omega arith) x (by_two p v)),
        next R a (4 * m + 3) (4 * m + 2) (p * 4 + v / 4) (omega arith) (cut-path a m e (4 * m + 2) 2 _ _ d (omega arith) x (by-four p v)),
        next R a (4 * m + 2) (4 * m + 1) (p * 2 + v / 8) (omega arith) (cut-path a m e (4 * m + 1) 3 _ _ d (omega arith) x (by-eight p v)),
        next R a (4 * m + 1) (4 * m) p (omega arith) (cut-path a m e (4 * m) 4 _ _ d (omega arith) x (by-sixteen p v h)),
      )
      (try-rep R hs _ _ (7 + v / 2) (4 * m + 3) (p * 8 + v / 2) _ _ best (k.holds 3 (v / 2) (omega arith) (omega arith))
      (try-rep R hs _ _ (3 + v / 4) (4 * m + 2) (p * 4 + v / 4) _ _ best (k.holds 2 (v / 4) (omega arith) (omega arith))
      (try-rep R hs _ _ (1 + v / 8) (4 * m + 1) (p * 2 + v / 8) _ _ best (k.holds 1 (v / 8) (omega arith) (omega arith))
      (own-rep 4 (omega arith) k))))

-- where nothing lies below, no longer route matches
below-zero : (R : Hops) (a m e l : ℕ) → m + suc e ≡ 8 → NoneBelow R m (a / 2 ^ (4 * e)) → 4 * (m + 1) ≤ l → l ≤ 32 → R l (a / 2 ^ (32 - l)) ≡ 0
below-zero R a m e l d none h t =
    none l (a / 2 ^ (32 - l)) h t (let q : (32 - l) + (l - 4 * (m + 1)) ≡ 4 * e = omega arith in shr-shr a (32 - l) (l - 4 * (m + 1)) ∙ ap
    (λ (k : ℕ). a / 2 ^ k) q)

no_longer : (R : Hops) (a m e : ℕ) → m + suc e ≡ 8 → NoneBelow R m (a / 2 ^ (4 * e)) → (k : ℕ) → 4 * (m + 1) ≤ k → k ≤ 33 → longest R a k
    ≡ longest R a (4 * m + 4)
no_longer R a m e d none zero h t = absurd (omega arith)
no_longer R a m e d none (suc l) h t =
    ⊎_elim
    (λ (i : 4 * (m + 1) ≡ suc l). let q : suc l ≡ 4 * m + 4 = omega arith in ap (longest R a) q)
    (λ (i : 4 * (m + 1) < suc l).
    next R a (suc l) l (a / 2 ^ (32 - l)) refl refl
    ∙ or-next-none (R l (a / 2 ^ (32 - l))) (longest R a l) (below-zero R a m e l d none (omega arith) (omega arith))
    ∙ no_longer R a m e d none l (omega arith) (omega arith))
    (eq-or-lt_of_le h)

-- the walk
module _ (st : ℕ → ℕ → Bool) (R : Hops) (ws hs : List ℕ) (a : ℕ) where
  found : (d m i p : ℕ) (best : Option ℕ) → m + d ≡ 8 → p ≡ a / 2 ^ (4 * d) → SubtreeHolds st R ws hs d m i p → Rep hs best (longest R a (4 * m))
      → walk_from d ws hs a i best ≡ tree_hop_said (longest R a 33) (reads_from st a d m)
  unfolding SubtreeHolds reads_from
  found zero m i p best e x k r =
      let n : 9 ≡ m + 1 = omega arith in
      sym (walk-last ws hs a 0 i best _ refl k.here _ refl (not_set (bits_of ws i) 15 k.clear) refl _ _ (tree_hop_said (longest R a 33) (m + 1)) refl refl
      (rw n (sym (fetched hs (m + 1) _ _ (last-rep R ws hs a m i p best r k (omega arith) (x ∙ div-one a))))))
  found (suc d) m i p best e x k r = go (decided (st (m + 1) (a / 2 ^ (4 * d)))) (λ j b. found d (m + 1) j (a / 2 ^ (4 * d)) b (omega arith) refl)
    where
      path : a / 2 ^ (4 * d) ≡ p * 16 + a / 2 ^ (4 * d) % 16
      path =
          let four : 4 * suc d ≡ 4 * d + 4 = omega arith in
          let up : p ≡ a / 2 ^ (4 * d) / 16 = x ∙ ap (λ (n : ℕ). a / 2 ^ n) four ∙ sym (shr-shr a (4 * d) 4) in
          omega arith

      less : suc d - 1 ≡ d
      less = omega arith

      nib : a / 2 ^ (4 * d) % 16 ≡ nibble_of a (suc d - 1)
      nib = rw less refl

      rep : Rep hs (better_of (bits_of ws i) (base_of ws i) (deepest_of (bits_of ws i) (a / 2 ^ (4 * d) % 16)) best) (longest R a (4 * m + 4))
      rep = inner-rep R ws hs a m i p best r k.0 d (a / 2 ^ (4 * d) % 16) e (omega arith) path

      go : (st (m + 1) (a / 2 ^ (4 * d)) ≡ true) ⊎ (st (m + 1) (a / 2 ^ (4 * d)) ≡ false)
          → ((j : ℕ) (b : Option ℕ) → SubtreeHolds st R ws hs d (m + 1) j (a / 2 ^ (4 * d)) → Rep hs b (longest R a (4 * (m + 1)))
          → walk_from d ws hs a j b ≡ tree_hop_said (longest R a 33) (reads_from st a d (m + 1)))
          → walk_from (suc d) ws hs a i best ≡ tree_hop_said (longest R a 33) (cond (st (m + 1) (a / 2 ^ (4 * d))) (reads_from st a d (m + 1)) (m + 1))
      go (inl o) ih =
          let kid = k.1 (a / 2 ^ (4 * d) % 16) (omega arith) (rw path at o) in
          let deeper : 4 * (m + 1) ≡ 4 * m + 4 = omega arith in
          let j : ℕ = child_at (bits_of ws i) (child_of ws i) (a / 2 ^ (4 * d) % 16) in
          let b : Option ℕ = better_of (bits_of ws i) (base_of ws i) (deepest_of (bits_of ws i) (a / 2 ^ (4 * d) % 16)) best in
          rw o
          (sym (walk-down ws hs a (suc d) i best _ refl k.0.here _ refl (not_set (bits_of ws i) 15 k.0.clear)
          (λ (y : suc d ≡ 0). omega arith) _ nib _ refl b refl _ refl j (ap not (eq-eqb _ 1 kid.0)) refl)
          ∙ ap (λ (n : ℕ). walk_from n ws hs a j b) less
          ∙ ih j b (subst (λ (y : ℕ). SubtreeHolds st R ws hs d (m + 1) j y) (sym path) kid.1) (rw deeper rep))
      go (inr z) ih =
          let none = k.2 (a / 2 ^ (4 * d) % 16) (omega arith) (rw path at z) in
          let n : 8 - (suc d - 1) ≡ m + 1 = omega arith in
          rw z
          (sym (walk-stop ws hs a (suc d) i best _ refl k.0.here _ refl (not_set (bits_of ws i) 15 k.0.clear)
          (λ (y : suc d ≡ 0). omega arith) _ nib _ refl _ refl _ refl _ (ap not (not_set (bits_of ws i) (16 + a / 2 ^ (4 * d) % 16) none.0))
          (rw n (sym (fetched hs (m + 1) _ _ (rw (no_longer R a m d e (rw path none.1) 33 (omega arith) (omega arith)) rep))))))

-- Where the image holds the routes R, the walk answers with the hop of the longest route that matches, and with the nodes on the address's path.
pub walk-longest : (st : ℕ → ℕ → Bool) (R : Hops) (ws hs : List ℕ) (a : ℕ) → a < 2 ^ 32 → SubtreeHolds st R ws hs 8 0 0 0 → tree_said ws hs a
    ≡ tree_hop_said (longest R a 33) (reads_from st a 8 0)
unfolding tree_said down
walk-longest st R ws hs a h k = found st R ws hs a 8 0 0 0 None refl (omega arith) k refl
