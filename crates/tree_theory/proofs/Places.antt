-- The internal bit of a prefix in its node, and what it says: it is set exactly when the prefix stands.
use mathlib.Core.Path.{◌≡◌, refl, sym, ◌∙◌, ap, ap₂, subst}
use mathlib.Core.Logic.{◌⊎◌, inl, inr}
use mathlib.Core.Bool.{Bool, true, false, ◌&&◌, true≢false}
use mathlib.Core.List.{List}
use Prim.Native.Nat.{ℕ, suc, ◌+◌, ◌-◌, ◌*◌, ◌/◌, ◌%◌, ◌^◌, ◌≤◌, ◌<◌}
use native.Mathlib.Nat.{mod-lt}
use native.Mathlib.Numerals.{add-one}
use native.Mathlib.Omega.{arith}
use lib.Dec.{eqb, ltb}
use lib.Pow.{pow_pos, split}
use borrow.Author.Tests.{eq-eqb, eqb-true, ne_eqb, lt-ltb, ltb-true}
use Rattle.bits.specs.Slot.{slot}
use Rattle.bits.proofs.Slots.{slot-up}
use Rattle.bits.proofs.Bools.{equal?, untrue, and_split}
use Rattle.routes.specs.Route.{key_of, Prefix}
use Rattle.routes.specs.declared.Route.{Route}
use Rattle.standing.specs.Standing.{stands}
use Rattle.tree_image.specs.Node.{bits_of, is_set}
use Rattle.tree_image.specs.Image.{node, inner_len, bit_hop, node_stands, hop_for}
use Rattle.tree_image.proofs.Lies.{inner-len}
use Rattle.tree_node.specs.NodeRuns.{node_bit}
use Rattle.tree_same.specs.Read.{reached}
use Rattle.tree_same.specs.Order.{stands_at}
use Rattle.tree_same.specs.Listed.{routes_held}
use Rattle.tree_same.proofs.Back.{Shaped}
use Rattle.tree_same.proofs.Same.{fits}
use Rattle.tree_hold.proofs.Taken.{len_at, bits_at}
use Rattle.tree_hold.proofs.Paths.{path-child, stands-hop}
use Rattle.tree_theory.specs.Stages.{Found, Descent, BitOf, PathEnds}
use Rattle.tree_theory.proofs.Ways.{held-leads, child-held, inner-held}

-- the bit that the code works out
pub bit-worked : (a len b : ℕ) → len ≤ 32 → b ≡ node_bit (len / 4) a len → BitOf a len b
unfolding node_bit
bit-worked a len b l e =
    let j : len - 4 * (len / 4) ≡ len % 4 = omega arith in
    let t : ltb len (4 * (len / 4 + 1)) ≡ true = lt-ltb len (4 * (len / 4 + 1)) (omega arith) in
    let q : b ≡ 2 ^ (len % 4) - 1 + slot len a % 2 ^ (len % 4) = e ∙ rw (t, j) refl in
    record { small = omega (arith, q, (inner-len (len % 4) (slot len a % 2 ^ (len % 4)) (omega arith) (mod-lt (slot len a) (pow_pos (len % 4)))).0); is = q }

module _ {a len b : ℕ} (o : BitOf a len b) (short : len ≤ 32) where
  its-len : inner_len b ≡ len % 4
  its-len = ap inner_len o.is ∙ (inner-len (len % 4) (slot len a % 2 ^ (len % 4)) (omega arith) (mod-lt (slot len a) (pow_pos (len % 4)))).1

  -- it is the bit of this prefix
  pub bit-len : len_at (len / 4) b ≡ len
  bit-len = omega (arith, its-len)

  pub bit-bits : bits_at (slot (4 * (len / 4)) a) b ≡ slot len a
  bit-bits =
      let e : 4 * (len / 4) + len % 4 ≡ len = omega arith in
      let up : slot (4 * (len / 4)) a ≡ slot len a / 2 ^ (len % 4) =
      sym (slot-up (4 * (len / 4)) (len % 4) a (omega arith)) ∙ ap (λ (z : ℕ). slot z a / 2 ^ (len % 4)) e in
      let u : b + 1 - 2 ^ (len % 4) ≡ slot len a % 2 ^ (len % 4) = omega (arith, o.is, pow_pos (len % 4)) in
      ap (λ (z : ℕ). slot (4 * (len / 4)) a * 2 ^ z + (b + 1 - 2 ^ z)) its-len
      ∙ ap₂ (λ (z v : ℕ). z * 2 ^ (len % 4) + v) up u ∙ split (slot len a) (len % 4)

  -- the hop at it is that of the prefix
  pub hop-at-bit : (hop : ℕ → ℕ → ℕ) → bit_hop hop (node (len / 4) (slot (4 * (len / 4)) a)) b ≡ hop len (slot len a)
  unfolding bit_hop
  hop-at-bit hop = ap₂ hop bit-len bit-bits

module _ {ws hs : List ℕ} {n k : ℕ} (s : Found ws hs n k) where
  abbrev rs : List Route
  rs = routes_held ws hs

  abbrev st : ℕ → ℕ → Bool
  st = node_stands rs

  abbrev hop : ℕ → ℕ → ℕ
  hop = hop_for rs

  pub shaped : Shaped st hop
  shaped = fits rs s.good

  module _ {a deep x m : ℕ} (small : a < 2 ^ 32) (w : Descent ws n a deep x m) where
    pub way-stands : stands_at st m (slot (4 * m) a) ≡ true
    way-stands = sym (held-leads shaped s.holds m (slot (4 * m) a)) ∙ w.stands

    -- the next node of the path does not stand, where the way ends before its depth
    pub way-absent : deep ≤ 8 → m < deep → st (suc m) (slot (4 * suc m) a) ≡ false
    way-absent l u =
        let c : slot (4 * (m + 1)) a % 16 ≡ slot (4 * suc m) a % 16 = ap (λ (z : ℕ). slot (4 * z) a % 16) (add-one m) in
        ap (st (suc m)) (path-child st a small m (omega arith))
        ∙ sym (child-held shaped s.holds m (slot (4 * m) a) (slot (4 * suc m) a % 16) way-stands (omega arith))
        ∙ ap₂ (λ (z d : ℕ). is_set (bits_of ws z) (16 + d)) (sym w.at) (sym c) ∙ w.stop u

  module _ {a len b x m : ℕ} (p : Prefix a len) (o : BitOf a len b) (w : Descent ws n a (len / 4) x m) where
    -- at the depth of the prefix
    there : m ≡ len / 4 → is_set (bits_of ws x) b ≡ stands (key_of a len) rs
    there e =
        let t : stands_at st (len / 4) (slot (4 * (len / 4)) a) ≡ true =
        subst (λ (z : ℕ). stands_at st z (slot (4 * z) a) ≡ true) e (way-stands p.addr_ok w) in
        let q : x ≡ reached ws (len / 4) (slot (4 * (len / 4)) a) = w.at ∙ ap (λ (z : ℕ). reached ws z (slot (4 * z) a)) e in
        ap (λ (z : ℕ). is_set (bits_of ws z) b) q ∙ inner-held shaped s.holds (len / 4) (slot (4 * (len / 4)) a) b t o.small
        ∙ ap (ltb 0) (hop-at-bit o p.len_ok hop) ∙ sym (stands-hop a len rs p s.good)

    -- above it
    not_there : m < len / 4 → stands (key_of a len) rs ≡ false
    not_there u =
        stands-hop a len rs p s.good
        ∙ untrue (ltb 0 (hop len (slot len a)))
        (λ t.
        let l = p.len_ok in
        let e : 4 * suc m + (len - 4 * suc m) ≡ len = omega arith in
        let q : slot len a / 2 ^ (len - 4 * suc m) ≡ slot (4 * suc m) a =
        ap (λ (z : ℕ). slot z a / 2 ^ (len - 4 * suc m)) (sym e) ∙ slot-up (4 * suc m) (len - 4 * suc m) a (omega arith) in
        let d = shaped.agree.told (suc m) len (slot len a) (omega arith) (omega arith) l (ltb-true 0 _ t) in
        true≢false (sym d ∙ ap (st (suc m)) q ∙ way-absent p.addr_ok w (omega arith) u))

    -- the bit is set at the depth of the prefix exactly when the prefix stands
    pub there-is : (t : Bool) → t ≡ (eqb m (len / 4) && is_set (bits_of ws x) b) → t ≡ stands (key_of a len) rs
    there-is t e = go (equal? m (len / 4))
      where
        up : m ≤ len / 4
        up = w.upto

        go : (m ≡ len / 4) ⊎ (m ≡ len / 4 → ⊥) → t ≡ stands (key_of a len) rs
        go (inl q) = e ∙ ap (λ (z : Bool). z && is_set (bits_of ws x) b) (eq-eqb m (len / 4) q) ∙ there q
        go (inr q) = e ∙ ap (λ (z : Bool). z && is_set (bits_of ws x) b) (ne_eqb m (len / 4) q) ∙ sym (not_there (omega (arith, up, q)))

    pub there-at : stands (key_of a len) rs ≡ true → m ≡ len / 4
    there-at t = go (equal? m (len / 4))
      where
        up : m ≤ len / 4
        up = w.upto

        go : (m ≡ len / 4) ⊎ (m ≡ len / 4 → ⊥) → m ≡ len / 4
        go (inl q) = q
        go (inr q) = absurd (true≢false (sym t ∙ not_there (omega (arith, up, q))))

-- ---- what the code's test of the end of the way says

pub ends_above : (d deep : ℕ) (t : Bool) → (d ≡ deep → ⊥) → false ≡ (eqb d deep && t)
ends_above d deep t n = rw (ne_eqb d deep n) refl

pub ends_there : (d deep : ℕ) (s t : Bool) → d ≡ deep → s ≡ t → s ≡ (eqb d deep && t)
ends_there d deep s t e q = rw (eq-eqb d deep e) q

-- where the prefix stands, its node is the last one met
pub ends-standing : {ws : List ℕ} {n a len x m b : ℕ} → BitOf a len b → Descent ws n a (len / 4) x m → true ≡ (eqb m (len / 4) && is_set (bits_of ws x) b)
    → PathEnds ws n a len x (len / 4) b true
ends-standing {ws} {n} {a} {len} {x} {m} {b} bit way t =
    let q : m ≡ len / 4 = eqb-true m (len / 4) (and_split (eqb m (len / 4)) (is_set (bits_of ws x) b) (sym t)).0 in
    subst (λ (z : ℕ). PathEnds ws n a len x z b true) q (record { bit = bit; way = way; tells = t })
