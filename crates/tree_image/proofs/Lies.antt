-- A route that passes through a node lies at one bit of it: at an internal bit, or at the extending bit of one child.
use mathlib.Core.Path.{◌≡◌, refl, sym, ◌∙◌, ap, subst}
use mathlib.Core.Logic.{◌⊎◌, inl, inr}
use mathlib.Core.Bool.{Bool, true, false, ◌||◌, or-true, false≢true}
use mathlib.Core.List.Memᴰ
use mathlib.Core.List.{List, [], ◌∷◌, Memᴰ}
use Prim.Native.Nat.{ℕ, zero, suc, ◌+◌, ◌-◌, ◌*◌, ◌/◌, ◌%◌, ◌^◌, ◌≤◌, ◌<◌}
use native.Mathlib.Nat.{mod-lt}
use native.Mathlib.Omega.{arith}
use lib.Dec.{ltb, leb, eqb}
use lib.Pow.{split, pow_pos, high}
use borrow.Author.Tests.{ltb-true, ltb-false, lt-ltb, le-ltb, le-leb, leb-true, eqb-true, eq-eqb}
use Rattle.bits.specs.Slot.{slot}
use Rattle.bits.proofs.Slots.{slot-up}
use Rattle.bits.proofs.Bools.{decided, both, and_split, or_split}
use Rattle.routes.specs.Route.{Good}
use Rattle.standing.specs.Cells.{here, any, first, or_else}
use Rattle.routes.specs.declared.Route.{Route}
use Rattle.standing.proofs.Longest.{here-parts}
use Rattle.standing.proofs.Prefixes.{first-here}
use Rattle.tree_image.specs.Image.{inner_len, through, hop_for}

-- some route of a list passes a test
pub any-is : (f : Route → Bool) (rs : List Route) → any f rs ≡ true → (r : Route) × Memᴰ r rs × (f r ≡ true)
unfolding any
any-is f [] e = absurd (false≢true e)
any-is f (r ∷ rs) e = go (or_split (f r) (any f rs) e) (any-is f rs)
  where
    go : (f r ≡ true) ⊎ (any f rs ≡ true) → (any f rs ≡ true → (x : Route) × Memᴰ x rs × (f x ≡ true)) → (x : Route) × Memᴰ x (r ∷ rs) × (f x ≡ true)
    go (inl p) ih = (r, Memᴰ.head refl, p)
    go (inr q) ih = let w = ih q in (w.0, Memᴰ.tail w.1, w.2)

pub any-mem : (f : Route → Bool) (rs : List Route) (r : Route) → Memᴰ r rs → f r ≡ true → any f rs ≡ true
unfolding any
any-mem f [] r m e = absurd (Memᴰ.not-nil m)
any-mem f (x ∷ rs) r m e = go (Memᴰ.cases_cons m) (λ k. any-mem f rs r k e)
  where
    go : (r ≡ x) ⊎ Memᴰ r rs → (Memᴰ r rs → any f rs ≡ true) → (f x || any f rs) ≡ true
    go (inl q) ih = let t : f x ≡ true = rw q at e in rw t
    go (inr k) ih = rw (ih k) (or-true (f x))

-- a hop is found only where a route has the prefix
pub found-any : (f : Route → Bool) (rs : List Route) → 0 < or_else (first f rs) 0 → any f rs ≡ true
unfolding first any
found-any f [] h = absurd (omega arith)
found-any f (r ∷ rs) h = go (decided (f r)) (found-any f rs)
  where
    go : (f r ≡ true) ⊎ (f r ≡ false) → (0 < or_else (first f rs) 0 → any f rs ≡ true) → (f r || any f rs) ≡ true
    go (inl e) ih = rw e
    go (inr e) ih = rw e (ih (rw e at h))

-- the hop of a prefix is that of its route
pub hop-of : (l q : ℕ) (rs : List Route) (r : Route) → Good rs → Memᴰ r rs → here l q r ≡ true → hop_for rs l q ≡ r.hop
hop-of l q rs r g m e = ap (λ (x : ℕ). or_else x 0) (first-here l q rs r g m e)

pub pass-parts : (m p : ℕ) (r : Route) → through m p r ≡ true → (4 * m ≤ r.len) × (slot (4 * m) r.addr ≡ p)
pass-parts m p r e =
    let s = and_split (leb (4 * m) r.len) (eqb (slot (4 * m) r.addr) p) e in
    (leb-true (4 * m) r.len s.0, eqb-true (slot (4 * m) r.addr) p s.1)

pub pass-make : (m p : ℕ) (r : Route) → 4 * m ≤ r.len → slot (4 * m) r.addr ≡ p → through m p r ≡ true
pass-make m p r l e = both (le-leb (4 * m) r.len l) (eq-eqb (slot (4 * m) r.addr) p e)

-- the path of a child is that of the node and four bits more
path-up : (m a : ℕ) → 4 * (m + 1) ≤ 32 → slot (4 * (m + 1)) a / 16 ≡ slot (4 * m) a
path-up m a h =
    let q : 4 * (m + 1) ≡ 4 * m + 4 = omega arith in
    ap (λ (x : ℕ). slot x a / 16) q ∙ slot-up (4 * m) 4 a (omega arith)

-- a route of a child passes through the node
pub up-pass : (m p c : ℕ) (r : Route) → c < 16 → r.len ≤ 32 → through (m + 1) (p * 16 + c) r ≡ true → through m p r ≡ true
up-pass m p c r l h e =
    let s = pass-parts (m + 1) (p * 16 + c) r e in
    pass-make m p r (omega arith) (omega (arith, path-up m r.addr (omega arith), s.1))

-- the four bits by which a longer route leaves the node
abbrev pub kid_of : ℕ → Route → ℕ
kid_of m r = slot (4 * (m + 1)) r.addr % 16

pub kid_at : (m p : ℕ) (r : Route) → r.len ≤ 32 → through m p r ≡ true → 4 * (m + 1) ≤ r.len → through (m + 1) (p * 16 + kid_of m r) r ≡ true
kid_at m p r h e l =
    pass-make (m + 1) (p * 16 + kid_of m r) r l (omega (arith, path-up m r.addr (omega arith), (pass-parts m p r e).1))

pub kid_is : (m p c : ℕ) (r : Route) → c < 16 → through (m + 1) (p * 16 + c) r ≡ true → c ≡ kid_of m r
kid_is m p c r l e = omega (arith, (pass-parts (m + 1) (p * 16 + c) r e).1)

-- the route of the internal bit b
abbrev pub at_bit : ℕ → ℕ → ℕ → Route → Bool
at_bit m p b r = here (4 * m + inner_len b) (p * 2 ^ inner_len b + (b + 1 - 2 ^ inner_len b)) r

-- the inner length of a bit, and the bits there
pub inner-cases : (b : ℕ) → b < 15 → (inner_len b ≤ 3) × (2 ^ inner_len b ≤ b + 1) × (b + 1 - 2 ^ inner_len b < 2 ^ inner_len b)
inner-cases b l = go (decided (ltb b 1)) (decided (ltb b 3)) (decided (ltb b 7))
  where
    go : (ltb b 1 ≡ true) ⊎ (ltb b 1 ≡ false) → (ltb b 3 ≡ true) ⊎ (ltb b 3 ≡ false) → (ltb b 7 ≡ true) ⊎ (ltb b 7 ≡ false)
        → (inner_len b ≤ 3) × (2 ^ inner_len b ≤ b + 1) × (b + 1 - 2 ^ inner_len b < 2 ^ inner_len b)
    go (inl x) y z = rw x (omega arith, omega arith, omega (arith, ltb-true b 1 x))
    go (inr x) (inl y) z = rw (x, y) (omega arith, omega (arith, ltb-false b 1 x), omega (arith, ltb-true b 3 y))
    go (inr x) (inr y) (inl z) = rw (x, y, z) (omega arith, omega (arith, ltb-false b 3 y), omega (arith, ltb-true b 7 z))
    go (inr x) (inr y) (inr z) = rw (x, y, z) (omega arith, omega (arith, ltb-false b 7 z), omega arith)

-- the bit of an inner length j and the bits u there
pub inner-len : (j u : ℕ) → j < 4 → u < 2 ^ j → (2 ^ j - 1 + u < 15) × (inner_len (2 ^ j - 1 + u) ≡ j)
inner-len zero u a b = (omega arith, rw (lt-ltb (0 + u) 1 (omega arith)))
inner-len (suc zero) u a b = (omega arith, rw (le-ltb (1 + u) 1 (omega arith), lt-ltb (1 + u) 3 (omega arith)))
inner-len (suc (suc zero)) u a b = (omega arith, rw (le-ltb (3 + u) 1 (omega arith), le-ltb (3 + u) 3 (omega arith), lt-ltb (3 + u) 7 (omega arith)))
inner-len (suc (suc (suc zero))) u a b = (omega arith, rw (le-ltb (7 + u) 1 (omega arith), le-ltb (7 + u) 3 (omega arith), le-ltb (7 + u) 7 (omega arith)))
inner-len (suc (suc (suc (suc j)))) u a b = absurd (omega arith)

-- the bit at which a route that ends in the node lies
abbrev pub bit_of : ℕ → Route → ℕ
bit_of m r = 2 ^ (r.len - 4 * m) - 1 + slot r.len r.addr % 2 ^ (r.len - 4 * m)

-- the first bits of the route are the path and the bits there
whole : (m p : ℕ) (r : Route) → r.len ≤ 32 → through m p r ≡ true → slot r.len r.addr ≡ p * 2 ^ (r.len - 4 * m) + slot r.len
    r.addr % 2 ^ (r.len - 4 * m)
whole m p r h e =
    let l = (pass-parts m p r e).0 in
    let j : ℕ = r.len - 4 * m in
    let sum : 4 * m + (r.len - 4 * m) ≡ r.len = omega arith in
    sym (split (slot r.len r.addr) (r.len - 4 * m))
    ∙ ap (λ (x : ℕ). x * 2 ^ (r.len - 4 * m) + slot r.len r.addr % 2 ^ (r.len - 4 * m))
    (ap (λ (x : ℕ). slot x r.addr / 2 ^ (r.len - 4 * m)) (sym sum) ∙ slot-up (4 * m) (r.len - 4 * m) r.addr (omega arith) ∙ (pass-parts m p r e).1)

pub bit-at : (m p : ℕ) (r : Route) → r.len ≤ 32 → through m p r ≡ true → r.len < 4 * (m + 1) → (bit_of m r < 15) × (at_bit m p (bit_of m r) r ≡ true)
bit-at m p r h e u =
    let l = (pass-parts m p r e).0 in
    let il = inner-len (r.len - 4 * m) (slot r.len r.addr % 2 ^ (r.len - 4 * m)) (omega arith)
    (mod-lt (slot r.len r.addr) (pow_pos (r.len - 4 * m))) in
    let sum : 4 * m + (r.len - 4 * m) ≡ r.len = omega arith in (
      il.0,
      subst (λ (x : ℕ). here (4 * m + x) (p * 2 ^ x + (bit_of m r + 1 - 2 ^ x)) r ≡ true) (sym il.1)
          (both (eq-eqb r.len (4 * m + (r.len - 4 * m)) (sym sum))
          (eq-eqb _ _ (ap (λ (x : ℕ). slot x r.addr) sum ∙ whole m p r h e ∙ ap (λ (x : ℕ). p * 2 ^ (r.len - 4 * m) + x)
          (omega (arith, pow_pos (r.len - 4 * m)))))),
    )

-- a route at an internal bit passes through the node and ends in it
pub bit-pass : (m p b : ℕ) (r : Route) → b < 15 → r.len ≤ 32 → at_bit m p b r ≡ true → (through m p r ≡ true) × (r.len < 4 * (m + 1))
bit-pass m p b r l h e =
    let k = inner-cases b l in
    let s = here-parts (4 * m + inner_len b) _ r e in
    let t : slot (4 * m) r.addr ≡ p = sym (slot-up (4 * m) (inner_len b) r.addr (omega arith)) ∙ ap (λ (x : ℕ). x / 2 ^ inner_len b) s.1
    ∙ high p (inner_len b) k.2 in
    (pass-make m p r (omega arith) t, omega arith)

unique : (p i j u b x : ℕ) → i ≡ j → x ≡ p * 2 ^ i + (b + 1 - 2 ^ i) → x ≡ p * 2 ^ j + u → 2 ^ i ≤ b + 1 → b ≡ 2 ^ j - 1 + u
unique p i j u b x e hx hu hl =
    let a : x ≡ p * 2 ^ j + (b + 1 - 2 ^ j) = rw e at hx in
    let c : 2 ^ j ≤ b + 1 = rw e at hl in
    omega (arith, pow_pos j)

pub bit_is : (m p b : ℕ) (r : Route) → b < 15 → r.len ≤ 32 → at_bit m p b r ≡ true → b ≡ bit_of m r
bit_is m p b r l h e =
    let s = here-parts (4 * m + inner_len b) _ r e in
    unique p (inner_len b) (r.len - 4 * m) _ b (slot r.len r.addr) (omega (arith, s.0))
    (ap (λ (x : ℕ). slot x r.addr) s.0 ∙ s.1) (whole m p r h (bit-pass m p b r l h e).0) (inner-cases b l).1
