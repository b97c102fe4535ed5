-- The sum of a header's halves as it is added up, the tests of a header in order, and the packet as it is lowered: a law for each return.
use mathlib.Core.Path.{◌≡◌, refl, sym, ap, ap₂, ◌∙◌}
use mathlib.Core.Logic.{◌⊎◌, inl, inr, ◌≢◌}
use mathlib.Core.Bool.{true, false}
use mathlib.Core.List.{List}
use Prim.Native.Nat.{ℕ, suc, ◌+◌, ◌-◌, ◌/◌, ◌%◌, ◌≤◌, ◌<◌}
use native.Mathlib.Omega.{arith}
use lib.ListN.{length, get_or, set, length-set}
use borrow.Author.Tests.{eq-eqb, ne_eqb, lt-ltb, le-ltb}
use Rattle.bits.proofs.Bools.{below?, equal?, decided}
use Rattle.header.specs.Sums.{half_of, oplus, ones_sum, right_sum, mended_sum}
use Rattle.header.specs.Header.{header_fault, Lowerable, new_sum, lowered}
use Rattle.header.specs.Cases.{Version4, WrongHeader, FineHeader}

sum-next : (f : ℕ → ℕ) (n : ℕ) → ones_sum f (suc n) ≡ oplus (ones_sum f n) (f n)
unfolding ones_sum
sum-next f n = refl

-- the sum so far
pub sum-none : (p : List ℕ) → 0 ≡ ones_sum (half_of p) 0
unfolding ones_sum
sum-none p = refl

pub sum_more : (p : List ℕ) (i s h x : ℕ) → s ≡ ones_sum (half_of p) i → h ≡ half_of p i → x ≡ oplus s h → x ≡ ones_sum (half_of p) (i + 1)
sum_more p i s h x e q w = w ∙ next ∙ ap (ones_sum (half_of p)) (omega arith)
  where
    next : oplus s h ≡ ones_sum (half_of p) (suc i)
    next = ap₂ oplus e q ∙ sym (sum-next (half_of p) i)

-- the tests, in order
module _ (p : List ℕ) where
  pub too_few : length p < 20 → 19 ≡ header_fault p
  unfolding header_fault
  too_few h = rw (lt-ltb (length p) 20 h)

  module _ (h : 20 ≤ length p) where
    pub other-version : (get_or p 0 0 ≡ 69 → ⊥) → 20 ≡ header_fault p
    unfolding header_fault
    other-version v = rw (le-ltb (length p) 20 h, ne_eqb (get_or p 0 0) 69 v)

    module _ (v : get_or p 0 0 ≡ 69) (x : ℕ) (e : x ≡ ones_sum (half_of p) 10) where
      pub wrong-sum : (x ≡ 65535 → ⊥) → 21 ≡ header_fault p
      unfolding header_fault
      wrong-sum z = rw (le-ltb (length p) 20 h, eq-eqb (get_or p 0 0) 69 v, ← e, ne_eqb x 65535 z)

      module _ (z : x ≡ 65535) where
        pub no-life : get_or p 8 0 < 2 → 22 ≡ header_fault p
        unfolding header_fault
        no-life l = rw (le-ltb (length p) 20 h, eq-eqb (get_or p 0 0) 69 v, ← e, eq-eqb x 65535 z, lt-ltb (get_or p 8 0) 2 l)

        pub no-fault : 2 ≤ get_or p 8 0 → 0 ≡ header_fault p
        unfolding header_fault
        no-fault l = rw (le-ltb (length p) 20 h, eq-eqb (get_or p 0 0) 69 v, ← e, eq-eqb x 65535 z, le-ltb (get_or p 8 0) 2 l)

-- "version 4, header length 5 words" is the byte 45 hex
version-is : (p : List ℕ) → get_or p 0 0 ≡ 69 → Version4 p
version-is p e = record { version = omega arith; words = omega arith }

version-byte : {p : List ℕ} → Version4 p → get_or p 0 0 ≡ 69
version-byte v = omega (arith, v.version, v.words)

-- what is wrong with a header is one case of `WrongHeader`, and if nothing is, it is fine
pub data Judged (p : List ℕ) : ℕ → Type 0 where
  wrong : {n : ℕ} → WrongHeader p n → Judged p n
  fine : FineHeader p → Judged p 0

pub header-judged : (p : List ℕ) → Judged p (header_fault p)
unfolding header_fault
header-judged p = go (below? (length p) 20) (equal? (get_or p 0 0) 69) (decided (right_sum p)) (below? (get_or p 8 0) 2)
  where
    go : (length p < 20) ⊎ (20 ≤ length p) → (get_or p 0 0 ≡ 69) ⊎ (get_or p 0 0 ≢ 69) → (right_sum p ≡ true) ⊎ (right_sum p ≡ false)
        → (get_or p 8 0 < 2) ⊎ (2 ≤ get_or p 8 0) → Judged p (header_fault p)
    go (inl h) v s l = rw (lt-ltb (length p) 20 h) (Judged.wrong (WrongHeader.short h))
    go (inr h) (inr v) s l =
        rw (le-ltb (length p) 20 h, ne_eqb (get_or p 0 0) 69 v) (Judged.wrong (WrongHeader.version h (λ w. v (version-byte w))))
    go (inr h) (inl v) (inr s) l =
        rw (le-ltb (length p) 20 h, eq-eqb (get_or p 0 0) 69 v, s) (Judged.wrong (WrongHeader.checksum h (version-is p v) s))
    go (inr h) (inl v) (inl s) (inl l) =
        rw (le-ltb (length p) 20 h, eq-eqb (get_or p 0 0) 69 v, s, lt-ltb (get_or p 8 0) 2 l) (Judged.wrong (WrongHeader.life h (version-is p v) s l))
    go (inr h) (inl v) (inl s) (inr l) =
        rw (le-ltb (length p) 20 h, eq-eqb (get_or p 0 0) 69 v, s, le-ltb (get_or p 8 0) 2 l)
        (Judged.fine (record { room = h; version = version-is p v; right = s; alive = l }))

pub wrong-some : {p : List ℕ} {n : ℕ} → WrongHeader p n → (19 ≤ n) × (n ≤ 22)
wrong-some (WrongHeader.short h) = (omega arith, omega arith)
wrong-some (WrongHeader.version h v) = (omega arith, omega arith)
wrong-some (WrongHeader.checksum h v s) = (omega arith, omega arith)
wrong-some (WrongHeader.life h v s l) = (omega arith, omega arith)

-- and the cases exclude each other
pub wrong-fault : {p : List ℕ} {n : ℕ} → WrongHeader p n → header_fault p ≡ n
unfolding header_fault
wrong-fault {p} (WrongHeader.short h) = rw (lt-ltb (length p) 20 h)
wrong-fault {p} (WrongHeader.version h v) = rw (le-ltb (length p) 20 h, ne_eqb (get_or p 0 0) 69 (λ e. v (version-is p e)))
wrong-fault {p} (WrongHeader.checksum h v s) = rw (le-ltb (length p) 20 h, eq-eqb (get_or p 0 0) 69 (version-byte v), s)
wrong-fault {p} (WrongHeader.life h v s l) = rw (le-ltb (length p) 20 h, eq-eqb (get_or p 0 0) 69 (version-byte v), s, lt-ltb (get_or p 8 0) 2 l)

pub fine-fault : {p : List ℕ} → FineHeader p → header_fault p ≡ 0
unfolding header_fault
fine-fault {p} h =
    rw (le-ltb (length p) 20 h.room, eq-eqb (get_or p 0 0) 69 (version-byte h.version), h.right, le-ltb (get_or p 8 0) 2 h.alive)

-- a header with no fault is fine, and can be lowered
pub fault-none : (p : List ℕ) (f : ℕ) → f ≡ header_fault p → f ≡ 0 → FineHeader p
fault-none p f e z = go (header-judged p) (sym e ∙ z)
  where
    go : {n : ℕ} → Judged p n → n ≡ 0 → FineHeader p
    go (Judged.wrong w) q = absurd (omega (arith, (wrong-some w).0))
    go (Judged.fine h) q = h

pub fine-lowers : {p : List ℕ} → FineHeader p → Lowerable p
fine-lowers h = record { room = h.room; alive = h.alive }

-- the mended number, and the packet
pub mended-told : (hc m x y : ℕ) → x ≡ oplus (65535 - hc) (65535 - m) → (y ≡ oplus x (m - 256)) × (y < 65536)
    → (65535 - y ≡ mended_sum hc m (m - 256)) × (65535 - y < 65536)
unfolding mended_sum
mended-told hc m x y e q = (ap (λ (w : ℕ). 65535 - w) (q.0 ∙ ap (λ (w : ℕ). oplus w (m - 256)) e), omega arith)

pub new_told : (p : List ℕ) (hc m x : ℕ) → hc ≡ half_of p 5 → m ≡ half_of p 4 → x ≡ mended_sum hc m (m - 256) → x ≡ new_sum p
new_told p hc m x a b e = e ∙ rw (a, b)

pub same_size : (p ys : List ℕ) (a x y : ℕ) → ys ≡ set (set (set p 8 a) 10 x) 11 y → length ys ≡ length p
same_size p ys a x y e = rw e (simp length-set)

pub lowered-told : (p ys : List ℕ) (x : ℕ) → x ≡ new_sum p → ys ≡ set (set (set p 8 (get_or p 8 0 - 1)) 10 (x / 256)) 11 (x % 256) → ys ≡ lowered p
unfolding lowered
lowered-told p ys x e q = q ∙ rw e
