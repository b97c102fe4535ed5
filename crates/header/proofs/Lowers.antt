-- The lowered header: no byte but three differs, the time to live is one less, and the mended checksum is the very number worked out afresh.
use mathlib.Core.Path.{◌≡◌, sym, ap, ap₂, ◌∙◌, subst}
use mathlib.Core.Logic.{◌⊎◌, inl, inr, ◌≢◌}
use mathlib.Core.Bool.{true, cond}
use mathlib.Core.List.{List}
use Prim.Native.Nat.{ℕ, ◌+◌, ◌-◌, ◌*◌, ◌/◌, ◌%◌, ◌≤◌, ◌<◌}
use native.Mathlib.Omega.{arith}
use lib.Dec.{eqb}
use lib.ListN.{length, get_or, set, length-set}
use lib.Seq.{get_or-set_same, get_or-set_other}
use borrow.Author.Tests.{eqb-true}
use Rattle.bits.proofs.Bools.{equal?}
use Rattle.header.specs.Sums.{half_of, oplus, right_sum, but_sum, fresh_sum, mended_sum, plain_sum, Folds, SameValue}
use Rattle.header.specs.Header.{new_sum, lowered, Packet}
use Rattle.header.specs.Cases.{FineHeader}
use Rattle.header.proofs.Sums.{folds-itself, folds-more, plain-ten, others, half-small, all-folds, but-folds, right-fresh}

-- the packet after one store, and after two
abbrev once : List ℕ → List ℕ
once p = set p 8 (get_or p 8 0 - 1)

abbrev twice : List ℕ → List ℕ
twice p = set (once p) 10 (new_sum p / 256)

pub lowered-length : (p : List ℕ) → length (lowered p) ≡ length p
unfolding lowered
lowered-length p = simp length-set

-- a byte that is none of the three
pub lowered-other : (p : List ℕ) (j : ℕ) → j ≢ 8 → j ≢ 10 → j ≢ 11 → get_or (lowered p) j 0 ≡ get_or p j 0
unfolding lowered
lowered-other p j a b c =
    get_or-set_other (twice p) 11 j (new_sum p % 256) 0 c ∙ get_or-set_other (once p) 10 j (new_sum p / 256) 0 b
    ∙ get_or-set_other p 8 j (get_or p 8 0 - 1) 0 a

-- the three bytes
module _ (p : List ℕ) (room : 20 ≤ length p) where
  pub lowered-life : get_or (lowered p) 8 0 ≡ get_or p 8 0 - 1
  unfolding lowered
  lowered-life =
      get_or-set_other (twice p) 11 8 (new_sum p % 256) 0 (λ q. omega arith)
      ∙ get_or-set_other (once p) 10 8 (new_sum p / 256) 0 (λ q. omega arith)
      ∙ get_or-set_same p 8 (get_or p 8 0 - 1) 0 (omega arith)

  lowered-high : get_or (lowered p) 10 0 ≡ new_sum p / 256
  unfolding lowered
  lowered-high =
      let inside : 10 < length (once p) = simp length-set (omega arith) in
      get_or-set_other (twice p) 11 10 (new_sum p % 256) 0 (λ q. omega arith) ∙ get_or-set_same (once p) 10 (new_sum p / 256) 0 inside

  lowered-low : get_or (lowered p) 11 0 ≡ new_sum p % 256
  unfolding lowered
  lowered-low =
      let inside : 11 < length (twice p) = simp length-set (omega arith) in
      get_or-set_same (twice p) 11 (new_sum p % 256) 0 inside

  -- the halves: the checksum's, that of the time to live, and the others
  half-5 : half_of (lowered p) 5 ≡ new_sum p
  half-5 = omega (arith, lowered-high, lowered-low)

  half-4 : 2 ≤ get_or p 8 0 → half_of (lowered p) 4 + 256 ≡ half_of p 4
  half-4 l = omega (arith, lowered-life, lowered-other p 9 (λ q. omega arith) (λ q. omega arith) (λ q. omega arith))

  half-other : (i : ℕ) → i ≢ 4 → i ≢ 5 → half_of (lowered p) i ≡ half_of p i
  half-other i a b =
      ap₂ (λ (x y : ℕ). x * 256 + y)
      (lowered-other p (2 * i) (λ q. a (omega arith)) (λ q. b (omega arith)) (λ q. omega arith))
      (lowered-other p (2 * i + 1) (λ q. omega arith) (λ q. omega arith) (λ q. b (omega arith)))

  but-other : (i : ℕ) → i ≢ 4 → but_sum (lowered p) i ≡ but_sum p i
  but-other i a = go (equal? i 5)
    where
      go : (i ≡ 5) ⊎ (i ≢ 5) → but_sum (lowered p) i ≡ but_sum p i
      go (inl e) = rw e
      go (inr n) = ap (cond (eqb i 5) 0) (half-other i a n)

-- f is less than g by 256 at 4, and the same elsewhere
shift_one : (f g : ℕ → ℕ) → f 4 + 256 ≡ g 4 → ((i : ℕ) → i ≢ 4 → f i ≡ g i) → plain_sum f 10 + 256 ≡ plain_sum g 10
shift_one f g e same =
    omega (
      arith,
      e,
      plain-ten f,
      plain-ten g,
      same 0 (λ q. omega arith),
      same 1 (λ q. omega arith),
      same 2 (λ q. omega arith),
      same 3 (λ q. omega arith),
      late 0,
      late 1,
      late 2,
      late 3,
      late 4,
    )
  where
    late : (i : ℕ) → f (5 + i) ≡ g (5 + i)
    late i = same (5 + i) (λ q. omega arith)

mended-small : (hc m m' : ℕ) → mended_sum hc m m' ≤ 65535
unfolding mended_sum
mended-small hc m m' = omega arith

-- what RFC 1624's equation complements
mended-folds : (hc m : ℕ) → hc ≤ 65535 → m ≤ 65535 → Folds (65535 - hc + (65535 - m) + (m - 256)) (oplus (oplus (65535 - hc) (65535 - m)) (m - 256))
mended-folds hc m h u =
    folds-more _ _ (m - 256) (omega arith)
    (folds-more (65535 - hc) (65535 - hc) (65535 - m) (omega arith) (folds-itself (65535 - hc) (omega arith)))

-- Two numbers that differ by a multiple of 65,535 and are 1 to 65,535 are the same. Here: what the others fold to, s lowered by 256, and what
-- RFC 1624's equation folds to, where s with the checksum hc folds to FFFF. The 256 keeps either from being 0.
mend-sum : (s hc m y z : ℕ) → hc ≤ 65535 → m ≤ 65535 → 512 ≤ m → m ≤ s + 256 → Folds (s + 256 + hc) 65535 → Folds s y
    → Folds (65535 - hc + (65535 - m) + (m - 256)) z → y ≡ z
mend-sum s hc m y z h u v w all f g =
    omega (arith, all.sum, f.sum, g.sum, f.some (omega arith), f.small, g.some (omega arith), g.small)

module _ (p : List ℕ) (b : Packet p) (h : FineHeader p) where
  -- the bytes of the lowered packet are bytes
  pub lowered-packet : Packet (lowered p)
  lowered-packet = record { byte = λ j. go j (equal? j 8) (equal? j 10) (equal? j 11) }
    where
      go : (j : ℕ) → (j ≡ 8) ⊎ (j ≢ 8) → (j ≡ 10) ⊎ (j ≢ 10) → (j ≡ 11) ⊎ (j ≢ 11) → get_or (lowered p) j 0 < 256
      go j (inl e) v w = rw e (omega (arith, lowered-life p h.room, b.byte 8))
      go j (inr u) (inl e) w =
          rw e (omega (arith, lowered-high p h.room, mended-small (half_of p 5) (half_of p 4) (half_of p 4 - 256)))
      go j (inr u) (inr v) (inl e) = rw e (omega (arith, lowered-low p h.room))
      go j (inr u) (inr v) (inr w) = omega (arith, lowered-other p j u v w, b.byte j)

  others-less : others (lowered p) + 256 ≡ others p
  others-less = shift_one (but_sum (lowered p)) (but_sum p) (half-4 p h.room h.alive) (but-other p h.room)

  -- the half of the time to live is one of the others
  life-within : half_of p 4 ≤ others p
  life-within = omega (arith, plain-ten (but_sum p))

  -- "mends the checksum (RFC 1624)": not in value alone but the very number, also of a packet that came with FFFF for 0000
  pub mended-fresh : half_of (lowered p) 5 ≡ fresh_sum (lowered p)
  unfolding fresh_sum mended_sum
  mended-fresh =
      let right : Folds (others p + half_of p 5) 65535 = subst (Folds (others p + half_of p 5)) (eqb-true _ 65535 h.right) (all-folds p b) in
      let all : Folds (others (lowered p) + 256 + half_of p 5) 65535
      = subst (λ (x : ℕ). Folds (x + half_of p 5) 65535) (sym others-less) right in
      half-5 p h.room
      ∙ ap (λ (x : ℕ). 65535 - x)
      (sym (mend-sum (others (lowered p)) (half_of p 5) (half_of p 4) _ _ (half-small p b 5) (half-small p b 4) (omega (arith, h.alive))
      (omega (arith, others-less, life-within)) all (but-folds (lowered p) lowered-packet)
      (mended-folds (half_of p 5) (half_of p 4) (half-small p b 5) (half-small p b 4))))

  -- and so it is right
  pub mended-right : right_sum (lowered p) ≡ true
  mended-right =
      (right-fresh (lowered p) lowered-packet (omega (arith, others-less, life-within, h.alive))).1
      (subst (SameValue (half_of (lowered p) 5)) mended-fresh SameValue.equal)
