-- Ones' complement sums: what they are modulo 65,535, and so when a checksum is right.
use mathlib.Core.Path.{◌≡◌, refl, sym, ap, ap₂, ◌∙◌, subst}
use mathlib.Core.Logic.{◌⊎◌, inl, inr, ◌↔◌}
use mathlib.Core.Bool.{Bool, true, false, cond}
use mathlib.Core.List.{List}
use Prim.Native.Nat.{ℕ, zero, suc, ◌+◌, ◌-◌, ◌*◌, ◌/◌, ◌≤◌, ◌<◌}
use native.Mathlib.Nat.{le_step, le_refl}
use native.Mathlib.Omega.{arith}
use lib.Dec.{eqb}
use borrow.Author.Tests.{eqb-true, eq-eqb}
use Rattle.bits.proofs.Bools.{below?}
use Rattle.header.specs.Sums.{half_of, oplus, ones_sum, right_sum, but_sum, fresh_sum, plain_sum, Folds, SameValue}
use Rattle.header.specs.Header.{Packet}

pub folds-itself : (x : ℕ) → x ≤ 65535 → Folds x x
folds-itself x h = record { small = h; some = λ l. l; carries = 0; sum = omega arith }

carried : (y w q : ℕ) → y + 65535 * q + w ≡ oplus y w + 65535 * (q + (y + w) / 65536)
carried y w q = omega arith

-- one more half: a carry out of the top, added at the bottom, takes FFFF away
pub folds-more : (s y w : ℕ) → w ≤ 65535 → Folds s y → Folds (s + w) (oplus y w)
folds-more s y w h f = record {
  small = fits y w f.small h;
  some = λ l. go l (below? 0 s);
  carries = f.carries + (y + w) / 65536;
  sum = ap (λ (x : ℕ). x + w) f.sum ∙ carried y w f.carries;
}
  where
    fits : (y w : ℕ) → y ≤ 65535 → w ≤ 65535 → oplus y w ≤ 65535
    fits y w a b = omega arith

    some_of : (y w : ℕ) → 0 < y + w → 0 < oplus y w
    some_of y w l = omega arith

    go : 0 < s + w → (0 < s) ⊎ (s ≤ 0) → 0 < oplus y w
    go l (inl u) = some_of y w (omega (arith, f.some u))
    go l (inr u) = some_of y w (omega arith)

-- the ones' complement sum is the plain sum modulo 65,535, and 0 for a sum of 0 alone
pub sum-folds : (f : ℕ → ℕ) (n : ℕ) → ((i : ℕ) → i < n → f i ≤ 65535) → Folds (plain_sum f n) (ones_sum f n)
unfolding plain_sum ones_sum
sum-folds f zero h = folds-itself 0 (omega arith)
sum-folds f (suc n) h = folds-more (plain_sum f n) (ones_sum f n) (f n) (h n (le_refl (suc n))) (sum-folds f n (λ i l. h i (le_step l)))

-- a sum is of its halves alone
pub sum_same : (f g : ℕ → ℕ) (n : ℕ) → ((i : ℕ) → i < n → f i ≡ g i) → ones_sum f n ≡ ones_sum g n
unfolding ones_sum
sum_same f g zero h = refl
sum_same f g (suc n) h = ap₂ oplus (sum_same f g n (λ i l. h i (le_step l))) (h n (le_refl (suc n)))

pub plain-ten : (f : ℕ → ℕ) → plain_sum f 10 ≡ f 0 + f 1 + f 2 + f 3 + f 4 + f 5 + f 6 + f 7 + f 8 + f 9
unfolding plain_sum
plain-ten f = omega arith

-- the plain sum of all halves but the checksum's own
abbrev pub others : List ℕ → ℕ
others p = plain_sum (but_sum p) 10

with-own : (a b c d e h f g i j : ℕ) → a + b + c + d + e + h + f + g + i + j ≡ a + b + c + d + e + 0 + f + g + i + j + h
with-own a b c d e h f g i j = omega arith

pub sum-all : (p : List ℕ) → plain_sum (half_of p) 10 ≡ others p + half_of p 5
sum-all p =
    plain-ten (half_of p) ∙ with-own _ _ _ _ _ (half_of p 5) _ _ _ _ ∙ ap (λ (x : ℕ). x + half_of p 5) (sym (plain-ten (but_sum p)))

module _ (p : List ℕ) (b : Packet p) where
  pub half-small : (i : ℕ) → half_of p i ≤ 65535
  half-small i = omega (arith, b.byte (2 * i), b.byte (2 * i + 1))

  but-small : (i : ℕ) → but_sum p i ≤ 65535
  but-small i = go (eqb i 5) (half-small i)
    where
      go : (c : Bool) → half_of p i ≤ 65535 → cond c 0 (half_of p i) ≤ 65535
      go true h = omega arith
      go false h = h

  pub all-folds : Folds (others p + half_of p 5) (ones_sum (half_of p) 10)
  all-folds = subst (λ (x : ℕ). Folds x (ones_sum (half_of p) 10)) (sum-all p) (sum-folds (half_of p) 10 (λ i _. half-small i))

  pub but-folds : Folds (others p) (ones_sum (but_sum p) 10)
  but-folds = sum-folds (but_sum p) 10 (λ i _. but-small i)

-- A checksum h over others that fold to y is the complement of y, or FFFF for 0: what all fold to is FFFF then, and only then.
module _ (s h x y : ℕ) (fits : h ≤ 65535) (some : 0 < s) (all : Folds (s + h) x) (but : Folds s y) where
  value-is : x ≡ 65535 → (h ≡ 65535 - y) ⊎ ((h ≡ 65535) × (65535 - y ≡ 0))
  value-is e = go (below? (h + y) 65536)
    where
      go : (h + y < 65536) ⊎ (65536 ≤ h + y) → (h ≡ 65535 - y) ⊎ ((h ≡ 65535) × (65535 - y ≡ 0))
      go (inl u) = inl (omega (arith, all.sum, but.sum, but.some some, but.small))
      go (inr u) = inr (omega (arith, all.sum, but.sum, but.small), omega (arith, all.sum, but.sum, but.small))

  value-right : (h ≡ 65535 - y) ⊎ ((h ≡ 65535) × (65535 - y ≡ 0)) → x ≡ 65535
  value-right (inl u) = omega (arith, all.sum, but.sum, all.some (omega arith), all.small, but.small)
  value-right (inr u) = omega (arith, all.sum, but.sum, all.some (omega arith), all.small, but.small, u.0, u.1)

-- "a right checksum, equal in ones' complement value to one worked out afresh": each is the other, in any packet but of zeros
module _ (p : List ℕ) (b : Packet p) (some : 0 < others p) where
  abbrev y : ℕ
  y = ones_sum (but_sum p) 10

  fresh-is : fresh_sum p ≡ 65535 - y
  unfolding fresh_sum
  fresh-is = refl

  own_is : (right_sum p ≡ true) ↔ ((half_of p 5 ≡ 65535 - y) ⊎ ((half_of p 5 ≡ 65535) × (65535 - y ≡ 0)))
  own_is = (
    (λ e. value-is (others p) (half_of p 5) _ y (half-small p b 5) some (all-folds p b) (but-folds p b) (eqb-true _ 65535 e)),
    (λ h. eq-eqb _ 65535 (value-right (others p) (half_of p 5) _ y (half-small p b 5) some (all-folds p b) (but-folds p b) h)),
  )

  pub right-fresh : (right_sum p ≡ true) ↔ SameValue (half_of p 5) (fresh_sum p)
  right-fresh = ((λ e. same (own_is.0 e)), (λ v. own_is.1 (apart v refl refl)))
    where
      same : (half_of p 5 ≡ 65535 - y) ⊎ ((half_of p 5 ≡ 65535) × (65535 - y ≡ 0)) → SameValue (half_of p 5) (fresh_sum p)
      same (inl e) = rw (e, fresh-is) SameValue.equal
      same (inr e) = rw (e.0, fresh-is, e.1) SameValue.high_low

      apart : {u v : ℕ} → SameValue u v → u ≡ half_of p 5 → v ≡ fresh_sum p → (half_of p 5 ≡ 65535 - y) ⊎ ((half_of p 5 ≡ 65535) × (65535 - y ≡ 0))
      apart SameValue.equal e q = inl (sym e ∙ q ∙ fresh-is)
      apart SameValue.low_high e q = absurd (omega (arith, q, fresh-is, (but-folds p b).some some, (but-folds p b).small))
      apart SameValue.high_low e q = inr (sym e, sym (q ∙ fresh-is))
