-- The test of the sizes, its number and its facts say the same.
use mathlib.Core.Path.{◌≡◌, sym, ap, ◌∙◌}
use mathlib.Core.Logic.{◌⊎◌, inl, inr}
use mathlib.Core.Bool.{Bool, true, false, true≢false}
use Prim.Native.Nat.{ℕ, ◌*◌, ◌%◌, ◌^◌, ◌≤◌, ◌<◌}
use native.Mathlib.Nat.{mul-le-mul}
use native.Mathlib.Omega.{arith}
use lib.Dec.{eqb, leb}
use lib.ListN.{length}
use borrow.Author.Tests.{leb-true, le-leb, eqb-true, eq-eqb}
use Rattle.bits.specs.Tab.{Tells}
use Rattle.bits.proofs.Bools.{both, and_split, untrue, same, decided}
use Rattle.sail.specs.Geometry.{bits2, bits3, valid_geo, Valid}
use Rattle.sail.specs.Lent.{Lent, cells_of}
use Rattle.sail.specs.Sizes.{sizes_fit, lengths_fit, sizes_fault, Sized, Celled, SizesTold}
use Rattle.sail.specs.declared.geometry.Geometry.{Geometry}
use Rattle.sail.proofs.Geos.{valid-is}

-- chunks times their size
pub product-fits : {a b : ℕ} → a ≤ 4096 → b ≤ 1024 → a * b < 2 ^ 64
product-fits {a} {b} h k = omega (arith, mul-le-mul h k)

-- the parts of the test of the lengths
record Parts (g : Geometry) (n a b c d e i j : ℕ) : Type 0 where
  whole : n % 8 ≡ 0
  room : n ≤ 4096 * 8
  cells1 : a ≡ 2 ^ g.p1
  few2 : d ≤ 4096
  cells2 : b ≡ d * 2 ^ bits2 g
  few3 : e ≤ 4096
  cells3 : c ≡ e * 2 ^ bits3 g
  counts1 : i ≡ 2 ^ g.p1
  counts2 : j ≡ b

module _ (g : Geometry) (n a b c d e i j : ℕ) where
  parts : sizes_fit g n a b c d e i j ≡ true → Parts g n a b c d e i j
  unfolding sizes_fit
  parts t =
      let e1 = and_split (eqb (n % 8) 0) _ t in
      let e2 = and_split (leb n (4096 * 8)) _ e1.1 in
      let e3 = and_split (eqb a (2 ^ g.p1)) _ e2.1 in
      let e4 = and_split (leb d 4096) _ e3.1 in
      let e5 = and_split (eqb b (d * 2 ^ bits2 g)) _ e4.1 in
      let e6 = and_split (leb e 4096) _ e5.1 in
      let e7 = and_split (eqb c (e * 2 ^ bits3 g)) _ e6.1 in
      let e8 = and_split (eqb i (2 ^ g.p1)) _ e7.1 in
      record {
        whole = eqb-true (n % 8) 0 e1.0;
        room = leb-true n (4096 * 8) e2.0;
        cells1 = eqb-true _ _ e3.0;
        few2 = leb-true _ _ e4.0;
        cells2 = eqb-true _ _ e5.0;
        few3 = leb-true _ _ e6.0;
        cells3 = eqb-true _ _ e7.0;
        counts1 = eqb-true _ _ e8.0;
        counts2 = eqb-true _ _ e8.1;
      }

  parts-fit : Parts g n a b c d e i j → sizes_fit g n a b c d e i j ≡ true
  unfolding sizes_fit
  parts-fit s =
      both (eq-eqb _ _ s.whole)
      (both (le-leb _ _ s.room)
      (both (eq-eqb _ _ s.cells1)
      (both (le-leb _ _ s.few2)
      (both (eq-eqb _ _ s.cells2)
      (both (le-leb _ _ s.few3)
      (both (eq-eqb _ _ s.cells3) (both (eq-eqb _ _ s.counts1) (eq-eqb _ _ s.counts2))))))))

  -- as the code takes it: what no part allows is not passed
  off : (Parts g n a b c d e i j → ⊥) → false ≡ sizes_fit g n a b c d e i j
  off h = sym (untrue (sizes_fit g n a b c d e i j) (λ t. h (parts t)))

  pub off-whole : (n % 8 ≡ 0 → ⊥) → false ≡ sizes_fit g n a b c d e i j
  off-whole h = off (λ s. h s.whole)

  pub off-room : 32768 < n → false ≡ sizes_fit g n a b c d e i j
  off-room h = off (λ s. omega (arith, s.room))

  pub off-few2 : 4096 < d → false ≡ sizes_fit g n a b c d e i j
  off-few2 h = off (λ s. omega (arith, s.few2))

  pub off-few3 : 4096 < e → false ≡ sizes_fit g n a b c d e i j
  off-few3 h = off (λ s. omega (arith, s.few3))

  module _ (x : ℕ) (first : x ≡ 2 ^ g.p1) where
    pub off-first : (a ≡ x → ⊥) → false ≡ sizes_fit g n a b c d e i j
    off-first h = off (λ s. h (s.cells1 ∙ sym first))

  module _ (y : ℕ) (second : y ≡ 2 ^ bits2 g) where
    pub off-second : (b ≡ d * y → ⊥) → false ≡ sizes_fit g n a b c d e i j
    off-second h = off (λ s. h (s.cells2 ∙ ap (λ (z : ℕ). d * z) (sym second)))

  module _ (z : ℕ) (third : z ≡ 2 ^ bits3 g) where
    pub off-third : (c ≡ e * z → ⊥) → false ≡ sizes_fit g n a b c d e i j
    off-third h = off (λ s. h (s.cells3 ∙ ap (λ (z : ℕ). e * z) (sym third)))

  -- as many counts as first cells
  pub off-long1 : (i ≡ a → ⊥) → false ≡ sizes_fit g n a b c d e i j
  off-long1 h = off (λ s. h (s.counts1 ∙ sym s.cells1))

  -- and where all the others are passed, the last one decides
  module _ (h1 : n % 8 ≡ 0) (h2 : n ≤ 32768) (x : ℕ) (first : x ≡ 2 ^ g.p1) (h3 : a ≡ x) (h4 : d ≤ 4096) (y : ℕ) (second : y ≡ 2 ^ bits2 g) (h5 : b ≡ d * y)
      (h6 : e ≤ 4096) (z : ℕ) (third : z ≡ 2 ^ bits3 g) (h7 : c ≡ e * z) (h8 : i ≡ a) where
    pub on-long1 : eqb j b ≡ sizes_fit g n a b c d e i j
    on-long1 = same (eqb j b) (sizes_fit g n a b c d e i j)
        (λ t.
        parts-fit
        (record {
          whole = h1;
          room = h2;
          cells1 = h3 ∙ first;
          few2 = h4;
          cells2 = h5 ∙ ap (λ (z : ℕ). d * z) second;
          few3 = h6;
          cells3 = h7 ∙ ap (λ (z : ℕ). e * z) third;
          counts1 = h8 ∙ h3 ∙ first;
          counts2 = eqb-true j b t;
        }))
        (λ t. eq-eqb j b (parts t).counts2)

-- what each number rests on: exactly one of the three holds
pub data Fault (g : Geometry) (l : Lent) : ℕ → Type 0 where
  none : Sized g l → Fault g l 0
  limits : (Valid g → ⊥) → Fault g l 1
  size : Valid g → (Sized g l → ⊥) → Fault g l 2

module _ (g : Geometry) (l : Lent) where
  fitting : Valid g → lengths_fit g l ≡ true → Sized g l
  fitting v t =
      let s = parts g _ _ _ _ _ _ _ _ t in
      record {
        valid = v;
        whole = s.whole;
        room = s.room;
        cells1 = s.cells1;
        few2 = s.few2;
        cells2 = s.cells2;
        few3 = s.few3;
        cells3 = s.cells3;
        counts1 = s.counts1;
        counts2 = s.counts2;
      }

  fit : Sized g l → lengths_fit g l ≡ true
  fit s = parts-fit g _ _ _ _ _ _ _ _ (record {
    whole = s.whole;
    room = s.room;
    cells1 = s.cells1;
    few2 = s.few2;
    cells2 = s.cells2;
    few3 = s.few3;
    cells3 = s.cells3;
    counts1 = s.counts1;
    counts2 = s.counts2;
  })

  -- the number by the facts
  pub none_is : Sized g l → sizes_fault g l ≡ 0
  unfolding sizes_fault
  none_is s = rw ((valid-is g).1 s.valid, fit s)

  limits-is : (Valid g → ⊥) → sizes_fault g l ≡ 1
  unfolding sizes_fault
  limits-is n = rw (untrue (valid_geo g) (λ e. n ((valid-is g).0 e)))

  size_is : Valid g → (Sized g l → ⊥) → sizes_fault g l ≡ 2
  unfolding sizes_fault
  size_is v n = rw ((valid-is g).1 v, untrue (lengths_fit g l) (λ e. n (fitting v e)))

  -- and the facts by the number
  pub fault-is : Fault g l (sizes_fault g l)
  fault-is = geometry (decided (valid_geo g)) (decided (lengths_fit g l))
    where
      geometry : (valid_geo g ≡ true) ⊎ (valid_geo g ≡ false) → (lengths_fit g l ≡ true) ⊎ (lengths_fit g l ≡ false) → Fault g l (sizes_fault g l)
      geometry (inr e) f = let n : Valid g → ⊥ = λ v. true≢false (sym ((valid-is g).1 v) ∙ e) in rw (limits-is n) (limits n)
      geometry (inl e) (inl f) = let s = fitting ((valid-is g).0 e) f in rw (none_is s) (none s)
      geometry (inl e) (inr f) = let v = (valid-is g).0 e in let n : Sized g l → ⊥ = λ s. true≢false (sym (fit s) ∙ f) in rw (size_is v n) (size v n)

  -- the three answers of the check
  pub checked-0 : (b : Bool) → Valid g → b ≡ lengths_fit g l → b ≡ true → SizesTold 0 g l
  checked-0 b v e h = let s = fitting v (sym e ∙ h) in record { number = sym (none_is s); facts = λ e. s }

  pub checked-1 : (b : Bool) → Tells b (Valid g) → b ≡ false → SizesTold 1 g l
  checked-1 b t n = record { number = sym (limits-is (λ v. true≢false (sym (t.1 v) ∙ n))); facts = λ e. absurd (omega arith) }

  pub checked-2 : (b : Bool) → Valid g → b ≡ lengths_fit g l → b ≡ false → SizesTold 2 g l
  checked-2 b v e n = record { number = sym (size_is v (λ s. true≢false (sym (fit s) ∙ sym e ∙ n))); facts = λ e. absurd (omega arith) }

  -- the cells and owners of a table of the right sizes
  pub celled-of : Sized g l → Celled g (cells_of l)
  celled-of s = record { valid = s.valid; cells1 = s.cells1; few2 = s.few2; cells2 = s.cells2; few3 = s.few3; cells3 = s.cells3 }
