-- The walk step by step, as the code takes it.
use mathlib.Core.Path.{◌≡◌, refl, sym, ap, ◌∙◌}
use mathlib.Core.Bool.{Bool, true, false, not}
use mathlib.Core.Logic.{◌⊎◌, inl, inr}
use Prim.Native.Nat.{ℕ, ◌+◌, ◌-◌, ◌*◌, ◌%◌, ◌^◌, ◌≤◌, ◌<◌}
use native.Mathlib.Nat.{mod-lt, mul-le-mul_left}
use native.Mathlib.Omega.{arith}
use lib.Arith.{digits_lt}
use lib.Dec.{leb, ltb}
use lib.ListN.{length, get_or}
use lib.Pow.{pow_pos, pow_mono, shl_exact}
use borrow.Author.Tests.{leb-true, le-leb, lt-leb, lt-ltb, le-ltb, eq-eqb, ne_eqb}
use Rattle.bits.specs.Slot.{slot}
use Rattle.bits.proofs.Slots.{shl_one, slot_lt}
use Rattle.bits.proofs.Bools.{and_split, below?}
use Rattle.routes.specs.Said.{Said, refused}
use Rattle.sail.specs.Geometry.{bits2, bits3}
use Rattle.sail.specs.Lent.{Lent}
use Rattle.sail.specs.Level.{View, whole}
use Rattle.sail.specs.Sizes.{sizes_fault, Sized, SizesTold}
use Rattle.sail.specs.Pool.{Numbered, SecondChunk, Chunk}
use Rattle.sail.specs.Walk.{cell_place, cell2, cell3, leaf_said, step_said, one_of, shut, walk_said, found_said, lookup_said}
use Rattle.sail.specs.Word.{Word, said_of}
use Rattle.sail.specs.declared.geometry.Geometry.{Geometry}
use Rattle.sail.specs.declared.table.Table.{Table}
use Rattle.sail.proofs.Words.{word_of, word-five}

-- a place lies among its chunks
pub place-lt : (n c k i : ℕ) → 1 ≤ c → c ≤ n → cell_place k c i < n * 2 ^ k
place-lt n c k i a b = digits_lt (omega arith) (mod-lt i (pow_pos k))

pub place_in : (m n c k i : ℕ) → Chunk m n c k → cell_place k c i < m
place_in m n c k i h = omega (arith, place-lt n c k i h.one h.last)

-- a place, by shifts
module _ (c d i : ℕ) (h : Numbered c d) where
  size_is : 1 * 2 ^ d % 2 ^ 64 ≡ 2 ^ d
  size_is = shl_one 64 d (omega arith)

  start_is : (c - 1) * 2 ^ d % 2 ^ 64 ≡ (c - 1) * 2 ^ d
  start_is = shl_exact 32 d 64 (omega arith) (omega arith)

  pub size-some : 0 < 1 * 2 ^ d % 2 ^ 64
  size-some = omega (arith, size_is, pow_pos d)

  pub place_is : ((c - 1) * 2 ^ d % 2 ^ 64 + i % (1 * 2 ^ d % 2 ^ 64) ≡ cell_place d c i)
      × ((c - 1) * 2 ^ d % 2 ^ 64 + i % (1 * 2 ^ d % 2 ^ 64) < 281474976710656)
  place_is =
      let e : (c - 1) * 2 ^ d % 2 ^ 64 + i % (1 * 2 ^ d % 2 ^ 64) ≡ cell_place d c i = rw (start_is, size_is) in
      (e, omega (arith, e, place-lt 4294967296 c d i h.one h.few, mul-le-mul_left 4294967296 (pow_mono h.size)))

pub chunk-numbered : (m n c k : ℕ) → Chunk m n c k → Numbered c k
chunk-numbered m n c k h = record { one = h.one; few = omega arith; size = omega arith }

-- the second cell of an address
module _ (g : Geometry) (c : ℕ) (h : SecondChunk g c) where
  pub second-numbered : Numbered c (bits2 g)
  second-numbered = let v = h.valid in record { one = h.one; few = omega arith; size = omega arith }

  pub second_is : (a i r : ℕ) → i ≡ slot g.p2 a → r ≡ cell_place (bits2 g) c i → (r ≡ cell_place (bits2 g) c (slot g.p2 a)) × (r < 67108864)
  second_is a i r e f =
      let z = mul-le-mul_left 65536 (pow_mono h.valid.near) in
      (f ∙ ap (cell_place (bits2 g) c) e, omega (arith, f, place-lt 65536 c (bits2 g) i h.one h.few))

-- a chunk's number
pub named : (m v : ℕ) → one_of m v ≡ true → (1 ≤ v) × (v ≤ m)
named m v e = let s = and_split (leb 1 v) (leb v m) e in (leb-true 1 v s.0, leb-true v m s.1)

opened : (b t : Bool) → b ≡ t → not b ≡ false → t ≡ true
opened true t e h = sym e
opened false t e h = absurd (let z : ◌≡◌ {A = ℕ} 0 1 = cc in omega arith)

closed : (b t : Bool) → b ≡ t → not b ≡ true → t ≡ false
closed false t e h = sym e
closed true t e h = absurd (let z : ◌≡◌ {A = ℕ} 0 1 = cc in omega arith)

-- a chunk that a cell names
pub chunk-named : (m n v k : ℕ) (b : Bool) → b ≡ one_of n v → not b ≡ false → m ≡ n * 2 ^ k → n ≤ 4096 → k ≤ 10 → Chunk m n v k
chunk-named m n v k b e on s f z =
    let i = named n v (opened b (one_of n v) e on) in
    record { cells = s; one = i.0; last = i.1; few = f; size = z }

-- the first cell of an address is there
pub first-in : (g : Geometry) (l : Lent) (a : ℕ) → Sized g l → a < 2 ^ 32 → slot g.p1 a < length l.first
first-in g l a s h = omega (arith, slot_lt g.p1 a (omega arith) h)

-- one step
module _ (n : ℕ) (opens : ℕ → Bool) (v : ℕ) (on : Said) where
  pub step-leaf : 32768 ≤ v → leaf_said n v ≡ step_said n opens v on
  unfolding step_said
  step-leaf h = rw (le-leb 32768 v h)

  pub step-off : v < 32768 → opens v ≡ false → refused 5 ≡ step_said n opens v on
  unfolding step_said
  step-off h e = rw (lt-leb 32768 v h, e)

  pub step-on : v < 32768 → opens v ≡ true → on ≡ step_said n opens v on
  unfolding step_said
  step-on h e = rw (lt-leb 32768 v h, e)

-- a number less one, which wraps where it is 0, is below m: both tests by one comparison
pub wraps-below : (m v r : ℕ) → (r + 1) % 2 ^ 64 ≡ v → r < 2 ^ 64 → m < 2 ^ 64 → ltb r m ≡ one_of m v
wraps-below m v r e f g = go (below? r m) (below? r (2 ^ 64 - 1))
  where
    go : (r < m) ⊎ (m ≤ r) → (r < 2 ^ 64 - 1) ⊎ (2 ^ 64 - 1 ≤ r) → ltb r m ≡ one_of m v
    go (inl b) _ = rw (lt-ltb r m b, le-leb 1 v (omega arith), le-leb v m (omega arith))
    go (inr b) (inl w) = rw (le-ltb r m b, le-leb 1 v (omega arith), lt-leb v m (omega arith))
    go (inr b) (inr w) = rw (le-ltb r m b, lt-leb 1 v (omega arith))

-- The code's three cells: the first by the address's first bits, the second and the third by their places in the pools. A law for each cell that the
-- walk may end at, whichever chunks open.
module _ (g : Geometry) (t : View) (opens2 opens3 : ℕ → Bool) (a : ℕ) where
  steps : (v1 v2 v3 : ℕ) → v1 ≡ t.first (slot g.p1 a) → v2 ≡ t.second (cell_place (bits2 g) v1 (slot g.p2 a)) → v3 ≡ t.third (cell_place (bits3 g) v2 a)
      → step_said 1 opens2 v1 (step_said 2 opens3 v2 (step_said 3 shut v3 (refused 5))) ≡ walk_said g opens2 opens3 t a
  unfolding walk_said
  steps v1 v2 v3 e1 e2 e3 =
      let q2 : v2 ≡ cell2 g t a = e2 ∙ ap (λ (x : ℕ). t.second (cell_place (bits2 g) x (slot g.p2 a))) e1 in
      let q3 : v3 ≡ cell3 g t a = e3 ∙ ap (λ (x : ℕ). t.third (cell_place (bits3 g) x a)) q2 in
      cc

  module _ (v1 : ℕ) (e1 : v1 ≡ t.first (slot g.p1 a)) where
    pub walk-leaf1 : (w : ℕ) → 32768 ≤ v1 → Word w (leaf_said 1 v1) → Word w (walk_said g opens2 opens3 t a)
    walk-leaf1 w h = word_of w _ _ (step-leaf 1 _ v1 _ h ∙ steps v1 _ _ e1 refl refl)

    module _ (b1 : Bool) (o1 : b1 ≡ opens2 v1) (low1 : v1 < 32768) where
      pub walk-off1 : not b1 ≡ true → Word 5 (walk_said g opens2 opens3 t a)
      walk-off1 n = word-five _ (step-off 1 _ v1 _ low1 (closed b1 _ o1 n) ∙ steps v1 _ _ e1 refl refl)

      module _ (on1 : not b1 ≡ false) (v2 : ℕ) (e2 : v2 ≡ t.second (cell_place (bits2 g) v1 (slot g.p2 a))) where
        down1 : (v3 : ℕ) → v3 ≡ t.third (cell_place (bits3 g) v2 a) → step_said 2 opens3 v2 (step_said 3 shut v3 (refused 5)) ≡ walk_said g opens2 opens3 t a
        down1 v3 e3 = step-on 1 _ v1 _ low1 (opened b1 _ o1 on1) ∙ steps v1 v2 v3 e1 e2 e3

        pub walk-leaf2 : (w : ℕ) → 32768 ≤ v2 → Word w (leaf_said 2 v2) → Word w (walk_said g opens2 opens3 t a)
        walk-leaf2 w h = word_of w _ _ (step-leaf 2 _ v2 _ h ∙ down1 _ refl)

        module _ (b2 : Bool) (o2 : b2 ≡ opens3 v2) (low2 : v2 < 32768) where
          pub walk-off2 : not b2 ≡ true → Word 5 (walk_said g opens2 opens3 t a)
          walk-off2 n = word-five _ (step-off 2 _ v2 _ low2 (closed b2 _ o2 n) ∙ down1 _ refl)

          module _ (on2 : not b2 ≡ false) (v3 : ℕ) (e3 : v3 ≡ t.third (cell_place (bits3 g) v2 a)) where
            down2 : step_said 3 shut v3 (refused 5) ≡ walk_said g opens2 opens3 t a
            down2 = step-on 2 _ v2 _ low2 (opened b2 _ o2 on2) ∙ down1 v3 e3

            pub walk-leaf3 : (w : ℕ) → 32768 ≤ v3 → Word w (leaf_said 3 v3) → Word w (walk_said g opens2 opens3 t a)
            walk-leaf3 w h = word_of w _ _ (step-leaf 3 _ v3 _ h ∙ down2)

            pub walk-off3 : v3 < 32768 → Word 5 (walk_said g opens2 opens3 t a)
            walk-off3 h = word-five _ (step-off 3 shut v3 _ h refl ∙ down2)

-- where every chunk of a pool opens
module _ (g : Geometry) (l : Lent) (a : ℕ) (sized : Sized g l) where
  abbrev all2 : ℕ → Bool
  all2 = one_of (length l.own2)

  abbrev all3 : ℕ → Bool
  all3 = one_of (length l.own3)

  module _ (v1 : ℕ) (e1 : v1 ≡ get_or l.first (slot g.p1 a) 0) where
    pub leaf1 : (w : ℕ) → 32768 ≤ v1 → Word w (leaf_said 1 v1) → Word w (found_said g l a)
    unfolding found_said
    leaf1 = walk-leaf1 g (whole l) all2 all3 a v1 e1

    module _ (b1 : Bool) (o1 : b1 ≡ one_of (length l.own2) v1) (low1 : v1 < 32768) where
      pub off1 : not b1 ≡ true → Word 5 (found_said g l a)
      unfolding found_said
      off1 = walk-off1 g (whole l) all2 all3 a v1 e1 b1 o1 low1

      module _ (on1 : not b1 ≡ false) (v2 : ℕ) (e2 : v2 ≡ get_or l.second (cell_place (bits2 g) v1 (slot g.p2 a)) 0) where
        pub leaf2 : (w : ℕ) → 32768 ≤ v2 → Word w (leaf_said 2 v2) → Word w (found_said g l a)
        unfolding found_said
        leaf2 = walk-leaf2 g (whole l) all2 all3 a v1 e1 b1 o1 low1 on1 v2 e2

        module _ (b2 : Bool) (o2 : b2 ≡ one_of (length l.own3) v2) (low2 : v2 < 32768) where
          pub off2 : not b2 ≡ true → Word 5 (found_said g l a)
          unfolding found_said
          off2 = walk-off2 g (whole l) all2 all3 a v1 e1 b1 o1 low1 on1 v2 e2 b2 o2 low2

          module _ (on2 : not b2 ≡ false) (v3 : ℕ) (e3 : v3 ≡ get_or l.third (cell_place (bits3 g) v2 a) 0) where
            pub leaf3 : (w : ℕ) → 32768 ≤ v3 → Word w (leaf_said 3 v3) → Word w (found_said g l a)
            unfolding found_said
            leaf3 = walk-leaf3 g (whole l) all2 all3 a v1 e1 b1 o1 low1 on1 v2 e2 b2 o2 low2 on2 v3 e3

            pub off3 : v3 < 32768 → Word 5 (found_said g l a)
            unfolding found_said
            off3 = walk-off3 g (whole l) all2 all3 a v1 e1 b1 o1 low1 on1 v2 e2 b2 o2 low2 on2 v3 e3

-- with the sizes checked first
module _ (t : Table) (l : Lent) (a r : ℕ) (told : SizesTold r t.geometry l) where
  pub look-on : (w : ℕ) → r ≡ 0 → Word w (found_said t.geometry l a) → Word w (lookup_said t l a)
  unfolding lookup_said
  look-on w e = word_of w _ _ (rw (eq-eqb (sizes_fault t.geometry l) 0 (sym told.number ∙ e)))

  pub look-found : (w : ℕ) (s : Said) → r ≡ 0 → Word w (found_said t.geometry l a) → s ≡ said_of w → s ≡ lookup_said t l a
  look-found w s e f q = q ∙ (look-on w e f).back

  pub look-not : (r ≡ 0 → ⊥) → refused r ≡ lookup_said t l a
  unfolding lookup_said
  look-not n = rw (← told.number, ne_eqb r 0 n)
