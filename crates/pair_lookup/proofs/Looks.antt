-- The laws of a party's lookup: whose a chunk is, what opens, and the walk after the sizes.
use mathlib.Core.Path.{◌≡◌, refl, sym, ◌∙◌}
use mathlib.Core.Bool.{Bool, true, false, not, ◌&&◌, true≢false, false≢true}
use mathlib.Core.List.{List}
use Prim.Native.Nat.{ℕ, ◌-◌, ◌*◌, ◌%◌, ◌^◌, ◌≤◌, ◌<◌}
use native.Mathlib.Omega.{arith}
use lib.Dec.{eqb, ltb, leb}
use lib.ListN.{length, get_or}
use borrow.Author.Tests.{lt-ltb, le-ltb, ne_eqb}
use Rattle.bits.specs.Slot.{slot}
use Rattle.bits.proofs.Slots.{slot_lt}
use Rattle.bits.proofs.Bools.{and_split}
use Rattle.routes.specs.Said.{Said, refused}
use Rattle.sail.specs.Lent.{cells}
use Rattle.sail.specs.Pool.{Chunk}
use Rattle.sail.specs.Sizes.{Sized, Celled}
use Rattle.sail.specs.Walk.{one_of, walk_said}
use Rattle.sail.specs.Word.{packed, said_of, Word}
use Rattle.sail.specs.declared.geometry.Geometry.{Geometry}
use Rattle.sail.proofs.Found.{Fives, walk-fives}
use Rattle.sail.proofs.Steps.{named}
use Rattle.sail.proofs.Words.{word_of}
use Rattle.sail_theory.proofs.Judges.{or-said}
use Rattle.pair.specs.Party.{Party, one, two, party_of, foreign}
use Rattle.pair.specs.PairLent.{PairLent, side, view_of, seen_by}
use Rattle.pair.specs.PairSound.{pair_sizes_fault, PairSizesTold}
use Rattle.pair.specs.PairCalls.{opens_for, pair_lookup_said}
use Rattle.pair.specs.declared.Pair.{Pair}

-- whose a chunk is
module _ (o : ℕ) where
  pub nobodys : (b : Bool) → b ≡ true → o ≡ 0 → false ≡ foreign (party_of b) o
  unfolding foreign
  nobodys true e z = rw (le-ltb 0 o (omega arith))
  nobodys false e z = absurd (false≢true e)

  pub firsts : (b : Bool) → b ≡ true → (o ≡ 0 → ⊥) → ltb o 2147483648 ≡ foreign (party_of b) o
  unfolding foreign
  firsts true e n = rw (lt-ltb 0 o (omega arith))
  firsts false e n = absurd (false≢true e)

  pub seconds : (b : Bool) → b ≡ false → leb 2147483648 o ≡ foreign (party_of b) o
  unfolding foreign
  seconds true n = absurd (true≢false n)
  seconds false n = refl

-- what opens
pub is-named : (m v : ℕ) (b : Bool) → b ≡ one_of m v → not b ≡ false → (1 ≤ v) × (v ≤ m)
is-named m v true e n = named m v (sym e)
is-named m v false e n = absurd (false≢true (sym n))

module _ (w : Party) (own : List ℕ) (v : ℕ) (b : Bool) (e : b ≡ one_of (length own) v) where
  pub not-one : not b ≡ true → false ≡ opens_for w own v
  not-one n = go b e n
    where
      go : (b : Bool) → b ≡ one_of (length own) v → not b ≡ true → false ≡ opens_for w own v
      go true e n = absurd (true≢false (sym n))
      go false e n = rw (← e)

  pub is_one : not b ≡ false → (f : Bool) → f ≡ foreign w (get_or own (v - 1) 0) → not f ≡ opens_for w own v
  is_one n f h = go b e n
    where
      go : (b : Bool) → b ≡ one_of (length own) v → not b ≡ false → not f ≡ opens_for w own v
      go true e n = rw (← e, h)
      go false e n = absurd (false≢true (sym n))

-- a chunk that opens is one of the pool's
pub open-chunk : (w : Party) (own : List ℕ) (m v k : ℕ) (b : Bool) → b ≡ opens_for w own v → not b ≡ false → m ≡ length own * 2 ^ k → length own ≤ 4096 → k ≤ 10
    → Chunk m (length own) v k
open-chunk w own m v k b e n s f z = go b e n
  where
    go : (b : Bool) → b ≡ opens_for w own v → not b ≡ false → Chunk m (length own) v k
    go true e n =
        let i = named (length own) v (and_split (one_of (length own) v) _ (sym e)).0 in
        record { cells = s; one = i.0; last = i.1; few = f; size = z }
    go false e n = absurd (false≢true (sym n))

pub first-there : (g : Geometry) (first second third own2 own3 : List ℕ) (a : ℕ) → Celled g (cells first second third own2 own3) → a < 2 ^ 32
    → slot g.p1 a < length first
first-there g first second third own2 own3 a s h = let v = s.valid in omega (arith, slot_lt g.p1 a (omega arith) h, s.cells1)

-- the cells and owners lent to a party
pub side-celled : (g : Geometry) (w : Party) (b : PairLent) → Sized g (side w b)
    → Celled g (cells (side w b).first (side w b).second (side w b).third (side w b).own2 (side w b).own3)
side-celled g w b s = record { valid = s.valid; cells1 = s.cells1; few2 = s.few2; cells2 = s.cells2; few3 = s.few3; cells3 = s.cells3 }

module _ (g : Geometry) (b : PairLent) (z : ℕ) (told : PairSizesTold z g b) where
  pub second-celled : z ≡ 0 → Celled g (cells b.first2 b.second b.third b.own2 b.own3)
  second-celled e = side-celled g two b (told.facts e two)

  pub first-celled : z ≡ 0 → Celled g (cells b.first1 b.second b.third b.own2 b.own3)
  first-celled e = side-celled g one b (told.facts e one)

-- a refusal's number is its word
refusal-word : (z : ℕ) → z < 256 → (z ≡ 0 → ⊥) → Word z (refused z)
unfolding packed said_of
refusal-word z few n =
    let e : z % 256 ≡ z = omega arith in
    record { packs = refl; back = rw (e, ne_eqb z 0 n) }

-- a party's lookup is refused with 5 alone where the sizes are right
module _ (t : Pair) (b : PairLent) (a z : ℕ) (told : PairSizesTold z t.geometry b) where
  pub pair-fives : z ≡ 0 → (w : Party) → Fives (pair_lookup_said w t b a)
  unfolding pair_lookup_said
  pair-fives e w = rw (sym told.number ∙ e) (walk-fives t.geometry _ _ _ a)

-- after the sizes; `guest` tells whether the party is the second
module _ (t : Pair) (b : PairLent) (a z : ℕ) (told : PairSizesTold z t.geometry b) where
  pub look-not : (w : Party) → z < 256 → (z ≡ 0 → ⊥) → (x : ℕ) → x ≡ z → Word x (pair_lookup_said w t b a)
  unfolding pair_lookup_said
  look-not w few n x e = rw e (word_of z (refused z) _ (sym (or-said (pair_sizes_fault t.geometry b) z _ told.number n)) (refusal-word z few n))

  pub answer-not : (w : Party) → (z ≡ 0 → ⊥) → refused z ≡ pair_lookup_said w t b a
  unfolding pair_lookup_said
  answer-not w n = sym (or-said (pair_sizes_fault t.geometry b) z _ told.number n)

  on : z ≡ 0 → (w : Party) (x : ℕ) → Word x (walk_said t.geometry (opens_for w b.own2) (opens_for w b.own3) (seen_by w b) a)
      → Word x (pair_lookup_said w t b a)
  unfolding pair_lookup_said
  on e w x = word_of x _ _ (rw (sym told.number ∙ e))

  module _ (e : z ≡ 0) (guest : Bool) (x : ℕ) where
    pub look-second : guest ≡ true
        → Word x (walk_said t.geometry (opens_for (party_of guest) b.own2) (opens_for (party_of guest) b.own3)
        (view_of (party_of guest) b.first2 b.second b.third b.own2 b.own3) a) → Word x (pair_lookup_said (party_of guest) t b a)
    look-second g h = go guest g h
      where
        go : (guest : Bool) → guest ≡ true
            → Word x (walk_said t.geometry (opens_for (party_of guest) b.own2) (opens_for (party_of guest) b.own3)
            (view_of (party_of guest) b.first2 b.second b.third b.own2 b.own3) a) → Word x (pair_lookup_said (party_of guest) t b a)
        go true g h = on e two x h
        go false g h = absurd (false≢true g)

    pub look-first : guest ≡ false
        → Word x (walk_said t.geometry (opens_for (party_of guest) b.own2) (opens_for (party_of guest) b.own3)
        (view_of (party_of guest) b.first1 b.second b.third b.own2 b.own3) a) → Word x (pair_lookup_said (party_of guest) t b a)
    look-first g h = go guest g h
      where
        go : (guest : Bool) → guest ≡ false
            → Word x (walk_said t.geometry (opens_for (party_of guest) b.own2) (opens_for (party_of guest) b.own3)
            (view_of (party_of guest) b.first1 b.second b.third b.own2 b.own3) a) → Word x (pair_lookup_said (party_of guest) t b a)
        go true g h = absurd (true≢false g)
        go false g h = on e one x h
