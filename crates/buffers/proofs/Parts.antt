-- A list whose part in the middle is written over, element by element: what stands before the part, in it and after it.
use mathlib.Core.Path.{◌≡◌, refl, sym, ap, ◌∙◌}
use mathlib.Core.Bool.{cond}
use mathlib.Core.Logic.{◌⊎◌, inl, inr}
use mathlib.Core.List.{List, ◌++◌}
use Prim.Native.Nat.{ℕ, ◌+◌, ◌-◌, ◌<◌, ◌≤◌}
use native.Mathlib.Omega.{arith}
use lib.ListN.{length, get_or, take, drop, replicate, length-append, length-drop, length-replicate, get_or-append, get_or-eq_default, get_or-replicate}
use lib.Seq.{paste, length-take-le, length-paste, get_or-append_right, get_or-take, get_or-drop}
use borrow.Rule.Slice.PartMut.{put_mid}
use Rattle.std.proofs.lemmas.Slice.{put_mid-paste}
use Rattle.bits.proofs.Bools.{below?}
use Rattle.bits.proofs.Tabs.{is-tabulate}
use Rattle.buffers.specs.Fill.{between, Range, filled, padded}
use Rattle.buffers.proofs.Ranges.{Side, below, inside, above, side, between_in, between-below, between-above}

module _ {A : Type 0} (d : A) (xs : List A) (a n : ℕ) (ys : List A) (fits : a + n ≤ length xs) (long : length ys ≡ n) where
  pasted : put_mid a n xs ys ≡ paste xs a ys n
  pasted = put_mid-paste a n xs ys ys n refl refl (sym long)

  front : length (take a xs) ≡ a
  front = length-take-le a xs (omega arith)

  fronts : length (take a xs ++ take n ys) ≡ a + n
  fronts = omega (arith, length-append (take a xs) (take n ys), front, length-take-le n ys (omega arith))

  pub length-part : length (put_mid a n xs ys) ≡ length xs
  length-part = rw pasted (length-paste xs a ys n fits (omega arith))

  pub part-before : (j : ℕ) → j < a → get_or (put_mid a n xs ys) j d ≡ get_or xs j d
  part-before j l =
      ap (λ (s : List A). get_or s j d) pasted
      ∙ get_or-append (take a xs ++ take n ys) (drop (a + n) xs) d j (omega (arith, fronts))
      ∙ get_or-append (take a xs) (take n ys) d j (omega (arith, front))
      ∙ get_or-take a xs j d l

  pub part-in : (j : ℕ) → a ≤ j → j < a + n → get_or (put_mid a n xs ys) j d ≡ get_or ys (j - a) d
  part-in j l u =
      ap (λ (s : List A). get_or s j d) pasted
      ∙ get_or-append (take a xs ++ take n ys) (drop (a + n) xs) d j (omega (arith, fronts))
      ∙ get_or-append_right (take a xs) (take n ys) j d (omega (arith, front))
      ∙ ap (λ (k : ℕ). get_or (take n ys) (j - k) d) front
      ∙ get_or-take n ys (j - a) d (omega arith)

  pub part-after : (j : ℕ) → a + n ≤ j → get_or (put_mid a n xs ys) j d ≡ get_or xs j d
  part-after j l =
      ap (λ (s : List A). get_or s j d) pasted
      ∙ get_or-append_right (take a xs ++ take n ys) (drop (a + n) xs) j d (omega (arith, fronts))
      ∙ ap (λ (k : ℕ). get_or (drop (a + n) xs) (j - k) d) fronts
      ∙ get_or-drop (a + n) xs (j - (a + n)) d
      ∙ ap (λ (k : ℕ). get_or xs k d) (omega arith)

length-middle : {A : Type 0} (xs : List A) (a n : ℕ) → a + n ≤ length xs → length (take n (drop a xs)) ≡ n
length-middle xs a n h = length-take-le n (drop a xs) (omega (arith, length-drop a xs))

-- a range that `fill` writes over
pub filled_part : (l s : List ℕ) (from to v : ℕ) → Range from to (length l) → s ≡ replicate (length (take (to - from) (drop from l))) v
    → put_mid from (to - from) l s ≡ filled l from to v
unfolding filled
filled_part l s from to v r f =
    is-tabulate 0 (put_mid from (to - from) l s) (length l) _ (length-part 0 l from (to - from) s room long) (λ i h. at i (side from to i))
  where
    room : from + (to - from) ≤ length l
    room = omega (arith, r.rises, r.fits)

    m : ℕ
    m = length (take (to - from) (drop from l))

    long : length s ≡ to - from
    long = ap length f ∙ length-replicate m v ∙ length-middle l from (to - from) room

    at : (i : ℕ) → Side from to i → get_or (put_mid from (to - from) l s) i 0 ≡ cond (between from to i) v (get_or l i 0)
    at i (below a) = rw (between-below from to i a) (part-before 0 l from (to - from) s room long i a)
    at i (inside a b) = rw (between_in from to i a b)
        (part-in 0 l from (to - from) s room long i a (omega arith) ∙ rw f (get_or-replicate m (i - from) v 0 (omega (arith, length-middle l from (to - from) room))))
    at i (above a b) = rw (between-above from to i b) (part-after 0 l from (to - from) s room long i (omega (arith, r.rises)))
