-- Texts in a lent buffer, one after the other.
use mathlib.Core.Path.{◌≡◌, refl, sym, ap, ◌∙◌}
use mathlib.Core.Logic.{◌⊎◌, inl, inr}
use mathlib.Core.List.{List, [], ◌∷◌, ◌++◌, append_assoc, append-nil}
use Prim.Native.Nat.{ℕ, ◌+◌, ◌-◌, ◌≤◌, ◌<◌}
use native.Mathlib.Nat.{add_assoc}
use native.Mathlib.Omega.{arith}
use lib.ListN.{length, take, drop, set, length-set, length-append, length-drop, length-take, drop_of_length-le}
use borrow.Rule.Slice.PartMut.{put_mid}
use lib.Seq.{length-take-le, take_all, take_at, drop_at, drop-drop, sets-eq}
use Rattle.bits.proofs.Bools.{below?}
use Rattle.text_pieces.specs.Wrote.{spelled, TextRoom, Wrote}

-- a text with room for it leaves the buffer's length as it was
pub length-spelled : (o : List ℕ) (at : ℕ) (t : List ℕ) → at + length t ≤ length o → length (spelled o at t) ≡ length o
unfolding spelled
length-spelled o at t h = simp (length-append, length-take, length-drop) (omega arith)

module _ (o : List ℕ) (at : ℕ) (s t : List ℕ) where
  -- before and after the text, wherever the place is
  take-front : take (at + length s) (spelled o at s) ≡ take at o ++ s
  unfolding spelled
  take-front = go (below? (length o) at)
    where
      go : (length o < at) ⊎ (at ≤ length o) → take (at + length s) (take at o ++ s ++ drop (at + length s) o) ≡ take at o ++ s
      go (inl h) =
          rw (drop_of_length-le o {i = at + length s} (omega arith), append-nil (take at o ++ s))
          (take_all (at + length s) (take at o ++ s) (simp (length-append, length-take) (omega arith)))
      go (inr h) = take_at (take at o ++ s) (drop (at + length s) o) (at + length s) (simp (length-append, length-take) (omega arith))

  drop-rest : drop (at + length s + length t) (spelled o at s) ≡ drop (at + length s + length t) o
  unfolding spelled
  drop-rest = go (below? (length o) at)
    where
      go : (length o < at) ⊎ (at ≤ length o) → drop (at + length s + length t) (take at o ++ s ++ drop (at + length s) o) ≡ drop (at + length s + length t) o
      go (inl h) =
          rw (drop_of_length-le o {i = at + length s + length t} (omega arith))
          (drop_of_length-le (take at o ++ s ++ drop (at + length s) o) {i = at + length s + length t}
          (simp (length-append, length-take, length-drop) (omega arith)))
      go (inr h) =
          sym (drop-drop (length t) (at + length s) (take at o ++ s ++ drop (at + length s) o))
          ∙ rw (drop_at (take at o ++ s) (drop (at + length s) o) (at + length s) (simp (length-append, length-take) (omega arith)))
          (drop-drop (length t) (at + length s) o)

  -- a text after a text is one text
  pub spelled-more : spelled (spelled o at s) (at + length s) t ≡ spelled o at (s ++ t)
  unfolding spelled
  spelled-more =
      rw (take-front, drop-rest, length-append s t, ← add_assoc at (length s) (length t))
      (ap (λ (l : List ℕ). l ++ drop (at + length s + length t) o) (append_assoc (take at o) s t))

-- what is written, piece by piece
module _ {o : List ℕ} {at : ℕ} where
  pub wrote_none : at ≤ length o → Wrote o at [] at o
  unfolding spelled
  wrote_none h = record { ends = omega arith; inside = h; holds = sets-eq [] o at (omega arith) }

  pub wrote_one : {b : ℕ} → TextRoom o at (b ∷ []) → Wrote o at (b ∷ []) (at + 1) (set o at b)
  unfolding spelled
  wrote_one {b} r = record { ends = refl; inside = rw length-set r.room; holds = sets-eq (b ∷ []) o at r.room }

  pub wrote-all : {t u : List ℕ} → TextRoom o at t → u ≡ t → Wrote o at t (at + length t) (put_mid at (at + length t - at) o u)
  unfolding spelled
  wrote-all {t} {u} r e =
      let n : at + length t - at ≡ length t = omega arith in
      let w : put_mid at (at + length t - at) o u ≡ spelled o at t =
      rw (e, n, drop-drop (length t) at o) (sym (append_assoc (take at o) t (drop (at + length t) o))) in
      record { ends = refl; inside = rw (w, length-spelled o at t r.room) r.room; holds = w }

  pub wrote-more : {s t : List ℕ} {m n : ℕ} {o₁ o₂ : List ℕ} → Wrote o at s m o₁ → Wrote o₁ m t n o₂ → Wrote o at (s ++ t) n o₂
  wrote-more {s} {t} u v = record { ends = rw length-append (omega (arith, u.ends, v.ends)); inside = v.inside; holds = cc (spelled-more o at s t) }

  -- room for two texts is room for each
  pub room-first : (s t : List ℕ) → TextRoom o at (s ++ t) → TextRoom o at s
  room-first s t r = record { room = omega (arith, simp length-append at r.room) }

  pub room-then : (s t : List ℕ) {m : ℕ} {o₁ : List ℕ} → TextRoom o at (s ++ t) → Wrote o at s m o₁ → TextRoom o₁ m t
  room-then s t r w =
      let l = rw length-append at r.room in
      let k = ap length w.holds ∙ length-spelled o at s (omega arith) in
      record { room = omega (arith, w.ends) }

-- what is written from the start of a buffer is what stands before the place that is answered
pub wrote-front : {o t o₁ : List ℕ} {n : ℕ} → Wrote o 0 t n o₁ → take n o₁ ≡ t
wrote-front {o} {t} w = rw (w.ends, w.holds) (take-front o 0 t [])

-- and as many bytes as the place says: what a caller owes who lends `&out[..n]`
pub wrote_count : {o t o₁ : List ℕ} {at n : ℕ} → Wrote o at t n o₁ → n ≡ length (take n o₁)
wrote_count {o₁ = o₁} {n = n} w = sym (length-take-le n o₁ w.inside)
