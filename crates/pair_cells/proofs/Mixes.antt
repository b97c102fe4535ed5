-- A party's change on the real arrays of a box. What the party then holds is mixed into what was there, by the owners that it sees; that is the box that
-- is asked for.
use mathlib.Core.Path.{◌≡◌, sym, ◌∙◌, ap}
use mathlib.Core.Logic.{◌⊎◌, inl, inr}
use mathlib.Core.Bool.{true, false, cond}
use mathlib.Core.List.{List}
use Prim.Native.Nat.{ℕ, ◌<◌}
use lib.ListN.{get_or, length}
use lib.Seq.{ext_get_or}
use Rattle.bits.proofs.Bools.{decided}
use Rattle.sail.specs.Level.{entry}
use Rattle.sail_theory.specs.Shared.{touched, mixed}
use Rattle.sail_theory.proofs.places.Alone.{length-mixed, mixed-at}
use Rattle.sail_theory.proofs.places.Pools.{length-laid, laid-at}
use Rattle.pair.specs.Party.{Party, one, two, other, put, view}
use Rattle.pair.specs.PairLent.{mine, part, joined}
use Rattle.pair.specs.PairSound.{Spare}
use Rattle.pair.proofs.Views.{mine-apart, length_part, part-at, Blank}
use Rattle.pair.proofs.Lays.{same-places}

-- An array over a shared pool: own and own' are the owners before and after, old the array before. After, the party holds xs, and the other sees the
-- owners that it saw.
module _ (own own' : List ℕ) (d : ℕ) (old xs : List ℕ) (spare : Spare own d old) (size : length xs ≡ length old) where
  pub mixed-joined : (w : Party) → view (other w) own' ≡ view (other w) own → Blank w own' d xs
      → mixed (view w own) (view w own') d old xs
      ≡ joined own' d (put w xs (λ v. part v own d old) one) (put w xs (λ v. part v own d old) two)
  unfolding joined
  mixed-joined one same blank =
      let ys : List ℕ = part two own d old in
      let n : length ys ≡ length old = length_part two own d old in
      ext_get_or 0 _ _ (length-mixed (view one own) (view one own') d old xs ∙ sym (length-laid ys _ _ ∙ n)) (λ q h.
      let l : q < length old = rw length-mixed at h in
      mixed-at (view one own) (view one own') d old xs q l ∙ at q l (decided (mine one own d q)) (decided (mine one own' d q)) (decided (mine two own d q))
      ∙ sym (laid-at ys (mine one own' d) (entry xs) q (rw n l)))
    where
      at : (q : ℕ) → q < length old → (mine one own d q ≡ true) ⊎ (mine one own d q ≡ false) → (mine one own' d q ≡ true) ⊎ (mine one own' d q ≡ false)
          → (mine two own d q ≡ true) ⊎ (mine two own d q ≡ false)
          → cond (touched (view one own) (view one own') d q) (get_or xs q 0) (get_or old q 0)
          ≡ cond (mine one own' d q) (get_or xs q 0) (get_or (part two own d old) q 0)
      at q l (inl e) (inl f) g = rw (e, f)
      at q l (inr e) (inl f) g = rw (e, f)
      at q l (inl e) (inr f) g =
          let apart = mine-apart one own d q e in
          rw (e, f) (blank.zero q (rw size l) f ∙ sym (part-at two own d old q l ∙ rw apart))
      at q l (inr e) (inr f) (inl g) = rw (e, f) (sym (part-at two own d old q l ∙ rw g))
      at q l (inr e) (inr f) (inr g) = rw (e, f) (spare.blank q l e g ∙ sym (part-at two own d old q l ∙ rw g))
  mixed-joined two same blank =
      ext_get_or 0 _ _ (length-mixed (view two own) (view two own') d old xs ∙ sym (length-laid xs _ _ ∙ size)) (λ q h.
      let l : q < length old = rw length-mixed at h in
      mixed-at (view two own) (view two own') d old xs q l ∙ at q l (decided (mine one own d q)) (decided (mine two own d q)) (decided (mine two own' d q))
      ∙ sym (laid-at xs (mine one own' d) (entry (part one own d old)) q (rw size l)))
    where
      at : (q : ℕ) → q < length old → (mine one own d q ≡ true) ⊎ (mine one own d q ≡ false) → (mine two own d q ≡ true) ⊎ (mine two own d q ≡ false)
          → (mine two own' d q ≡ true) ⊎ (mine two own' d q ≡ false)
          → cond (touched (view two own) (view two own') d q) (get_or xs q 0) (get_or old q 0)
          ≡ cond (mine one own' d q) (get_or (part one own d old) q 0) (get_or xs q 0)
      at q l (inl e) f g =
          let theirs : mine one own' d q ≡ true = same-places one own own' d q same ∙ e in
          let was = mine-apart one own d q e in
          let now = mine-apart one own' d q theirs in
          rw (theirs, was, now) (sym (part-at one own d old q l ∙ rw e))
      at q l (inr e) (inl f) g = let theirs : mine one own' d q ≡ false = same-places one own own' d q same ∙ e in rw (theirs, f)
      at q l (inr e) (inr f) (inl g) = let theirs : mine one own' d q ≡ false = same-places one own own' d q same ∙ e in rw (theirs, f, g)
      at q l (inr e) (inr f) (inr g) =
          let theirs : mine one own' d q ≡ false = same-places one own own' d q same ∙ e in
          rw (theirs, f, g) (spare.blank q l e f ∙ sym (blank.zero q (rw size l) g))
