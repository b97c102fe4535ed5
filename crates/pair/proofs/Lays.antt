-- What a program that paints a party's live cells over the real arrays leaves is the box that is asked for. `now` is an array over a pool once closed
-- chunks are zero: at places that are not the party's it holds what the other has there, and 0 where nobody has anything.
use mathlib.Core.Path.{◌≡◌, sym, ◌∙◌, ap}
use mathlib.Core.Logic.{◌⊎◌, inl, inr}
use mathlib.Core.Bool.{Bool, true, false, cond}
use mathlib.Core.List.{List}
use Prim.Native.Nat.{ℕ, ◌/◌, ◌^◌, ◌<◌}
use lib.Dec.{ltb}
use lib.ListN.{get_or, length}
use lib.Seq.{ext_get_or}
use Rattle.bits.proofs.Bools.{decided}
use Rattle.bits.proofs.Tabs.{length-tabulate, get_d_tabulate}
use Rattle.sail_theory.specs.Render.{block, laid}
use Rattle.sail_theory.proofs.places.Pools.{length-laid, laid-at}
use Rattle.pair.specs.Party.{Party, one, two, other, put, view}
use Rattle.pair.specs.PairLent.{mine, part, joined}
use Rattle.pair.specs.PairSound.{Spare}
use Rattle.pair.proofs.Views.{mine-apart, length_part, part-at, part-mine}

length-block : (n : ℕ) (live : ℕ → Bool) (value : ℕ → ℕ) → length (block n live value) ≡ n
unfolding block
length-block n live value = length-tabulate n _

block_at : (n : ℕ) (live : ℕ → Bool) (value : ℕ → ℕ) (q : ℕ) → q < n → get_or (block n live value) q 0 ≡ cond (live q) (value q) 0
unfolding block
block_at n live value q l = get_d_tabulate n _ q 0 l

-- the other sees the same owners, so it has the same places
pub same-places : (w : Party) (own own' : List ℕ) (d q : ℕ) → view w own' ≡ view w own → mine w own' d q ≡ mine w own d q
same-places w own own' d q e = ap (λ (v : List ℕ). ltb 0 (get_or v (q / 2 ^ d) 0)) e

-- the array of each party: w's is painted, the other's is as it was
abbrev pub painted : Party → List ℕ → List ℕ → ℕ → (ℕ → ℕ) → List ℕ → Party → List ℕ
painted w own own' d value old = put w (block (length old) (mine w own' d) value) (λ v. part v own d old)

module _ (own own' : List ℕ) (d : ℕ) (value : ℕ → ℕ) (old now : List ℕ) (size : length now ≡ length old) where
  -- where w has no place, `now` holds what the other has there
  abbrev pub Left : Party → Type 0
  Left w = (q : ℕ) → q < length old → mine w own' d q ≡ false → get_or now q 0 ≡ get_or (part (other w) own d old) q 0

  pub laid-joined : (w : Party) → view (other w) own' ≡ view (other w) own → Left w
      → laid now (mine w own' d) value ≡ joined own' d (painted w own own' d value old one) (painted w own own' d value old two)
  unfolding joined
  laid-joined one same left =
      let ys : List ℕ = part two own d old in
      let n : length ys ≡ length old = length_part two own d old in
      ext_get_or 0 _ _ (length-laid now _ _ ∙ size ∙ sym (length-laid ys _ _ ∙ n)) (λ q l.
      let k : q < length now = rw length-laid at l in
      let j : q < length old = rw size at k in
      laid-at now (mine one own' d) value q k ∙ at q j (decided (mine one own' d q)) ∙ sym (laid-at ys (mine one own' d) _ q (rw n j)))
    where
      at : (q : ℕ) → q < length old → (mine one own' d q ≡ true) ⊎ (mine one own' d q ≡ false)
          → cond (mine one own' d q) (value q) (get_or now q 0)
          ≡ cond (mine one own' d q) (get_or (block (length old) (mine one own' d) value) q 0) (get_or (part two own d old) q 0)
      at q j (inl e) = rw e (sym (block_at (length old) (mine one own' d) value q j ∙ rw e))
      at q j (inr e) = rw e (left q j e)
  laid-joined two same left =
      let ys : List ℕ = block (length old) (mine two own' d) value in
      let n : length ys ≡ length old = length-block (length old) (mine two own' d) value in
      ext_get_or 0 _ _ (length-laid now _ _ ∙ size ∙ sym (length-laid ys _ _ ∙ n)) (λ q l.
      let k : q < length now = rw length-laid at l in
      let j : q < length old = rw size at k in
      laid-at now (mine two own' d) value q k ∙ at q j (decided (mine one own' d q)) (decided (mine two own' d q))
      ∙ sym (laid-at ys (mine one own' d) _ q (rw n j)))
    where
      at : (q : ℕ) → q < length old → (mine one own' d q ≡ true) ⊎ (mine one own' d q ≡ false) → (mine two own' d q ≡ true) ⊎ (mine two own' d q ≡ false)
          → cond (mine two own' d q) (value q) (get_or now q 0)
          ≡ cond (mine one own' d q) (get_or (part one own d old) q 0) (get_or (block (length old) (mine two own' d) value) q 0)
      at q j (inl e) f = let apart = mine-apart one own' d q e in rw (e, apart) (left q j apart)
      at q j (inr e) (inl f) = rw (e, f) (sym (block_at (length old) (mine two own' d) value q j ∙ rw f))
      at q j (inr e) (inr f) =
          let none : mine one own d q ≡ false = sym (same-places one own own' d q same) ∙ e in
          rw (e, f) (left q j f ∙ part-at one own d old q j ∙ rw none (sym (block_at (length old) (mine two own' d) value q j ∙ rw f)))

-- Nothing is closed: what was the party's is so still. Then the array itself is such a `now`.
pub open-left : (w : Party) (own own' : List ℕ) (d : ℕ) (old : List ℕ) → Spare own d old
    → ((q : ℕ) → mine w own d q ≡ true → mine w own' d q ≡ true)
    → (q : ℕ) → q < length old → mine w own' d q ≡ false → get_or old q 0 ≡ get_or (part (other w) own d old) q 0
open-left w own own' d old s still q l e = go (decided (mine w own d q)) (decided (mine (other w) own d q))
  where
    neither : (w : Party) → mine w own d q ≡ false → mine (other w) own d q ≡ false → get_or old q 0 ≡ 0
    neither one x y = s.blank q l x y
    neither two x y = s.blank q l y x

    go : (mine w own d q ≡ true) ⊎ (mine w own d q ≡ false) → (mine (other w) own d q ≡ true) ⊎ (mine (other w) own d q ≡ false)
        → get_or old q 0 ≡ get_or (part (other w) own d old) q 0
    go (inl x) y = absurd (mathlib.Core.Bool.true≢false (sym (still q x) ∙ e))
    go (inr x) (inl y) = sym (part-mine (other w) own d old q l y)
    go (inr x) (inr y) = neither w x y ∙ sym (part-at (other w) own d old q l ∙ rw y)
