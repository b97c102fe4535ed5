-- The answers of a party's report.
use mathlib.Core.Path.{◌≡◌, refl, sym, ◌∙◌, ap}
use mathlib.Core.Bool.{Bool, true, false, not, true≢false, false≢true}
use mathlib.Core.List.{List, [], ◌∷◌}
use Prim.Native.Nat.{ℕ, ◌≤◌}
use lib.ListN.{length}
use Rattle.routes.specs.Said.{Said, accepted, refused}
use Rattle.sail.specs.Sound.{used}
use Rattle.sail.specs.declared.geometry.Geometry.{Geometry}
use Rattle.sail.proofs.Sounds.{chunks-need}
use Rattle.sail_theory.proofs.Judges.{or-said}
use Rattle.pair.specs.Party.{Party, one, two, party_of}
use Rattle.pair.specs.PairLent.{PairLent, sees}
use Rattle.pair.specs.PairSound.{share_of, table_for, pair_sizes_fault, PairSizesTold, PairSound, pair_sound?}
use Rattle.pair.specs.PairCalls.{pair_reported}
use Rattle.pair.specs.declared.Pair.{Pair}
use Rattle.pair_sound.specs.BoxTest.{BothSized, BoxTold}
use Rattle.pair_report.specs.Told.{sound_told}

pub both-sized : (g : Geometry) (b : PairLent) (z : ℕ) → PairSizesTold z g b → z ≡ 0 → BothSized g b
both-sized g b z told e = record { each = told.facts e }

pub few-chunks : (g : Geometry) (b : PairLent) → BothSized g b → (length b.own2 ≤ 4096) × (length b.own3 ≤ 4096)
few-chunks g b z = ((z.each one).few2, (z.each one).few3)

-- whose count
pub second-count : (t : Pair) (guest : Bool) → guest ≡ true → t.two.count ≡ (share_of (party_of guest) t).count
second-count t true e = refl
second-count t false e = absurd (false≢true e)

pub first_count : (t : Pair) (guest : Bool) → guest ≡ false → t.one.count ≡ (share_of (party_of guest) t).count
first_count t true e = absurd (true≢false e)
first_count t false e = refl

module _ (w : Party) (t : Pair) (b : PairLent) (see2 see3 ws par : List ℕ) (r : Bool) (told : BoxTold r w t b see2 see3 ws par) where
  pub unsound : not r ≡ true → refused 5 ≡ sound_told w t b
  unsound e = go r told.is e
    where
      go : (r : Bool) → r ≡ pair_sound? t b → not r ≡ true → refused 5 ≡ sound_told w t b
      go true i e = absurd (true≢false (sym e))
      go false i e = rw (← i)

  pub standing-told : not r ≡ false → (n m k : ℕ) → n ≡ (share_of w t).count → m ≡ used see2 → k ≡ used see3 → accepted (n ∷ m ∷ k ∷ []) ≡ sound_told w t b
  standing-told e n m k en em ek = go r told.is told.tells.0 told.sight e
    where
      go : (r : Bool) → r ≡ pair_sound? t b → (r ≡ true → PairSound t b)
          → (r ≡ true → Rattle.pair_sound.specs.BoxTest.BoxSight w t b see2 see3 ws par) → not r ≡ false
          → accepted (n ∷ m ∷ k ∷ []) ≡ sound_told w t b
      go false i s g e = absurd (false≢true (sym e))
      go true i s g e =
          let z = s refl in
          let h = g refl in
          let c = chunks-need (table_for w t) (sees t.geometry w b) (z.each w) in
          rw (← i, en, em ∙ ap used h.seen2 ∙ c.0, ek ∙ ap used h.seen3 ∙ c.1)

module _ (t : Pair) (b : PairLent) (z : ℕ) (told : PairSizesTold z t.geometry b) where
  pub report-off : (w : Party) → (z ≡ 0 → ⊥) → refused z ≡ pair_reported w t b
  unfolding pair_reported
  report-off w n = sym (or-said (pair_sizes_fault t.geometry b) z _ told.number n)

  pub report-on : (w : Party) → z ≡ 0 → (s : Said) → s ≡ sound_told w t b → s ≡ pair_reported w t b
  unfolding pair_reported
  report-on w e s is = is ∙ sym (rw (sym told.number ∙ e))
