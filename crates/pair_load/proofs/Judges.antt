-- What the judge of a party's load says, each way through it.
use mathlib.Core.Path.{◌≡◌, refl, sym, ◌∙◌}
use mathlib.Core.Bool.{Bool, true, false, not, true≢false, false≢true}
use mathlib.Core.List.{List, [], ◌∷◌}
use Prim.Native.Nat.{ℕ, ◌/◌, ◌≤◌}
use native.Mathlib.Omega.{arith}
use lib.ListN.{length}
use Rattle.std.specs.Prelude.{Ok, Err}
use Rattle.refusals.specs.declared.Refused.{Refused}
use Rattle.routes.specs.Record.{routes_of}
use Rattle.routes.specs.Input.{input_said}
use Rattle.routes.specs.Said.{Said, accepted, refused, told}
use Rattle.routes.specs.Answers.{means_input}
use Rattle.routes.proofs.Saids.{said-ok, said-err, and-then-told}
use Rattle.routes.proofs.Meaning.{input-good}
use Rattle.sail.specs.Geometry.{Valid}
use Rattle.sail.specs.declared.geometry.Geometry.{Geometry}
use Rattle.sail_theory.specs.Calls.{Terms, load_fault, input_routes}
use Rattle.sail_theory.proofs.Judges.{or-said}
use Rattle.sail_need.specs.Weigh.{terms, Weighs}
use Rattle.pair.specs.Party.{Party, one, party_of}
use Rattle.pair.specs.PairLent.{PairLent}
use Rattle.pair.specs.PairSound.{share_of, pair_sizes_fault, PairSizesTold, pair_sound?}
use Rattle.pair.specs.PairCalls.{pair_load_said}
use Rattle.pair.specs.declared.Pair.{Pair}
use Rattle.pair.specs.declared.Share.{Share}
use Rattle.pair_sound.specs.BoxTest.{BothSized, BoxTold}
use Rattle.pair_load.specs.Told.{input_told, sound_told}

-- of the input
pub weighs : (g : Geometry) (input : List ℕ) (n : ℕ) → Valid g → means_input (Ok n) ≡ input_said input → Weighs g input n
weighs g input n v checked = record { valid = v; records = (input-good input n (said-ok _ _ _ checked n refl)).1 }

module _ (m : Terms) (input : List ℕ) where
  pub says-bad : (e : Refused) → means_input (Err e) ≡ input_said input → told e ≡ input_told m input
  says-bad e q = rw (said-err _ _ _ q e refl) (sym (and-then-told e _))

  module _ (n : ℕ) (checked : means_input (Ok n) ≡ input_said input) where
    good : input_said input ≡ accepted (n ∷ [])
    good = said-ok _ _ _ checked n refl

    module _ (f : ℕ) (weighed : f ≡ load_fault m (routes_of input n)) where
      whole : f ≡ load_fault m (input_routes input)
      whole = let e : n ≡ length input / 8 = omega (arith, (input-good input n good).0) in rw e at weighed

      pub says-full : (f ≡ 0 → ⊥) → refused f ≡ input_told m input
      says-full h = rw good (sym (or-said (load_fault m (input_routes input)) f (accepted []) whole h))

      pub says-done : f ≡ 0 → accepted [] ≡ input_told m input
      says-done h = rw (good, ← whole, h)

-- where the sizes are right
pub both-sized : (g : Geometry) (b : PairLent) (z : ℕ) → PairSizesTold z g b → z ≡ 0 → BothSized g b
both-sized g b z check e = record { each = check.facts e }

pub few-chunks : (g : Geometry) (b : PairLent) → BothSized g b → (length b.own2 ≤ 4096) × (length b.own3 ≤ 4096)
few-chunks g b z = ((z.each one).few2, (z.each one).few3)

pub valid-box : (g : Geometry) (b : PairLent) → BothSized g b → Valid g
valid-box g b z = (z.each one).valid

module _ (t : Pair) (b : PairLent) (input : List ℕ) (r : Bool) where
  pub says-unsound : (w : Party) {see2 see3 ws par : List ℕ} → BoxTold r w t b see2 see3 ws par → not r ≡ true
      → refused 5 ≡ sound_told w t b input
  says-unsound w seen e = go r seen.is e
    where
      go : (r : Bool) → r ≡ pair_sound? t b → not r ≡ true → refused 5 ≡ sound_told w t b input
      go true i e = absurd (true≢false (sym e))
      go false i e = rw (← i)

  -- a sound box: the input is judged by the party's room and limits
  sound-on : (w : Party) {see2 see3 ws par : List ℕ} → BoxTold r w t b see2 see3 ws par → not r ≡ false → pair_sound? t b ≡ true
  sound-on w seen e = go r seen.is e
    where
      go : (r : Bool) → r ≡ pair_sound? t b → not r ≡ false → pair_sound? t b ≡ true
      go true i e = sym i
      go false i e = absurd (true≢false e)

  module _ (guest : Bool) {see2 see3 ws par : List ℕ} (seen : BoxTold r (party_of guest) t b see2 see3 ws par) (on : not r ≡ false)
      (s : Share) (mine : s ≡ share_of (party_of guest) t) (a : Said) where
    pub says_second : guest ≡ true → a ≡ input_told (terms t.geometry (length b.list2 / 8) s.most2 s.most3) input
        → a ≡ sound_told (party_of guest) t b input
    says_second e is = go guest e mine (sound-on (party_of guest) seen on)
      where
        go : (x : Bool) → x ≡ true → s ≡ share_of (party_of x) t → pair_sound? t b ≡ true → a ≡ sound_told (party_of x) t b input
        go false e m p = absurd (false≢true e)
        go true e m p = is ∙ rw (p, m)

    pub says_first : guest ≡ false → a ≡ input_told (terms t.geometry (length b.list1 / 8) s.most2 s.most3) input
        → a ≡ sound_told (party_of guest) t b input
    says_first e is = go guest e mine (sound-on (party_of guest) seen on)
      where
        go : (x : Bool) → x ≡ false → s ≡ share_of (party_of x) t → pair_sound? t b ≡ true → a ≡ sound_told (party_of x) t b input
        go true e m p = absurd (true≢false e)
        go false e m p = is ∙ rw (p, m)

module _ (t : Pair) (b : PairLent) (input : List ℕ) (z : ℕ) (check : PairSizesTold z t.geometry b) where
  pub says-sizes : (w : Party) → (z ≡ 0 → ⊥) → refused z ≡ pair_load_said w t b input
  unfolding pair_load_said
  says-sizes w n = sym (or-said (pair_sizes_fault t.geometry b) z _ check.number n)

  pub says-sized : (w : Party) → z ≡ 0 → (a : Said) → a ≡ sound_told w t b input → a ≡ pair_load_said w t b input
  unfolding pair_load_said
  says-sized w e a is = is ∙ sym (rw (sym check.number ∙ e))
