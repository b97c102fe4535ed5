-- What each return of withdraw says. The address is cut to the length before the prefix is judged.
use mathlib.Core.Path.{◌≡◌, refl, sym, ◌∙◌, ap}
use mathlib.Core.Bool.{Bool, true, false, not}
use mathlib.Core.List.{[]}
use Prim.Native.Nat.{ℕ, zero, suc, ◌≤◌}
use lib.Dec.{eqb}
use lib.ListN.{length}
use borrow.Author.Tests.{not-true, not-false}
use Rattle.bits.specs.Slot.{cut}
use Rattle.routes.specs.Route.{Prefix}
use Rattle.routes.specs.Input.{proper_prefix}
use Rattle.routes.specs.Said.{accepted, refused}
use Rattle.routes.proofs.Meaning.{prefix-true}
use Rattle.sail.specs.declared.geometry.Geometry.{Geometry}
use Rattle.sail_theory.specs.Calls.{withdraw_fault, or_say}
use Rattle.sail_theory.proofs.Judges.{or-said}
use Rattle.sail_withdraw.specs.Answers.{means_withdraw}
use Rattle.sail_withdraw.specs.declared.answers.Withdraw.TheVariants as withdraw
use Rattle.pair.specs.Party.{Party, one}
use Rattle.pair.specs.PairLent.{PairLent}
use Rattle.pair.specs.PairSound.{pair_sizes_fault, PairSizesTold}
use Rattle.pair.specs.PairCalls.{PairOut, pair_withdraw_said, pair_out, pair_taking, pair_with_flag, pair_withdrawn}
use Rattle.pair.specs.declared.Pair.{Pair}
use Rattle.pair_sound.specs.BoxTest.{BothSized}
use Rattle.pair_withdraw.specs.Contract.{MeetsPairTake}
use Rattle.pair_withdraw.specs.declared.side.PairTaken.{PairTaken}

-- the sizes are right
module _ {g : Geometry} {b : PairLent} {z : ℕ} (told : PairSizesTold z g b) (e : z ≡ 0) where
  pub sized : BothSized g b
  sized = record { each = told.facts e }

  pub few2 : length b.own2 ≤ 4096
  few2 = (told.facts e one).few2

  pub few3 : length b.own3 ≤ 4096
  few3 = (told.facts e one).few3

pub is-prefix : (a len : ℕ) (c : Bool) → c ≡ proper_prefix a len → not c ≡ false → Prefix a len
is-prefix a len c e h = prefix-true a len (sym e ∙ not-false c h)

module _ (w : Party) (t : Pair) (b : PairLent) (a len x : ℕ) (cutoff : x ≡ cut len a) where
  -- what the refusal of the prefix says
  refused-is : (n : ℕ) → pair_withdraw_said w t b x len ≡ refused n → pair_out (refused n) t b ≡ pair_withdrawn w t b a len
  unfolding pair_withdrawn pair_taking
  refused-is n e = rw (← cutoff, e)

  module _ {z : ℕ} (told : PairSizesTold z t.geometry b) where
    pub off-sizes : (z ≡ 0 → ⊥) → pair_out (means_withdraw (withdraw.Refused z)) t b ≡ pair_withdrawn w t b a len
    unfolding means_withdraw pair_withdraw_said
    off-sizes h = refused-is z (or-said (pair_sizes_fault t.geometry b) z _ told.number h)

    pub off-prefix : z ≡ 0 → (c : Bool) → c ≡ proper_prefix x len → not c ≡ true → pair_out (means_withdraw (withdraw.Refused 3)) t b ≡ pair_withdrawn w t b a len
    unfolding means_withdraw pair_withdraw_said withdraw_fault
    off-prefix h c e k = refused-is 3 (rw (sym told.number ∙ h, sym e ∙ not-true c k))

  -- and the rest
  module _ (r : PairTaken) (e : PairLent) (q : MeetsPairTake w t b x len r e) where
    pub off-taken : (r.number ≡ 0 → ⊥) → pair_out (means_withdraw (withdraw.Refused r.number)) r.state e ≡ pair_withdrawn w t b a len
    unfolding means_withdraw pair_withdrawn
    off-taken h = go r.number refl ∙ ap (pair_with_flag (not (eqb (cut len a) a))) (rw cutoff at q)
      where
        go : (n : ℕ) → r.number ≡ n
            → pair_out (refused r.number) r.state e ≡ pair_with_flag (not (eqb (cut len a) a)) (pair_out (or_say r.number (accepted [])) r.state e)
        go zero z = absurd (h z)
        go (suc n) z = rw z

    pub on-taken : r.number ≡ 0 → (c : Bool) → c ≡ not (eqb x a) → pair_out (means_withdraw (withdraw.Removed c)) r.state e ≡ pair_withdrawn w t b a len
    unfolding means_withdraw pair_withdrawn
    on-taken h c d = ap (λ (o : PairOut). pair_with_flag c o) (rw h at q) ∙ rw (d, cutoff)
