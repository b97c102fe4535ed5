-- What each return of a party's announcement says. The address x is cut to its length before the route is judged.
use mathlib.Core.Path.{◌≡◌, refl, sym, ◌∙◌, ap, subst}
use mathlib.Core.Bool.{Bool, not}
use mathlib.Core.List.{List, [], ◌∷◌}
use Prim.Native.Nat.{ℕ, zero, suc, ◌≤◌}
use lib.Dec.{eqb}
use lib.ListN.{length}
use Rattle.bits.specs.Count.{bit}
use Rattle.bits.specs.Slot.{cut}
use Rattle.routes.specs.Said.{accepted, refused}
use Rattle.routes.specs.declared.Route.{Route}
use Rattle.sail.specs.Lent.{Lent}
use Rattle.sail.specs.declared.geometry.Geometry.{Geometry}
use Rattle.sail_announce.specs.Answers.{means_announce}
use Rattle.sail_announce.specs.declared.answers.Announce.{Announce}
use Rattle.sail_announce.specs.declared.answers.Announce.TheVariants as announce
use Rattle.sail_theory.specs.Calls.{or_say, route, with_flag}
use Rattle.sail_theory.proofs.Judges.{or-said}
use Rattle.pair.specs.Party.{Party, one, party_of}
use Rattle.pair.specs.PairLent.{PairLent, side}
use Rattle.pair.specs.PairSound.{pair_sizes_fault, PairSizesTold}
use Rattle.pair.specs.PairCalls.{pair_announce_said, pair_out, pair_with_flag, pair_adding, pair_announced}
use Rattle.pair.specs.declared.Pair.{Pair}
use Rattle.pair_sound.specs.BoxTest.{BothSized}
use Rattle.pair_cells.specs.Sides.{with_side}
use Rattle.pair_cells.proofs.Boxes.{box-sight}
use Rattle.pair_announce.specs.Judged.{BoxJudged, BoxProper}
use Rattle.pair_announce.specs.SideAdds.{TurnReady, TurnTaken, turn_said}
use Rattle.pair_announce.specs.declared.turn.Turn.{Turn}
use Rattle.pair_announce.proofs.Sides.{side-adding}

-- the answer: a refusal, and none
pub answer-refused : (n : ℕ) (stood cleared : Bool) → (n ≡ 0 → ⊥) → means_announce (announce.Refused n) ≡ with_flag cleared (or_say n (accepted (bit stood ∷ [])))
unfolding means_announce
answer-refused zero stood cleared h = absurd (h refl)
answer-refused (suc n) stood cleared h = refl

pub answer-accepted : (n : ℕ) (stood cleared : Bool) → n ≡ 0 → (a : Announce) → means_announce a ≡ accepted (bit cleared ∷ bit stood ∷ [])
    → means_announce a ≡ with_flag cleared (or_say n (accepted (bit stood ∷ [])))
answer-accepted n stood cleared e a m = m ∙ rw e

-- where the sizes are right
module _ (w : Party) (t : Pair) (b : PairLent) (r : Route) where
  -- a refusal leaves all as it was
  pub sized-refused : (n : ℕ) (see2 see3 ws par : List ℕ) → BoxJudged n w t b r see2 see3 ws par → (n ≡ 0 → ⊥) → (stood : Bool)
      → pair_out (turn_said (record { number = n; stood = stood; state = t })) t b ≡ pair_adding w t b r
  unfolding pair_adding
  sized-refused n see2 see3 ws par j h stood = rw (j.off h) (go n h)
    where
      go : (n : ℕ) → (n ≡ 0 → ⊥) → pair_out (or_say n (accepted (bit stood ∷ []))) t b ≡ pair_out (refused n) t b
      go zero h = absurd (h refl)
      go (suc n) h = refl

-- the party's side of a box that passed, and what the step on it leaves
module _ (t : Pair) (b : PairLent) (r : Route) (guest : Bool) {see2 see3 ws par : List ℕ} (p : BoxProper (party_of guest) t b r see2 see3 ws par) where
  sized-ready : TurnReady (party_of guest) t (side (party_of guest) b) r see2 see3 ws par
  sized-ready = record {
    fine = p.fine;
    boxed = record { box = b; is = refl; sound = p.sound };
    sight = box-sight (party_of guest) t b see2 see3 ws par p.sight;
  }

  -- the second party's, and the first's
  module _ (w : Party) (is : party_of guest ≡ w) where
    pub ready_for : TurnReady w t (side w b) r see2 see3 ws par
    ready_for = subst (λ (v : Party). TurnReady v t (side v b) r see2 see3 ws par) is sized-ready

    pub taken-for : {f : Turn} {e : Lent} {see2' see3' ws' par' : List ℕ} → TurnTaken w t (side w b) r f e see2' see3' ws' par'
        → pair_out (turn_said f) f.state (with_side w e b) ≡ pair_adding (party_of guest) t b r
    taken-for {f} {e} d = side-adding t b p.sound r p.fine w f e d.left d.stood ∙ sym (ap (λ (v : Party). pair_adding v t b r) is)

-- the sizes are right: both parties' arrays fit, and the pools have few chunks
pub sizes-pass : {g : Geometry} {b : PairLent} {z : ℕ} → PairSizesTold z g b → z ≡ 0
    → BothSized g b × (length b.own2 ≤ 4096) × (length b.own3 ≤ 4096)
sizes-pass told e = (record { each = told.facts e }, (told.facts e one).few2, (told.facts e one).few3)

-- the whole call
module _ (w : Party) (t : Pair) (b : PairLent) (r : Route) where
  pub sizes-refused : (z : ℕ) → PairSizesTold z t.geometry b → (z ≡ 0 → ⊥) → pair_out (means_announce (announce.Refused z)) t b ≡ pair_announced w t b r
  unfolding means_announce pair_announced pair_adding pair_announce_said
  sizes-refused z told h = rw (or-said (pair_sizes_fault t.geometry b) z _ told.number h)

  -- what is added is the cleared route, and bits were cleared where the address is another
  pub announce-told : (x : ℕ) → x ≡ cut r.len r.addr → (f : Turn) {e : PairLent}
      → pair_out (turn_said f) f.state e ≡ pair_adding w t b (route x r.len r.hop r.mark)
      → (c : Bool) → c ≡ not (eqb x r.addr) → (a : Announce) → means_announce a ≡ with_flag c (turn_said f)
      → pair_out (means_announce a) f.state e ≡ pair_announced w t b r
  unfolding pair_announced
  announce-told x is f {e} left c d a m = rw m (ap (pair_with_flag c) left ∙ rw (d, is))
