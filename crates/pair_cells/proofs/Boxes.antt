-- A box and a party's side of it.
use mathlib.Core.Path.{◌≡◌, refl, sym, ◌∙◌, ap}
use mathlib.Core.List.{List}
use Prim.Native.Nat.{ℕ, ◌*◌, ◌^◌}
use lib.ListN.{length}
use Rattle.routes.specs.declared.Route.{Route}
use Rattle.sail.specs.Geometry.{bits2, bits3}
use Rattle.sail.specs.Lent.{Lent}
use Rattle.sail.specs.Sizes.{Sized}
use Rattle.sail.specs.declared.geometry.Geometry.{Geometry}
use Rattle.sail_theory.specs.Calls.{Owners}
use Rattle.sail_theory.specs.Render.{rendered}
use Rattle.pair.specs.Party.{Party, one, two, view}
use Rattle.pair.specs.PairLent.{PairLent, side, room_for}
use Rattle.pair.specs.PairSound.{PairSound}
use Rattle.pair.specs.PairCalls.{with_count, pair_lent_of}
use Rattle.pair.specs.declared.Pair.{Pair}
use Rattle.pair.proofs.Sees.{Seen, rendered-seen, side-sized, Shift, shift-holds}
use Rattle.pair_sound.specs.BoxTest.{BoxSight}
use Rattle.pair_cells.specs.Sides.{SideSound, SideSight, side_left, with_side}
use Rattle.pair_cells.proofs.Mixes.{mixed-joined}

-- in a sound box each side is
pub side-sound : (w : Party) (t : Pair) (b : PairLent) → PairSound t b → SideSound w t (side w b)
side-sound one t b s = s.each one
side-sound two t b s = s.each two

pub box-sight : (w : Party) (t : Pair) (b : PairLent) (see2 see3 ws par : List ℕ) → BoxSight w t b see2 see3 ws par → SideSight w t (side w b) see2 see3 ws par
box-sight one t b see2 see3 ws par s = record { seen2 = s.seen2; seen3 = s.seen3; chain = s.chain }
box-sight two t b see2 see3 ws par s = record { seen2 = s.seen2; seen3 = s.seen3; chain = s.chain }

-- a side that is as it was
pub same-side : (w : Party) (b : PairLent) → with_side w (side w b) b ≡ b
same-side one b = refl
same-side two b = refl

-- A change that the box allows: what is left on the party's side makes the box that is asked for, which is sound.
module _ (t : Pair) (b : PairLent) (rs : List Route) (o : Owners) where
  abbrev g : Geometry
  g = t.geometry

  module _ (w : Party) (k : Shift w t b rs o) where
    abbrev asked : Lent
    asked = rendered g (room_for w b) rs (view w o.own2) (view w o.own3)

    seen : Seen g o w asked
    seen = rendered-seen g o w (room_for w b) rs

    sized : Sized g (side w b)
    sized = side-sized g w b (k.sound.each w).sized

    -- as long as they were
    more2 : length o.own2 * 2 ^ bits2 g ≡ length b.own2 * 2 ^ bits2 g
    more2 = ap (λ (n : ℕ). n * 2 ^ bits2 g) k.len2

    more3 : length o.own3 * 2 ^ bits3 g ≡ length b.own3 * 2 ^ bits3 g
    more3 = ap (λ (n : ℕ). n * 2 ^ bits3 g) k.len3

  pub shift-box : (w : Party) → Shift w t b rs o → with_side w (side_left w g (side w b) rs o) b ≡ pair_lent_of w t b rs o
  shift-box one k = rw (
    mixed-joined b.own2 o.own2 (bits2 g) b.second (asked one k).second k.sound.spare2
        ((seen one k).size2 ∙ more2 one k ∙ sym (sized one k).cells2)
        one k.same2 (seen one k).blank2,
    mixed-joined b.own3 o.own3 (bits3 g) b.third (asked one k).third k.sound.spare3
        ((seen one k).size3 ∙ more3 one k ∙ sym (sized one k).cells3)
        one k.same3 (seen one k).blank3,
    mixed-joined b.own2 o.own2 (bits2 g) b.long2 (asked one k).long2 k.sound.uncounted
        ((seen one k).sizes ∙ more2 one k ∙ sym ((sized one k).counts2 ∙ (sized one k).cells2)) one k.same2 (seen one k).uncounted,
  )
  shift-box two k = rw (
    mixed-joined b.own2 o.own2 (bits2 g) b.second (asked two k).second k.sound.spare2
        ((seen two k).size2 ∙ more2 two k ∙ sym (sized two k).cells2)
        two k.same2 (seen two k).blank2,
    mixed-joined b.own3 o.own3 (bits3 g) b.third (asked two k).third k.sound.spare3
        ((seen two k).size3 ∙ more3 two k ∙ sym (sized two k).cells3)
        two k.same3 (seen two k).blank3,
    mixed-joined b.own2 o.own2 (bits2 g) b.long2 (asked two k).long2 k.sound.uncounted
        ((seen two k).sizes ∙ more2 two k ∙ sym ((sized two k).counts2 ∙ (sized two k).cells2)) two k.same2 (seen two k).uncounted,
  )

  pub shift-sound : (w : Party) → Shift w t b rs o → PairSound (with_count w (length rs) t) (with_side w (side_left w g (side w b) rs o) b)
  shift-sound w k = rw (shift-box w k) (shift-holds w t b rs o k).sound
