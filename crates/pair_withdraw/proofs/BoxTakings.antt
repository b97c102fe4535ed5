-- A withdrawal on a party's side of a sound box is the party's withdrawal from the box: what it answers, what is left of the state and of all eleven arrays;
-- and the box is sound still.
use mathlib.Core.Path.{◌≡◌, refl, sym, ◌∙◌, ap, subst}
use mathlib.Core.Logic.{◌⊎◌, inl, inr}
use mathlib.Core.Bool.{Bool, true, false, not, true≢false, false≢true}
use mathlib.Core.List.{List, []}
use Prim.Native.Nat.{ℕ}
use lib.ListN.{length}
use borrow.Author.Tests.{not-true, not-false}
use Rattle.bits.proofs.Bools.{decided}
use Rattle.routes.specs.Route.{key_of, Prefix}
use Rattle.routes.specs.Said.{accepted, refused}
use Rattle.routes.specs.declared.Route.{Route}
use Rattle.routes.proofs.Meaning.{true-prefix}
use Rattle.standing.specs.Cells.{within}
use Rattle.standing.specs.Standing.{stands, remove}
use Rattle.standing.proofs.Standing.{remove-good, remove-length, remove-any}
use Rattle.sail.specs.Lent.{Lent}
use Rattle.sail.specs.declared.geometry.Geometry.{Geometry}
use Rattle.sail_theory.specs.Calls.{Owners, owners_of, withdraw_fault, or_say}
use Rattle.pair.specs.Party.{Party, one, two, party_of}
use Rattle.pair.specs.PairLent.{PairLent, side, pair_owners}
use Rattle.pair.specs.PairSound.{standing_for, PairSound, pair_sound?}
use Rattle.pair.specs.PairCalls.{owners_kept_for, pair_withdraw_said, pair_out, with_count, pair_lent_of, pair_taking}
use Rattle.pair.specs.declared.Pair.{Pair}
use Rattle.pair.proofs.PairFresh.{sizes-none}
use Rattle.pair.proofs.PairTest.{pair-sound-tells}
use Rattle.pair.proofs.Sees.{side-sized, Shift}
use Rattle.pair.proofs.Shifts.{routes-good, withdraw-shift}
use Rattle.pair_sound.specs.BoxTest.{BothSized, BoxTold}
use Rattle.pair_cells.specs.Sides.{side_left, with_side, SideOut, side_out}
use Rattle.pair_cells.proofs.Boxes.{side-sound, box-sight, same-side, shift-box, shift-sound}
use Rattle.pair_withdraw.specs.Taking.{SideReady, side_taking}

owners-side : (w : Party) (b : PairLent) → owners_of (side w b) ≡ pair_owners b
owners-side one b = refl
owners-side two b = refl

-- what is said of a prefix where the sizes are right
module _ (w : Party) (t : Pair) (b : PairLent) (z : BothSized t.geometry b) {a len : ℕ} (p : Prefix a len) where
  said-unsound : pair_sound? t b ≡ false → pair_withdraw_said w t b a len ≡ refused 5
  unfolding pair_withdraw_said withdraw_fault
  said-unsound e = rw (sizes-none t.geometry b z.each, true-prefix a len p, e)

  module _ (s : pair_sound? t b ≡ true) where
    said-absent : stands (key_of a len) (standing_for w t b) ≡ false → pair_withdraw_said w t b a len ≡ refused 9
    unfolding pair_withdraw_said withdraw_fault
    said-absent e = rw (sizes-none t.geometry b z.each, true-prefix a len p, s, e)

    said-taken : stands (key_of a len) (standing_for w t b) ≡ true → pair_withdraw_said w t b a len ≡ accepted []
    unfolding pair_withdraw_said withdraw_fault
    said-taken e = rw (sizes-none t.geometry b z.each, true-prefix a len p, s, e)

-- The box is sound.
module _ (w : Party) (t : Pair) (b : PairLent) (s : PairSound t b) {a len : ℕ} (p : Prefix a len) where
  abbrev g : Geometry
  g = t.geometry

  abbrev rs : List Route
  rs = standing_for w t b

  abbrev left : List Route
  left = remove (key_of a len) rs

  abbrev then : Owners
  then = owners_kept_for w g left (pair_owners b)

  sized : BothSized g b
  sized = record { each = λ x. side-sized g x b (s.each x).sized }

  shift : Shift w t b left then
  shift =
      withdraw-shift t b s w left (remove-good (key_of a len) rs (routes-good t b s w)) (remove-length (key_of a len) rs)
      (λ q i h. remove-any (within q i) (key_of a len) rs h)

  -- the side where the prefix stands, and where it does not
  side-on : stands (key_of a len) rs ≡ true → side_taking w t (side w b) a len ≡ side_out 0 (with_count w (length left) t) (side_left w g (side w b) left then)
  unfolding side_taking
  side-on e =
      rw e (ap (λ (o : Owners). side_out 0 (with_count w (length left) t) (side_left w g (side w b) left (owners_kept_for w g left o))) (owners-side w b))

  side-off : stands (key_of a len) rs ≡ false → side_taking w t (side w b) a len ≡ side_out 9 t (side w b)
  unfolding side_taking
  side-off e = rw e

  box-on : stands (key_of a len) rs ≡ true → pair_taking w t b a len ≡ pair_out (accepted []) (with_count w (length left) t) (pair_lent_of w t b left then)
  unfolding pair_taking
  box-on e = rw (said-taken w t b sized p ((pair-sound-tells t b).1 s) e)

  box-off : stands (key_of a len) rs ≡ false → pair_taking w t b a len ≡ pair_out (refused 9) t b
  unfolding pair_taking
  box-off e = rw (said-absent w t b sized p ((pair-sound-tells t b).1 s) e)

  module _ {r : SideOut} (e : r ≡ side_taking w t (side w b) a len) where
    pub box-taking : pair_out (or_say r.number (accepted [])) r.state (with_side w r.lent b) ≡ pair_taking w t b a len
    box-taking = go (decided (stands (key_of a len) rs))
      where
        go : (stands (key_of a len) rs ≡ true) ⊎ (stands (key_of a len) rs ≡ false)
            → pair_out (or_say r.number (accepted [])) r.state (with_side w r.lent b) ≡ pair_taking w t b a len
        go (inl h) =
            ap (λ (x : SideOut). pair_out (or_say x.number (accepted [])) x.state (with_side w x.lent b)) (e ∙ side-on h)
            ∙ ap (pair_out (accepted []) (with_count w (length left) t)) (shift-box t b left then w shift) ∙ sym (box-on h)
        go (inr h) =
            ap (λ (x : SideOut). pair_out (or_say x.number (accepted [])) x.state (with_side w x.lent b)) (e ∙ side-off h)
            ∙ ap (pair_out (refused 9) t) (same-side w b) ∙ sym (box-off h)

    pub sound-after : PairSound r.state (with_side w r.lent b)
    sound-after = go (decided (stands (key_of a len) rs))
      where
        go : (stands (key_of a len) rs ≡ true) ⊎ (stands (key_of a len) rs ≡ false) → PairSound r.state (with_side w r.lent b)
        go (inl h) = subst (λ (x : SideOut). PairSound x.state (with_side w x.lent b)) (sym (e ∙ side-on h)) (shift-sound t b left then w shift)
        go (inr h) =
            subst (λ (x : SideOut). PairSound x.state (with_side w x.lent b)) (sym (e ∙ side-off h))
            (subst (PairSound t) (sym (same-side w b)) s)

-- ---- after the test of the box

module _ {w : Party} {t : Pair} {b : PairLent} {see2 see3 ws par : List ℕ} {ok : Bool} (told : BoxTold ok w t b see2 see3 ws par) {a len : ℕ} (p : Prefix a len)
  where
    -- it is not sound
    pub box-unsound : BothSized t.geometry b → not ok ≡ true → pair_out (refused 5) t b ≡ pair_taking w t b a len
    unfolding pair_taking
    box-unsound z e = rw (said-unsound w t b z p (sym told.is ∙ not-true ok e))

    -- it is: what the change of the party's side asks
    module _ (e : not ok ≡ false) where
      abbrev passes : ok ≡ true
      passes = not-false ok e

      ready : SideReady w t (side w b) a len see2 see3 ws par
      ready = record { prefix = p; sound = side-sound w t b (told.tells.0 passes); sight = box-sight w t b see2 see3 ws par (told.sight passes) }

-- by the code's flag
module _ (guest : Bool) {t : Pair} {b : PairLent} {see2 see3 ws par : List ℕ} {ok : Bool} (told : BoxTold ok (party_of guest) t b see2 see3 ws par)
    (e : not ok ≡ false) {a len : ℕ} (p : Prefix a len) where
  abbrev sound : PairSound t b
  sound = told.tells.0 (not-false ok e)

  pub second-ready : guest ≡ true → SideReady (party_of guest) t (side two b) a len see2 see3 ws par
  second-ready f = go guest f told
    where
      go : (x : Bool) → x ≡ true → BoxTold ok (party_of x) t b see2 see3 ws par → SideReady (party_of x) t (side two b) a len see2 see3 ws par
      go true f k = ready k p e
      go false f k = absurd (false≢true f)

  pub first-ready : guest ≡ false → SideReady (party_of guest) t (side one b) a len see2 see3 ws par
  first-ready f = go guest f told
    where
      go : (x : Bool) → x ≡ false → BoxTold ok (party_of x) t b see2 see3 ws par → SideReady (party_of x) t (side one b) a len see2 see3 ws par
      go true f k = absurd (true≢false f)
      go false f k = ready k p e

  module _ {n : ℕ} {u : Pair} {l : Lent} where
    pub second-done : guest ≡ true → side_out n u l ≡ side_taking (party_of guest) t (side two b) a len
        → pair_out (or_say n (accepted [])) u (with_side two l b) ≡ pair_taking (party_of guest) t b a len
    second-done f q = go guest f q
      where
        go : (x : Bool) → x ≡ true → side_out n u l ≡ side_taking (party_of x) t (side two b) a len
            → pair_out (or_say n (accepted [])) u (with_side two l b) ≡ pair_taking (party_of x) t b a len
        go true f q = box-taking two t b sound p q
        go false f q = absurd (false≢true f)

    pub first_done : guest ≡ false → side_out n u l ≡ side_taking (party_of guest) t (side one b) a len
        → pair_out (or_say n (accepted [])) u (with_side one l b) ≡ pair_taking (party_of guest) t b a len
    first_done f q = go guest f q
      where
        go : (x : Bool) → x ≡ false → side_out n u l ≡ side_taking (party_of x) t (side one b) a len
            → pair_out (or_say n (accepted [])) u (with_side one l b) ≡ pair_taking (party_of x) t b a len
        go true f q = absurd (true≢false f)
        go false f q = box-taking one t b sound p q
