-- Announce and withdraw whole, of a prefix with no bit set after its length. A refusal leaves all as it was. A call is accepted exactly where the
-- facts of specs/Facts.antt hold; then what it leaves is sound, and its list holds the routes that then stand (proofs/calls/ChangeHolds.antt).
use mathlib.Core.Path.{◌≡◌, refl, sym, ◌∙◌, subst}
use mathlib.Core.Logic.{◌⊎◌, inl, inr}
use mathlib.Core.Bool.{true, false, true≢false, false≢true}
use mathlib.Core.List.{List, [], ◌∷◌}
use Prim.Native.Nat.{ℕ, suc, ◌≤◌}
use native.Mathlib.Omega.{arith}
use lib.ListN.{length}
use Rattle.bits.specs.Count.{bit}
use Rattle.bits.proofs.Bools.{decided}
use Rattle.routes.specs.Route.{key_of, key}
use Rattle.routes.specs.Said.{Said, accepted, refused, refused_at, accepts}
use Rattle.standing.specs.Cells.{need}
use Rattle.standing.specs.Standing.{stands, insert, remove}
use Rattle.routes.specs.declared.Route.{Route}
use Rattle.standing.proofs.Standing.{insert-replaces}
use Rattle.standing.proofs.Changed.{insert-adds, remove-takes}
use Rattle.routes.proofs.Rows.{length-routes}
use Rattle.sail.specs.Lent.{Lent}
use Rattle.sail.specs.Level.{chunks_of}
use Rattle.sail.specs.Sound.{Sound, standing}
use Rattle.sail.specs.declared.table.Table.{Table}
use Rattle.sail.proofs.Sounds.{standing-good, chunks-need}
use Rattle.sail_theory.specs.Render.{room_of}
use Rattle.sail_theory.specs.Calls.{opened, owners_kept, owners_of, announce_said, withdraw_said, Out, out, outcome, state_of, lent_of, adding, taking}
use Rattle.sail_theory.specs.Facts.{TableHolds, Announceable, Withdrawable}
use Rattle.sail_theory.proofs.owners.Chunks.{used_le}
use Rattle.standing.proofs.NeedAfter.{need-same, stands-long}
use Rattle.sail_theory.specs.Cases.{Proper, Announce, Withdraw}
use Rattle.sail_theory.proofs.calls.SomeCase.{announce-judged, withdraw-judged}
use Rattle.sail_theory.proofs.calls.OneCase.{announce-only, withdraw-only}
use Rattle.sail_theory.proofs.calls.ChangeHolds.{welcome-holds, farewell-holds}

-- outcomes
module _ (s : Said) (t : Table) (l : Lent) (t' : Table) (l' : Lent) where
  pub outcome-said : (outcome s t l t' l').said ≡ s
  outcome-said = go s
    where
      go : (s : Said) → (outcome s t l t' l').said ≡ s
      go (accepted vs) = refl
      go (refused n) = refl
      go (refused_at n k) = refl

  pub outcome-accepted : accepts s ≡ true → outcome s t l t' l' ≡ record { said = s; table = t'; lent = l' }
  outcome-accepted e = go s e
    where
      go : (s : Said) → accepts s ≡ true → outcome s t l t' l' ≡ record { said = s; table = t'; lent = l' }
      go (accepted vs) e = refl
      go (refused n) e = absurd (false≢true e)
      go (refused_at n k) e = absurd (false≢true e)

  pub outcome-refused : accepts s ≡ false → outcome s t l t' l' ≡ record { said = s; table = t; lent = l }
  outcome-refused e = go s e
    where
      go : (s : Said) → accepts s ≡ false → outcome s t l t' l' ≡ record { said = s; table = t; lent = l }
      go (accepted vs) e = absurd (true≢false e)
      go (refused n) e = refl
      go (refused_at n k) e = refl

module _ (t : Table) (l : Lent) (r : Route) where
  abbrev rs : List Route
  rs = standing t l

  -- a list with its routes is within its room
  within-room : Sound t l → length rs ≤ room_of l
  within-room s = omega (arith, length-routes l.list t.count, s.listed.records.room)

  -- a replacement needs no chunk more
  pub replaced-welcome : Proper t l r → stands (key r) rs ≡ true → Announceable t l r
  replaced-welcome p e =
      let s = p.sound in
      let v = s.sized.valid in
      let n = chunks-need t l s in
      let good = standing-good t l s in
      let as_before : (q : ℕ) → q ≤ 32 → need (insert r rs) q ≡ need rs q
      = λ q h. need-same r rs p.fine good q h (stands-long r rs p.fine good e q) in
      record {
        fine = p.fine;
        sound = s;
        roomy = omega (arith, insert-replaces r rs good e, within-room s);
        enough2 = omega (arith, n.0, used_le (chunks_of l.own2), as_before t.geometry.p1 (omega arith));
        enough3 = omega (arith, n.1, used_le (chunks_of l.own3), as_before t.geometry.p2 (omega arith));
      }

  -- accepted exactly where the route is welcome
  pub accepted-welcome : accepts (announce_said t l r) ≡ true → Announceable t l r
  accepted-welcome e = go (announce-judged t l r) e
    where
      go : {s : Said} → Announce t l r s → accepts s ≡ true → Announceable t l r
      go (Announce.sizing n h) e = absurd (false≢true e)
      go (Announce.wrong n z h) e = absurd (false≢true e)
      go (Announce.unsound z f h) e = absurd (false≢true e)
      go (Announce.replaced p h) e = replaced-welcome p h
      go (Announce.full p h k) e = absurd (false≢true e)
      go (Announce.second w x) e = absurd (false≢true e)
      go (Announce.third w x y) e = absurd (false≢true e)
      go (Announce.added w x y) e = record {
        fine = w.proper.fine;
        sound = w.proper.sound;
        roomy = omega (arith, insert-adds r rs w.new, w.room);
        enough2 = x;
        enough3 = y;
      }

  pub welcome-said : Announceable t l r → announce_said t l r ≡ accepted (bit (stands (key r) rs) ∷ [])
  welcome-said w = go (decided (stands (key r) rs))
    where
      go : (stands (key r) rs ≡ true) ⊎ (stands (key r) rs ≡ false) → announce_said t l r ≡ accepted (bit (stands (key r) rs) ∷ [])
      go (inl e) = rw e (announce-only t l r _ (Announce.replaced (record { fine = w.fine; sound = w.sound }) e))
      go (inr e) =
          rw e (announce-only t l r _ (Announce.added (record {
            proper = record { fine = w.fine; sound = w.sound };
            new = e;
            room = omega (arith, insert-adds r rs e, w.roomy);
          }) w.enough2 w.enough3))

  -- what is then left
  pub adding-is : Announceable t l r
      → adding t l r ≡ out (accepted (bit (stands (key r) rs) ∷ [])) (state_of t (insert r rs)) (lent_of t l (insert r rs) (opened t.geometry (owners_of l) r))
  unfolding adding
  adding-is w = rw (welcome-said w)

  pub adding-said : (adding t l r).said ≡ announce_said t l r
  unfolding adding
  adding-said = outcome-said (announce_said t l r) t l _ _

  -- Refused: the number alone, and all as it was. (The number is that of the first condition that holds: `announce-judged`.)
  pub adding-off : (s : Said) → announce_said t l r ≡ s → accepts s ≡ false → adding t l r ≡ record { said = s; table = t; lent = l }
  unfolding adding
  adding-off s q e = rw q (outcome-refused s t l _ _ e)

  -- Accepted: sound, and the list holds the routes with this one inserted
  pub adding-holds : Announceable t l r → TableHolds t l (insert r rs) (adding t l r).table (adding t l r).lent
  adding-holds w = subst (λ (o : Out). TableHolds t l (insert r rs) o.table o.lent) (sym (adding-is w)) (welcome-holds t l r w)

module _ (t : Table) (l : Lent) (a len : ℕ) where
  abbrev left : List Route
  left = remove (key_of a len) (standing t l)

  pub accepted-farewell : accepts (withdraw_said t l a len) ≡ true → Withdrawable t l a len
  accepted-farewell e = go (withdraw-judged t l a len) e
    where
      go : {s : Said} → Withdraw t l a len s → accepts s ≡ true → Withdrawable t l a len
      go (Withdraw.sizing n h) e = absurd (false≢true e)
      go (Withdraw.bad_prefix z h) e = absurd (false≢true e)
      go (Withdraw.unsound z p h) e = absurd (false≢true e)
      go (Withdraw.absent p k h) e = absurd (false≢true e)
      go (Withdraw.removed w) e = w

  pub farewell-said : Withdrawable t l a len → withdraw_said t l a len ≡ accepted []
  farewell-said w = withdraw-only t l a len _ (Withdraw.removed w)

  pub taking-is : Withdrawable t l a len
      → taking t l a len ≡ out (accepted []) (state_of t left) (lent_of t l left (owners_kept t.geometry left (owners_of l)))
  unfolding taking
  taking-is w = rw (farewell-said w)

  pub count-removed : Withdrawable t l a len → suc (state_of t left).count ≡ t.count
  count-removed w = remove-takes (key_of a len) (standing t l) (standing-good t l w.sound) w.old ∙ length-routes l.list t.count

  pub taking-said : (taking t l a len).said ≡ withdraw_said t l a len
  unfolding taking
  taking-said = outcome-said (withdraw_said t l a len) t l _ _

  pub taking-off : (s : Said) → withdraw_said t l a len ≡ s → accepts s ≡ false → taking t l a len ≡ record { said = s; table = t; lent = l }
  unfolding taking
  taking-off s q e = rw q (outcome-refused s t l _ _ e)

  -- Accepted: sound, and the list holds the routes with those of this prefix removed
  pub taking-holds : Withdrawable t l a len → TableHolds t l left (taking t l a len).table (taking t l a len).lent
  taking-holds w = subst (λ (o : Out). TableHolds t l left o.table o.lent) (sym (taking-is w)) (farewell-holds t l a len w)
