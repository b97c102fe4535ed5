-- The cases of specs/Cases.antt exclude each other: where one holds, the call says what stands beside it, and nothing else. A case has the
-- failure of all before it, so each test of the call's definition is decided.
use mathlib.Core.Path.{◌≡◌, refl, ◌∙◌}
use mathlib.Core.Bool.{false, cond}
use mathlib.Core.List.{List, [], ◌∷◌}
use Prim.Native.Nat.{ℕ, ◌/◌}
use lib.Dec.{leb, ltb}
use lib.ListN.{length}
use borrow.Author.Tests.{lt-leb, le-leb, lt-ltb, le-ltb}
use Rattle.bits.specs.Count.{bit}
use Rattle.bits.proofs.Bools.{untrue}
use Rattle.routes.specs.Route.{key, Prefix}
use Rattle.routes.specs.Input.{proper_prefix, route_fault}
use Rattle.routes.specs.Said.{Said, accepted, refused}
use Rattle.standing.specs.Standing.{stands, insert}
use Rattle.routes.specs.declared.Route.{Route}
use Rattle.routes.specs.Cases.{WrongRoute}
use Rattle.routes.proofs.Meaning.{prefix-true, true-prefix, wrong-fault, fine-fault, good-input}
use Rattle.routes.proofs.Judged.{check-only, bad-stops}
use Rattle.routes.proofs.Rows.{length-routes}
use Rattle.sail.specs.Lent.{Lent}
use Rattle.sail.specs.Sizes.{sizes_fault}
use Rattle.sail.specs.Sound.{Sound, standing}
use Rattle.sail.specs.declared.table.Table.{Table}
use Rattle.sail.proofs.Fitting.{Fault, none_is, fault-is}
use Rattle.sail_theory.specs.Render.{room_of}
use Rattle.sail_theory.specs.SoundTest.{sound?}
use Rattle.sail_theory.specs.Calls.{terms_of, chunks_fault, announce_fault, withdraw_fault, load_fault, or_say, input_routes}
use Rattle.sail_theory.specs.Calls.{make_said, announce_said, withdraw_said, load_said, reported}
use Rattle.sail_theory.proofs.places.SoundTest.{sound-tells}
use Rattle.sail.specs.Cases.{Sizing}
use Rattle.sail_theory.specs.Cases.{Make, Proper, Roomy, Announce, Withdraw, Readable, Load, Report}

sizing-is : (t : Table) (l : Lent) (n : ℕ) → Sizing t l n → sizes_fault t.geometry l ≡ n
sizing-is t l n h = go (fault-is t.geometry l) h
  where
    go : {m n : ℕ} → Fault t.geometry l m → Sizing t l n → m ≡ n
    go (Fault.none s) (Sizing.limits h) = absurd (h s.valid)
    go (Fault.none s) (Sizing.size v h) = absurd (h s)
    go (Fault.limits k) (Sizing.limits h) = refl
    go (Fault.limits k) (Sizing.size v h) = absurd (k v)
    go (Fault.size v k) (Sizing.limits h) = absurd (h v)
    go (Fault.size v k) (Sizing.size w h) = refl

sizing-said : (t : Table) (l : Lent) (n : ℕ) (s : Said) → Sizing t l n → or_say (sizes_fault t.geometry l) s ≡ refused n
sizing-said t l n s h = rw (sizing-is t l n h) (go h)
  where
    go : {n : ℕ} → Sizing t l n → or_say n s ≡ refused n
    go (Sizing.limits h) = refl
    go (Sizing.size v h) = refl

pub make-only : (t : Table) (l : Lent) (s : Said) → Make t l s → make_said t l ≡ s
unfolding make_said
make-only t l s (Make.sizing n h) = sizing-said t l n (accepted []) h
make-only t l s (Make.done z) = rw (none_is t.geometry l z)

unsound-is : (t : Table) (l : Lent) → (Sound t l → ⊥) → sound? t l ≡ false
unsound-is t l h = untrue (sound? t l) (λ e. h ((sound-tells t l).0 e))

not-prefix : (a len : ℕ) → (Prefix a len → ⊥) → proper_prefix a len ≡ false
not-prefix a len h = untrue (proper_prefix a len) (λ e. h (prefix-true a len e))

-- what is wrong with a route is its fault
wrong-said : (r : Route) (n : ℕ) (s : Said) → WrongRoute r n → or_say (route_fault r) s ≡ refused n
wrong-said r n s w = rw (wrong-fault r n w) (go w)
  where
    go : {n : ℕ} → WrongRoute r n → or_say n s ≡ refused n
    go (WrongRoute.prefix h) = refl
    go (WrongRoute.hop p h) = refl
    go (WrongRoute.mark p a b h) = refl

module _ (t : Table) (l : Lent) (r : Route) where
  abbrev rs : List Route
  rs = standing t l

  -- past 5
  proper-said : Proper t l r
      → announce_said t l r ≡ or_say (cond (stands (key r) rs) 0 (cond (leb (room_of l) (length rs)) 6 (chunks_fault (terms_of t l) (insert r rs))))
      (accepted (bit (stands (key r) rs) ∷ []))
  unfolding announce_said announce_fault
  proper-said p = rw (none_is t.geometry l p.sound.sized, fine-fault r p.fine, (sound-tells t l).1 p.sound)

  -- past 6
  pub roomy-said : Roomy t l r → announce_said t l r ≡ or_say (chunks_fault (terms_of t l) (insert r rs)) (accepted (0 ∷ []))
  roomy-said w = proper-said w.proper ∙ rw (w.new, lt-leb (room_of l) (length rs) w.room)

  pub announce-only : (s : Said) → Announce t l r s → announce_said t l r ≡ s
  unfolding announce_said announce_fault chunks_fault
  announce-only s (Announce.sizing n h) = sizing-said t l n _ h
  announce-only s (Announce.wrong n z w) = rw (none_is t.geometry l z) (wrong-said r n _ w)
  announce-only s (Announce.unsound z f h) = rw (none_is t.geometry l z, fine-fault r f, unsound-is t l h)
  announce-only s (Announce.replaced p e) = proper-said p ∙ rw e
  announce-only s (Announce.full p e k) = proper-said p ∙ rw (e, le-leb (room_of l) (length rs) k)
  announce-only s (Announce.second w x) = roomy-said w ∙ rw (lt-ltb _ _ x)
  announce-only s (Announce.third w x y) = roomy-said w ∙ rw (le-ltb _ _ x, lt-ltb _ _ y)
  announce-only s (Announce.added w x y) = roomy-said w ∙ rw (le-ltb _ _ x, le-ltb _ _ y)

pub withdraw-only : (t : Table) (l : Lent) (a len : ℕ) (s : Said) → Withdraw t l a len s → withdraw_said t l a len ≡ s
unfolding withdraw_said withdraw_fault
withdraw-only t l a len s (Withdraw.sizing n h) = sizing-said t l n _ h
withdraw-only t l a len s (Withdraw.bad_prefix z h) = rw (none_is t.geometry l z, not-prefix a len h)
withdraw-only t l a len s (Withdraw.unsound z p h) = rw (none_is t.geometry l z, true-prefix a len p, unsound-is t l h)
withdraw-only t l a len s (Withdraw.absent p k e) = rw (none_is t.geometry l k.sized, true-prefix a len p, (sound-tells t l).1 k, e)
withdraw-only t l a len s (Withdraw.removed w) =
    rw (none_is t.geometry l w.sound.sized, true-prefix a len w.prefix, (sound-tells t l).1 w.sound, w.old)

module _ (t : Table) (l : Lent) (input : List ℕ) where
  -- past the input
  pub read-said : Readable t l input
      → load_said t l input ≡ or_say (cond (ltb (room_of l) (length input / 8)) 6 (chunks_fault (terms_of t l) (input_routes input))) (accepted [])
  unfolding load_said load_fault
  read-said w = rw (none_is t.geometry l w.sized, good-input input (length input / 8) w.whole w.records, length-routes input (length input / 8))

  pub load-only : (s : Said) → Load t l input s → load_said t l input ≡ s
  unfolding load_said chunks_fault
  load-only s (Load.sizing n h) = sizing-said t l n _ h
  load-only _ (Load.bad_input s z b) = rw (none_is t.geometry l z, check-only input s b.checked) (bad-stops s _ b.not_accepted)
  load-only s (Load.full w r) = read-said w ∙ rw (lt-ltb _ _ r)
  load-only s (Load.second w r x) = read-said w ∙ rw (le-ltb _ _ r, lt-ltb _ _ x)
  load-only s (Load.third w r x y) = read-said w ∙ rw (le-ltb _ _ r, le-ltb _ _ x, lt-ltb _ _ y)
  load-only s (Load.done w k) = read-said w ∙ rw (le-ltb _ _ (rw length-routes at k.roomy), le-ltb _ _ k.enough2, le-ltb _ _ k.enough3)

pub report-only : (t : Table) (l : Lent) (s : Said) → Report t l s → reported t l ≡ s
unfolding reported
report-only t l s (Report.sizing n h) = sizing-said t l n _ h
report-only t l s (Report.unsound z h) = rw (none_is t.geometry l z, unsound-is t l h)
report-only t l s (Report.counts k) = rw (none_is t.geometry l k.sized, (sound-tells t l).1 k)
