-- Refusals for want of chunks, 7 and 8 (`ByNeed`, `ForChunks`, specs/WantOfChunks.antt): exactly when the routes that would stand need more, since what is
-- wanting decides what is said (`want-of-chunks`); and of well-formed changes alone, since every other case says another number.
use mathlib.Core.Path.{◌≡◌, refl, ap}
use mathlib.Core.Bool.{Bool, false≢true}
use mathlib.Core.List.{List, ◌∷◌}
use Prim.Native.Nat.{ℕ, ◌/◌, ◌≤◌}
use native.Mathlib.Omega.{arith}
use lib.ListN.{length}
use Rattle.bits.specs.Slot.{cut}
use Rattle.routes.specs.Said.{Said}
use Rattle.routes.specs.declared.Route.{Route}
use Rattle.standing.proofs.Changed.{insert-adds}
use Rattle.routes.specs.Cases.{WrongRoute, Checked}
use Rattle.routes.proofs.Meaning.{good-input}
use Rattle.sail.specs.Lent.{Lent}
use Rattle.sail.specs.Sizes.{Sized}
use Rattle.sail.specs.Sound.{standing}
use Rattle.sail.specs.declared.table.Table.{Table}
use Rattle.sail_theory.specs.Render.{room_of}
use Rattle.sail_theory.specs.Calls.{Terms, terms_of, cut_route, with_flag}
use Rattle.sail_theory.specs.CallRuns.{Call, announce, withdraw, load, done, after, routes_after, Formed, standing_after}
use Rattle.sail.specs.Cases.{Sizing}
use Rattle.sail_theory.specs.Cases.{Announce, Withdraw, Readable, Load}
use Rattle.sail_theory.proofs.calls.SomeCase.{announce-judged, withdraw-judged, load-judged}
use Rattle.sail_theory.proofs.calls.Cleared.{announce-said, withdraw-said}
use Rattle.sail_theory.proofs.calls.Load.{load_said_lem}
use Rattle.sail_theory.proofs.runs.AfterRun.{run_is}
use Rattle.sail_theory.proofs.runs.WantOfChunks.{want-of-chunks}
use Rattle.sail_theory.specs.WantOfChunks.{Wanting, ByNeed, ForChunks}

pub wanting-exact : {m : Terms} {rs : List Route} {s : Said} → Wanting m rs s → ByNeed m rs s
wanting-exact (Wanting.second x) = record {
  seven = ((λ e. x), (λ y. refl));
  eight = ((λ e. absurd (let q : ◌≡◌ {A = ℕ} 7 8 = cc in omega arith)), (λ y. absurd (omega (arith, y.0))));
  taken = ((λ e. absurd (false≢true e)), (λ y. absurd (omega (arith, y.0))));
}
wanting-exact (Wanting.third x y) = record {
  seven = ((λ e. absurd (let q : ◌≡◌ {A = ℕ} 8 7 = cc in omega arith)), (λ z. absurd (omega arith)));
  eight = ((λ e. (x, y)), (λ z. refl));
  taken = ((λ e. absurd (false≢true e)), (λ z. absurd (omega (arith, z.1))));
}
wanting-exact (Wanting.neither x y vs) = record {
  seven = ((λ e. absurd (let z : ◌≡◌ {A = ℕ} 0 1 = cc in omega arith)), (λ z. absurd (omega arith)));
  eight = ((λ e. absurd (let z : ◌≡◌ {A = ℕ} 0 1 = cc in omega arith)), (λ z. absurd (omega (arith, z.1))));
  taken = ((λ e. (x, y)), (λ z. refl));
}

small : {t : Table} {l : Lent} {n : ℕ} → Sizing t l n → (7 ≤ n) × (n ≤ 8) → ⊥
small (Sizing.limits h) w = omega (arith, w.0)
small (Sizing.size v h) w = omega (arith, w.0)

pub wrong-never : {r : Route} {n : ℕ} → WrongRoute r n → (7 ≤ n) × (n ≤ 8) → ⊥
wrong-never (WrongRoute.prefix h) w = omega (arith, w.0)
wrong-never (WrongRoute.hop p h) w = omega (arith, w.0)
wrong-never (WrongRoute.mark p a b h) w = omega (arith, w.1)

pub input-never : (s : List ℕ) (x : Said) → Checked s x → ForChunks x → ⊥
input-never s _ (Checked.ragged z) w = w
input-never s _ (Checked.stopped k f z l b v p) w = w
input-never s _ (Checked.many z b m) w = omega (arith, w.0)
input-never s _ (Checked.good n z r) w = w

module _ (t : Table) (l : Lent) where
  -- whether bits were cleared is told of what is accepted alone
  announce-formed : (b : Bool) (r : Route) {s : Said} → Announce t l (cut_route r) s → ForChunks (with_flag b s)
      → Formed (announce r) (standing t l) (room_of l)
  announce-formed b r (Announce.sizing n h) w = absurd (small h w)
  announce-formed b r (Announce.wrong n z h) w = absurd (wrong-never h w)
  announce-formed b r (Announce.unsound z f h) w = absurd (omega (arith, w.0))
  announce-formed b r (Announce.replaced p h) w = absurd w
  announce-formed b r (Announce.full p h k) w = absurd (omega (arith, w.0))
  announce-formed b r (Announce.second k x) w = (k.proper.fine, omega (arith, insert-adds (cut_route r) (standing t l) k.new, k.room))
  announce-formed b r (Announce.third k x y) w = (k.proper.fine, omega (arith, insert-adds (cut_route r) (standing t l) k.new, k.room))
  announce-formed b r (Announce.added k x y) w = absurd w

  withdraw-never : (b : Bool) (a len : ℕ) {s : Said} → Withdraw t l a len s → ForChunks (with_flag b s) → ⊥
  withdraw-never b a len (Withdraw.sizing n h) w = small h w
  withdraw-never b a len (Withdraw.bad_prefix z h) w = omega (arith, w.0)
  withdraw-never b a len (Withdraw.unsound z p h) w = omega (arith, w.0)
  withdraw-never b a len (Withdraw.absent p k h) w = omega (arith, w.1)
  withdraw-never b a len (Withdraw.removed k) w = w

  readable-formed : (input : List ℕ) → Readable t l input → length input / 8 ≤ room_of l → Formed (load input) (standing t l) (room_of l)
  readable-formed input r k = (length input / 8, good-input input (length input / 8) r.whole r.records, k)

  load-formed : (input : List ℕ) {s : Said} → Load t l input s → ForChunks s → Formed (load input) (standing t l) (room_of l)
  load-formed input (Load.sizing n h) w = absurd (small h w)
  load-formed input (Load.bad_input s z b) w = absurd (input-never input s b.checked w)
  load-formed input (Load.full r k) w = absurd (omega (arith, w.0))
  load-formed input (Load.second r k x) w = readable-formed input r k
  load-formed input (Load.third r k x y) w = readable-formed input r k
  load-formed input (Load.done r k) w = absurd w

  -- in any state
  chunks-formed : (c : Call) → ForChunks (done t l c).said → Formed c (standing t l) (room_of l)
  unfolding done
  chunks-formed (announce r) w = announce-formed _ r (announce-judged t l (cut_route r)) (rw (announce-said t l r) at w)
  chunks-formed (withdraw a len) w =
      absurd (withdraw-never _ (cut len a) len (withdraw-judged t l (cut len a) len) (rw (withdraw-said t l a len) at w))
  chunks-formed (load input) w = load-formed input (load-judged t l input) (rw (load_said_lem t l input) at w)

-- after a run
module _ (t : Table) (l : Lent) (z : Sized t.geometry l) (cs : List Call) (c : Call) where
  pub run-by-need : Formed c (standing_after t l cs) (room_of l) → ByNeed (terms_of t l) (routes_after c (standing_after t l cs)) (after t l (c ∷ cs)).said
  run-by-need f = wanting-exact (want-of-chunks t l z cs c f)

  pub run-formed : ForChunks (after t l (c ∷ cs)).said → Formed c (standing_after t l cs) (room_of l)
  unfolding after
  run-formed w =
      let room : room_of (after t l cs).lent ≡ room_of l = ap (λ (n : ℕ). n / 8) (run_is t l z cs).size.list in
      rw room at (chunks-formed (after t l cs).table (after t l cs).lent c w)
