-- 7 and 8 are given to nothing but a well-formed change for which the party's list has room.
use mathlib.Core.Bool.{Bool}
use mathlib.Core.List.{List}
use Prim.Native.Nat.{ℕ, ◌/◌, ◌≤◌}
use native.Mathlib.Omega.{arith}
use lib.ListN.{length}
use Rattle.bits.specs.Slot.{cut}
use Rattle.routes.specs.Said.{Said}
use Rattle.routes.proofs.Meaning.{good-input}
use Rattle.standing.proofs.Changed.{insert-adds}
use Rattle.routes.specs.declared.Route.{Route}
use Rattle.sail_theory.specs.Calls.{cut_route, with_flag}
use Rattle.sail_theory.specs.CallRuns.{Call, announce, withdraw, load, Formed}
use Rattle.sail_theory.specs.WantOfChunks.{ForChunks}
use Rattle.sail_theory.proofs.runs.ForChunks.{wrong-never, input-never}
use Rattle.pair.specs.Party.{Party}
use Rattle.pair.specs.PairLent.{PairLent, room_for}
use Rattle.pair.specs.PairSound.{standing_for}
use Rattle.pair.specs.PairCases.{PairSizing, PairAnnounce, PairWithdraw, PairReadable, PairLoad}
use Rattle.pair.specs.PairRuns.{pair_done}
use Rattle.pair.specs.declared.Pair.{Pair}
use Rattle.pair.proofs.PairJudged.{pair-announce-judged, pair-withdraw-judged, pair-load-judged}
use Rattle.pair.proofs.PairSteps.{announce-said, withdraw-said, load_said_lem}

small : {t : Pair} {b : PairLent} {n : ℕ} → PairSizing t b n → (7 ≤ n) × (n ≤ 8) → ⊥
small (PairSizing.limits h) w = omega (arith, w.0)
small (PairSizing.size v h) w = omega (arith, w.0)

module _ (w : Party) (t : Pair) (b : PairLent) where
  announce-formed : (f : Bool) (r : Route) {s : Said} → PairAnnounce w t b (cut_route r) s → ForChunks (with_flag f s)
      → Formed (announce r) (standing_for w t b) (room_for w b)
  announce-formed f r (PairAnnounce.sizing n h) c = absurd (small h c)
  announce-formed f r (PairAnnounce.wrong n z h) c = absurd (wrong-never h c)
  announce-formed f r (PairAnnounce.unsound z p h) c = absurd (omega (arith, c.0))
  announce-formed f r (PairAnnounce.replaced p h) c = absurd c
  announce-formed f r (PairAnnounce.full p h k) c = absurd (omega (arith, c.0))
  announce-formed f r (PairAnnounce.second k x) c = (k.proper.fine, omega (arith, insert-adds (cut_route r) (standing_for w t b) k.new, k.room))
  announce-formed f r (PairAnnounce.third k x y) c = (k.proper.fine, omega (arith, insert-adds (cut_route r) (standing_for w t b) k.new, k.room))
  announce-formed f r (PairAnnounce.added k x y) c = absurd c

  withdraw-never : (f : Bool) (a len : ℕ) {s : Said} → PairWithdraw w t b a len s → ForChunks (with_flag f s) → ⊥
  withdraw-never f a len (PairWithdraw.sizing n h) c = small h c
  withdraw-never f a len (PairWithdraw.bad_prefix z h) c = omega (arith, c.0)
  withdraw-never f a len (PairWithdraw.unsound z p h) c = omega (arith, c.0)
  withdraw-never f a len (PairWithdraw.absent p k h) c = omega (arith, c.1)
  withdraw-never f a len (PairWithdraw.removed p k h) c = c

  readable-formed : (input : List ℕ) → PairReadable w t b input → length input / 8 ≤ room_for w b → Formed (load input) (standing_for w t b) (room_for w b)
  readable-formed input r k = (length input / 8, good-input input (length input / 8) r.whole r.records, k)

  load-formed : (input : List ℕ) {s : Said} → PairLoad w t b input s → ForChunks s → Formed (load input) (standing_for w t b) (room_for w b)
  load-formed input (PairLoad.sizing n h) c = absurd (small h c)
  load-formed input (PairLoad.unsound z h) c = absurd (omega (arith, c.0))
  load-formed input (PairLoad.bad_input s z x) c = absurd (input-never input s x.checked c)
  load-formed input (PairLoad.full r k) c = absurd (omega (arith, c.0))
  load-formed input (PairLoad.second r k x) c = readable-formed input r k
  load-formed input (PairLoad.third r k x y) c = readable-formed input r k
  load-formed input (PairLoad.done r k x y) c = absurd c

  -- in any box
  pub pair-formed : (c : Call) → ForChunks (pair_done w t b c).said → Formed c (standing_for w t b) (room_for w b)
  unfolding pair_done
  pair-formed (announce r) c = announce-formed _ r (pair-announce-judged w t b (cut_route r)) (rw (announce-said w t b r) at c)
  pair-formed (withdraw a len) c =
      absurd (withdraw-never _ (cut len a) len (pair-withdraw-judged w t b (cut len a) len) (rw (withdraw-said w t b a len) at c))
  pair-formed (load input) c = load-formed input (pair-load-judged w t b input) (rw (load_said_lem w t b input) at c)
