-- Demand 3: a well-formed change for which the list has room is refused for want of chunks exactly when the routes that would then stand
-- need more than were lent, and else it is accepted. In a sound table as many chunks are in use as its routes need, so a replacement and a
-- withdrawal want none; an addition and a load compare the need with what is lent.
use mathlib.Core.Path.{◌≡◌, ◌∙◌, ap}
use mathlib.Core.Logic.{◌⊎◌, inl, inr}
use mathlib.Core.Bool.{Bool, true, false, cond}
use mathlib.Core.List.{List, [], ◌∷◌}
use Prim.Native.Nat.{ℕ, ◌/◌, ◌≤◌, ◌<◌}
use native.Mathlib.Omega.{arith}
use lib.Dec.{ltb}
use lib.ListN.{length}
use borrow.Author.Tests.{lt-ltb, le-ltb}
use Rattle.bits.specs.Count.{bit}
use Rattle.bits.specs.Slot.{cut}
use Rattle.bits.proofs.Bools.{decided, below?}
use Rattle.routes.specs.Route.{key_of, key}
use Rattle.standing.specs.Cells.{within, need}
use Rattle.routes.specs.Said.{Said, accepted}
use Rattle.standing.specs.Standing.{stands, insert, remove}
use Rattle.routes.specs.declared.Route.{Route}
use Rattle.standing.proofs.Standing.{remove-good, remove-any}
use Rattle.standing.proofs.Changed.{insert-adds}
use Rattle.routes.proofs.Meaning.{input-good}
use Rattle.sail.specs.Lent.{Lent}
use Rattle.sail.specs.Level.{chunks_of}
use Rattle.sail.specs.Sizes.{Sized}
use Rattle.sail.specs.Sound.{Sound, standing}
use Rattle.sail.specs.declared.table.Table.{Table}
use Rattle.sail.proofs.Sounds.{standing-good, chunks-need}
use Rattle.sail_theory.specs.Render.{room_of}
use Rattle.sail_theory.specs.Calls.{Terms, terms_of, chunks_fault, input_routes, or_say, announce_said}
use Rattle.sail_theory.specs.Calls.{cut_route, cleared, with_flag, announced, withdrawn, loaded}
use Rattle.sail_theory.specs.WantOfChunks.{Wanting}
use Rattle.sail_theory.specs.CallRuns.{Call, announce, withdraw, load, done, after, routes_after, Formed}
use Rattle.sail_theory.proofs.owners.Chunks.{used_le}
use Rattle.standing.proofs.NeedAfter.{need-mono}
use Rattle.sail_theory.specs.Cases.{Proper}
use Rattle.sail_theory.proofs.calls.OneCase.{roomy-said, read-said}
use Rattle.sail_theory.proofs.calls.Outcomes.{replaced-welcome, welcome-said, farewell-said}
use Rattle.sail_theory.proofs.calls.Cleared.{announce-said, withdraw-said}
use Rattle.sail_theory.proofs.calls.SameSizes.{terms-same}
use Rattle.sail_theory.proofs.calls.Load.{load_said_lem}
use Rattle.sail_theory.proofs.runs.AfterRun.{run_is}

pub wanting : (m : Terms) (rs : List Route) (vs : List ℕ) → Wanting m rs (or_say (chunks_fault m rs) (accepted vs))
unfolding chunks_fault
wanting m rs vs = go (below? m.most2 (need rs m.geometry.p1)) (below? m.most3 (need rs m.geometry.p2))
  where
    go : (m.most2 < need rs m.geometry.p1) ⊎ (need rs m.geometry.p1 ≤ m.most2)
        → (m.most3 < need rs m.geometry.p2) ⊎ (need rs m.geometry.p2 ≤ m.most3)
        → Wanting m rs (or_say (cond (ltb m.most2 (need rs m.geometry.p1)) 7 (cond (ltb m.most3 (need rs m.geometry.p2)) 8 0)) (accepted vs))
    go (inl x) y = rw (lt-ltb _ _ x) (Wanting.second x)
    go (inr x) (inl y) = rw (le-ltb _ _ x, lt-ltb _ _ y) (Wanting.third x y)
    go (inr x) (inr y) = rw (le-ltb _ _ x, le-ltb _ _ y) (Wanting.neither x y vs)

-- whether bits were cleared is told beside it
pub wanting-told : {m : Terms} {rs : List Route} {s : Said} (b : Bool) → Wanting m rs s → Wanting m rs (with_flag b s)
wanting-told b (Wanting.second x) = Wanting.second x
wanting-told b (Wanting.third x y) = Wanting.third x y
wanting-told b (Wanting.neither x y vs) = Wanting.neither x y (bit b ∷ vs)

module _ (t : Table) (l : Lent) (s : Sound t l) where
  abbrev rs : List Route
  rs = standing t l

  announce-wants : (r : Route) → Formed (announce r) rs (room_of l) → Wanting (terms_of t l) (insert (cut_route r) rs) (announced t l r).said
  announce-wants r f = rw (announce-said t l r) (wanting-told (cleared r.len r.addr) (go (decided (stands (key c) rs))))
    where
      c : Route
      c = cut_route r

      proper : Proper t l c
      proper = record { fine = f.0; sound = s }

      go : (stands (key c) rs ≡ true) ⊎ (stands (key c) rs ≡ false) → Wanting (terms_of t l) (insert c rs) (announce_said t l c)
      go (inl e) =
          let w = replaced-welcome t l c proper e in
          rw (welcome-said t l c w) (Wanting.neither w.enough2 w.enough3 (bit (stands (key c) rs) ∷ []))
      go (inr e) =
          let roomy = roomy-said t l c (record { proper = proper; new = e; room = omega (arith, insert-adds c rs e, f.1) }) in
          rw roomy (wanting (terms_of t l) (insert c rs) (0 ∷ []))

  withdraw-wants : (a len : ℕ) → Formed (withdraw a len) rs (room_of l) → Wanting (terms_of t l) (remove (key_of (cut len a) len) rs) (withdrawn t l a len).said
  withdraw-wants a len f =
      let k = key_of (cut len a) len in
      let n = chunks-need t l s in
      let v = s.sized.valid in
      let good = standing-good t l s in
      let less : (p : ℕ) → p ≤ 32 → need (remove k rs) p ≤ need rs p
      = λ p h. need-mono (remove k rs) rs p h (remove-good k rs good) good (λ i e. remove-any (within p i) k rs e) in
      rw (withdraw-said t l a len, farewell-said t l (cut len a) len (record { prefix = f.0; sound = s; old = f.1 }))
      (Wanting.neither (omega (arith, n.0, used_le (chunks_of l.own2), less t.geometry.p1 (omega arith)))
      (omega (arith, n.1, used_le (chunks_of l.own3), less t.geometry.p2 (omega arith))) (bit (cleared len a) ∷ []))

  load-wants : (input : List ℕ) → Formed (load input) rs (room_of l) → Wanting (terms_of t l) (input_routes input) (loaded t l input).said
  load-wants input f =
      let g = input-good input f.0 f.1 in
      let m : f.0 ≡ length input / 8 = omega (arith, g.0) in
      let said = read-said t l input (record { sized = s.sized; whole = rw m at g.0; records = rw m at g.1 }) in
      rw (load_said_lem t l input ∙ said, le-ltb (room_of l) (length input / 8) (rw m at f.2))
      (wanting (terms_of t l) (input_routes input) [])

  pub change-wants : (c : Call) → Formed c rs (room_of l) → Wanting (terms_of t l) (routes_after c rs) (done t l c).said
  unfolding done
  change-wants (announce r) f = announce-wants r f
  change-wants (withdraw a len) f = withdraw-wants a len f
  change-wants (load input) f = load-wants input f

-- After any run, by the chunks that were lent: the run leaves a sound table on the same terms.
pub want-of-chunks : (t : Table) (l : Lent) → Sized t.geometry l → (cs : List Call) (c : Call)
    → Formed c (standing (after t l cs).table (after t l cs).lent) (room_of l)
    → Wanting (terms_of t l) (routes_after c (standing (after t l cs).table (after t l cs).lent)) (after t l (c ∷ cs)).said
unfolding after
want-of-chunks t l z cs c f =
    let w = run_is t l z cs in
    let room : room_of (after t l cs).lent ≡ room_of l = ap (λ (n : ℕ). n / 8) w.size.list in
    let wants = change-wants (after t l cs).table (after t l cs).lent w.sound c (rw room f) in
    rw (terms-same t l (after t l cs).table (after t l cs).lent w.geometry w.size) at wants
