-- Demand 3 for each party: after any run its table is as good as a fresh load of its routes into a table of its own, with as many chunks lent as its
-- limits; and a well-formed change is refused for want of chunks exactly where its own need would exceed its limits.
use mathlib.Core.Path.{◌≡◌, sym, ◌∙◌, ap, ap₂, subst}
use mathlib.Core.Logic.{◌⊎◌, inl, inr}
use mathlib.Core.Bool.{true, false, cond}
use mathlib.Core.List.{List, [], ◌∷◌}
use Prim.Native.Nat.{ℕ, ◌/◌, ◌≤◌}
use native.Mathlib.Omega.{arith}
use lib.ListN.{length}
use borrow.Author.Tests.{le-ltb, lt-leb}
use Rattle.bits.specs.Count.{bit}
use Rattle.bits.specs.Slot.{cut}
use Rattle.bits.proofs.Bools.{decided}
use Rattle.routes.specs.Route.{key_of, key}
use Rattle.routes.specs.Record.{written}
use Rattle.routes.specs.Said.{accepted, accepts}
use Rattle.routes.specs.declared.Route.{Route}
use Rattle.routes.proofs.Meaning.{fine-fault, true-prefix, input-good}
use Rattle.routes.proofs.Rows.{length-routes}
use Rattle.standing.specs.Cells.{within, need}
use Rattle.standing.specs.Standing.{stands, insert, remove}
use Rattle.standing.proofs.Standing.{remove-good, remove-any}
use Rattle.standing.proofs.Changed.{insert-adds}
use Rattle.standing.proofs.NeedAfter.{need-same, need-mono, stands-long}
use Rattle.sail.specs.Lent.{Lent}
use Rattle.sail.specs.Sound.{Sound, standing}
use Rattle.sail.specs.declared.geometry.Geometry.{Geometry}
use Rattle.sail.specs.declared.table.Table.{Table}
use Rattle.sail.proofs.Sounds.{sail-serves}
use Rattle.sail_theory.specs.Calls.{Terms, chunks_fault, announce_fault, withdraw_fault, load_fault, or_say, input_routes, Out, cut_route, cleared, loaded}
use Rattle.sail_theory.specs.Cases.{Readable}
use Rattle.sail_theory.specs.CallRuns.{Call, announce, withdraw, load, routes_after, Formed, Carries}
use Rattle.sail_theory.specs.Facts.{TableHolds, Loadable}
use Rattle.sail_theory.specs.Replies.{reply, stood}
use Rattle.sail_theory.specs.WantOfChunks.{Wanting, ByNeed}
use Rattle.sail_theory.proofs.calls.Load.{load_is, loadable-holds}
use Rattle.sail_theory.proofs.runs.AsFresh.{same-lookups, same-used, same-longs, same_walks}
use Rattle.sail_theory.proofs.runs.WantOfChunks.{wanting, wanting-told}
use Rattle.sail_theory.proofs.runs.ForChunks.{wanting-exact}
use Rattle.pair.specs.Party.{Party}
use Rattle.pair.specs.PairLent.{PairLent, room_for, sees}
use Rattle.pair.specs.PairSound.{table_for, standing_for}
use Rattle.pair.specs.PairCalls.{pair_terms, PairOut, pair_made}
use Rattle.pair.specs.PairRuns.{By, pair_done, pair_after, own, LimitsLent, PairAsFresh}
use Rattle.pair.specs.declared.Pair.{Pair}
use Rattle.pair.proofs.Offers.{OnTerms}
use Rattle.pair.proofs.PairFresh.{make-makeable}
use Rattle.pair.proofs.PairSteps.{on-terms}
use Rattle.pair.proofs.Finds.{pair-serves}
use Rattle.pair.proofs.Isolation.{RunHolds, run_holds, pair-says}

-- a well-formed change on these terms, where rs stand
module _ (m : Terms) (rs : List Route) (on : OnTerms m rs) (low : m.geometry.p1 ≤ 32) (deep : m.geometry.p2 ≤ 32) where
  announce-wants : (r : Route) → Formed (announce r) rs m.room → Wanting m (insert (cut_route r) rs) (reply m rs (announce r))
  unfolding reply announce_fault
  announce-wants r f = rw (fine-fault c f.0) (wanting-told (cleared r.len r.addr) (go (decided (stands (key c) rs))))
    where
      c : Route
      c = cut_route r

      go : (stands (key c) rs ≡ true) ⊎ (stands (key c) rs ≡ false)
          → Wanting m (insert c rs) (or_say (cond (stands (key c) rs) 0 (cond (lib.Dec.leb m.room (length rs)) 6 (chunks_fault m (insert c rs))))
          (accepted (bit (stands (key c) rs) ∷ [])))
      go (inl e) =
          let as_before : (p : ℕ) → p ≤ 32 → need (insert c rs) p ≡ need rs p
          = λ p h. need-same c rs f.0 on.good p h (stands-long c rs f.0 on.good e p) in
          rw e (Wanting.neither (omega (arith, as_before m.geometry.p1 low, on.enough2))
          (omega (arith, as_before m.geometry.p2 deep, on.enough3)) (1 ∷ []))
      go (inr e) = rw (e, lt-leb m.room (length rs) (omega (arith, insert-adds c rs e, f.1))) (wanting m (insert c rs) (0 ∷ []))

  withdraw-wants : (a len : ℕ) → Formed (withdraw a len) rs m.room → Wanting m (remove (key_of (cut len a) len) rs) (reply m rs (withdraw a len))
  unfolding reply withdraw_fault
  withdraw-wants a len f =
      let k = key_of (cut len a) len in
      let less : (p : ℕ) → p ≤ 32 → need (remove k rs) p ≤ need rs p
      = λ p h. need-mono (remove k rs) rs p h (remove-good k rs on.good) on.good (λ i e. remove-any (within p i) k rs e) in
      rw (true-prefix (cut len a) len f.0, f.1)
      (Wanting.neither (omega (arith, less m.geometry.p1 low, on.enough2))
      (omega (arith, less m.geometry.p2 deep, on.enough3)) (bit (cleared len a) ∷ []))

  load-wants : (input : List ℕ) → Formed (load input) rs m.room → Wanting m (input_routes input) (reply m rs (load input))
  unfolding reply load_fault
  load-wants input f =
      let g = input-good input f.0 f.1 in
      let n : length (input_routes input) ≤ m.room = omega (arith, length-routes input (length input / 8), g.0, f.2) in
      rw (f.1, le-ltb m.room (length (input_routes input)) n) (wanting m (input_routes input) [])

  pub reply-wants : (c : Call) → Formed c rs m.room → Wanting m (routes_after c rs) (reply m rs c)
  reply-wants (announce r) f = announce-wants r f
  reply-wants (withdraw a len) f = withdraw-wants a len f
  reply-wants (load input) f = load-wants input f

-- after a run
module _ (t : Pair) (b : PairLent) (made : accepts (pair_made t b).said ≡ true) (w : Party) (cs : List By) where
  abbrev now : PairOut
  now = pair_after t b cs

  -- the routes that the party's own calls ask for
  abbrev rs : List Route
  rs = stood (pair_terms w t b) (own w cs)

  holds : RunHolds t b now (λ x. own x cs)
  holds = run_holds t b (make-makeable t b made) cs

  abbrev st : Pair
  st = now.state

  abbrev lt : PairLent
  lt = now.lent

  geometry-same : st.geometry ≡ t.geometry
  geometry-same = ap {B = Geometry} (λ (x : Terms). x.geometry) (holds.terms w)

  within-terms : OnTerms (pair_terms w t b) rs
  within-terms =
      subst (λ (m : Terms). OnTerms m rs) (holds.terms w)
      (subst (λ (xs : List Route). OnTerms (pair_terms w st lt) xs) (holds.routes w) (on-terms w st lt holds.sound))

  -- "7 and 8 are given to a party exactly when its own need would exceed its limit"
  pub pair-want : (k : Call) → Formed k rs (room_for w b) → ByNeed (pair_terms w t b) (routes_after k rs) (pair_done w st lt k).said
  pair-want k f =
      let v = (holds.sound.each w).sized.valid in
      let g = geometry-same in
      let low : t.geometry.p1 ≤ 32 = rw (← g) (omega arith) in
      let deep : t.geometry.p2 ≤ 32 = rw (← g) (omega arith) in
      rw (pair-says t b made w cs k) (wanting-exact (reply-wants (pair_terms w t b) rs within-terms low deep k f))

  module _ (u : Table) (v : Lent) (its : LimitsLent w t b u v) (input : List ℕ) (c : Carries input (standing_for w st lt)) where
    abbrev xs : List Route
    xs = standing_for w st lt

    many : length input / 8 ≡ length xs
    many = omega (arith, c.whole)

    routes-are : input_routes input ≡ xs
    routes-are = rw many c.routes

    mine : Sound (table_for w st) (sees st.geometry w lt)
    mine = holds.sound.each w

    readable : Readable u v input
    readable = record { sized = its.sized; whole = rw many c.whole; records = rw many c.records }

    loadable : Loadable u v (input_routes input)
    loadable =
        let o = within-terms in
        let e = holds.routes w in
        record {
          sized = its.sized;
          good = rw (routes-are, e) o.good;
          roomy = rw (routes-are, e, its.room) o.roomy;
          enough2 = rw (routes-are, e, its.geometry, its.chunks2) o.enough2;
          enough3 = rw (routes-are, e, its.geometry, its.chunks3) o.enough3;
        }

    loaded-holds : TableHolds u v (input_routes input) (loaded u v input).table (loaded u v input).lent
    loaded-holds =
        subst (λ (o : Out). TableHolds u v (input_routes input) o.table o.lent) (sym (load_is u v input readable loadable))
        (loadable-holds u v (input_routes input) loadable)

    geo : (loaded u v input).table.geometry ≡ st.geometry
    geo = loaded-holds.geometry ∙ its.geometry ∙ sym geometry-same

    routes' : standing (loaded u v input).table (loaded u v input).lent ≡ xs
    routes' = loaded-holds.routes ∙ routes-are

    pub pair-as-fresh : PairAsFresh w st lt (loaded u v input)
    pair-as-fresh =
        let s = loaded-holds.sound in
        let n = same-used _ _ _ _ mine s geo routes' in
        record {
          accepted_too = rw (load_is u v input readable loadable);
          lists = holds.bytes w ∙ sym (loaded-holds.list ∙ ap₂ written routes-are its.room);
          lookups = λ a h.
              pair-serves st lt holds.sound w a h ∙ sym (sail-serves (table_for w st) (sees st.geometry w lt) mine a h)
              ∙ sym (same-lookups _ _ _ _ mine s geo routes' a h);
          chunks2 = sym n.0;
          chunks3 = sym n.1;
          longs1 = sym (same-longs _ _ _ _ mine s geo routes');
          longs2 = λ a h. sym (same_walks _ _ _ _ mine s geo routes' a h);
        }
