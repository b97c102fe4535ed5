-- Demand 3. "Start from a fresh table and make any run of announcements, withdrawals and loads, refused ones among them, state and buffers
-- untouched between calls. Every address is then served as by a table freshly loaded with the standing routes: same hop, same count of cells
-- read, as many chunks in use. A well-formed change for which the list has room is refused for want of chunks exactly when the routes that would
-- then stand need more than were lent. An announcement or withdrawal alters no cell but those that serve an address under its prefix and those
-- in chunks that it opens or closes." And document 02, request g: "Demand 3's fresh load has equal counts for first cells, and equal counts on every
-- address's walk."
--
-- A run is a list of calls from a fresh table, the last call first: `after t l cs` is what the last call says, and the state and all that is
-- lent then. The fresh table has t's geometry, in arrays of l's sizes; make accepts these exactly where they are right (`Sized`).
-- docs/DEMAND3.md walks through this file. (Runs that begin with a repaired table are in Repairs.antt.)
use mathlib.Core.Path.{◌≡◌}
use mathlib.Core.Logic.{◌≢◌}
use mathlib.Core.Bool.{true}
use mathlib.Core.List.{List, ◌∷◌}
use Prim.Native.Nat.{ℕ, ◌^◌, ◌<◌}
use lib.ListN.{length}
use Rattle.bits.specs.Slot.{slot, cut}
use Rattle.routes.specs.Route.{Good}
use Rattle.routes.specs.Record.{written}
use Rattle.routes.specs.Said.{accepts}
use Rattle.standing.specs.Served.{uncounted}
use Rattle.standing.specs.Standing.{route_at}
use Rattle.routes.specs.declared.Route.{Route}
use Rattle.sail.specs.Lent.{Lent}
use Rattle.sail.specs.Sizes.{Sized}
use Rattle.sail.specs.Sound.{Sound}
use Rattle.sail.specs.Walk.{lookup_said}
use Rattle.sail.specs.declared.table.Table.{Table}
use Rattle.sail.proofs.Sounds.{standing-good}
use Rattle.sail_theory.specs.Render.{room_of}
use Rattle.sail_theory.specs.Calls.{terms_of, input_routes, made, announced, withdrawn, loaded}
use Rattle.sail_theory.specs.Facts.{SameSize}
use Rattle.sail_theory.specs.CallRuns.{announce_all, AllAdded, Call, after, held_by_calls, routes_after, Formed, Carries, standing_after, AsFresh}
use Rattle.sail_theory.specs.Alters.{Alters}
use Rattle.sail_theory.proofs.calls.Make.{accepted-sized}
use Rattle.sail_theory.proofs.calls.Load as loads
use Rattle.sail_theory.proofs.runs.AfterRun as runs
use Rattle.sail_theory.proofs.runs.AsFresh as anew
use Rattle.sail_theory.proofs.frames.Elsewhere.{announce-frame, announce-elsewhere, withdraw-frame, withdraw-elsewhere}
use Rattle.sail_theory.specs.Replies.{reply}
use Rattle.sail_theory.proofs.runs.Replies as replies
use Rattle.sail_theory.specs.WantOfChunks.{ByNeed, ForChunks}
use Rattle.sail_theory.proofs.runs.ForChunks.{run-by-need, run-formed}

module _ (t : Table) (l : Lent) (z : Sized t.geometry l) where
  -- After "any run of announcements, withdrawals and loads, refused ones among them": the table is sound.
  pub run_sound : (cs : List Call) → Sound (after t l cs).table (after t l cs).lent
  run_sound = runs.run_sound t l z

  -- "Which routes stand after a run is worked out from its accepted calls alone": for each prefix, by its key, what stands is what the last
  -- accepted call that speaks of it said, its mark included.
  pub run-standing : (cs : List Call) (k : ℕ) → route_at k (standing_after t l cs) ≡ held_by_calls t l cs k
  run-standing = runs.run-standing t l z

  -- "And the list then holds exactly those, in order": it ascends, and is the only ascending list that holds them.
  pub run-in-order : (cs : List Call) → Good (standing_after t l cs)
  run-in-order cs = standing-good (after t l cs).table (after t l cs).lent (run_sound cs)

  pub run_only : (cs : List Call) (rs : List Route) → Good rs → ((k : ℕ) → route_at k rs ≡ held_by_calls t l cs k) → standing_after t l cs ≡ rs
  run_only = runs.run_only t l z

  -- What each call of a run says, "refused ones among them", follows from the routes that stand, the geometry, the room of the list and the
  -- chunks lent: no cell is asked.
  pub run-says : (c : Call) (cs : List Call) → (after t l (c ∷ cs)).said ≡ reply (terms_of t l) (standing_after t l cs) c
  run-says = replies.run-says t l z

  -- "Every address is then served as by a table freshly loaded with the standing routes: same hop, same count of cells read, as many chunks in
  -- use": the fresh load is that of an input which holds the standing routes, into any table of the same geometry and array sizes; it is
  -- accepted, and its list is the same to the byte, marks included. The counts of first cells are the same array (`longs1`), and those on the walk of
  -- every address are the same (`longs2`).
  pub run-as-fresh : (cs : List Call) (u : Table) (v : Lent) → u.geometry ≡ t.geometry → SameSize l v
      → (input : List ℕ) → Carries input (standing_after t l cs) → AsFresh (after t l cs).table (after t l cs).lent (loaded u v input)
  run-as-fresh = anew.run-as-fresh t l z

  -- There is such an input.
  pub run-input : (cs : List Call) → Carries (written (standing_after t l cs) (length (standing_after t l cs))) (standing_after t l cs)
  run-input = anew.run-carried t l z

  -- "A well-formed change for which the list has room is refused for want of chunks exactly when the routes that would then stand need more than
  -- were lent": with 7 or 8, by these needs, and else it is accepted
  pub want-of-chunks : (cs : List Call) (c : Call) → Formed c (standing_after t l cs) (room_of l) → ByNeed (terms_of t l)
      (routes_after c (standing_after t l cs)) (after t l (c ∷ cs)).said
  want-of-chunks = run-by-need t l z

  -- and no other call is refused with 7 or 8.
  pub want-formed : (cs : List Call) (c : Call) → ForChunks (after t l (c ∷ cs)).said → Formed c (standing_after t l cs) (room_of l)
  want-formed = run-formed t l z

-- Where make is refused there is no fresh table, and so no run.
pub made-sized : (t : Table) (l : Lent) → accepts (made t l).said ≡ true → Sized t.geometry l
made-sized = accepted-sized

-- "An announcement or withdrawal alters no cell but those that serve an address under its prefix and those in chunks that it opens or closes": in
-- any state, and so after any run; what is refused alters nothing. The prefix is the cleared one; the same addresses lie under it as begin with
-- the bits that were given (`slot-cut`, crate bits, proofs/Slots.antt).
pub change-frame-announce : (t : Table) (l : Lent) (r : Route) → Alters t.geometry (cut r.len r.addr) r.len l (announced t l r).lent
change-frame-announce = announce-frame

pub change-frame-withdraw : (t : Table) (l : Lent) (a len : ℕ) → Alters t.geometry (cut len a) len l (withdrawn t l a len).lent
change-frame-withdraw = withdraw-frame

-- So the hop of no address outside the prefix changes. (Its count of cells can, where a chunk is opened or closed above it.)
pub change-elsewhere-announce : (t : Table) (l : Lent) (r : Route) (x : ℕ) → x < 2 ^ 32 → slot r.len x ≢ slot r.len (cut r.len r.addr)
    → uncounted (lookup_said (announced t l r).table (announced t l r).lent x) ≡ uncounted (lookup_said t l x)
change-elsewhere-announce = announce-elsewhere

pub change-elsewhere-withdraw : (t : Table) (l : Lent) (a len x : ℕ) → x < 2 ^ 32 → slot len x ≢ slot len (cut len a)
    → uncounted (lookup_said (withdrawn t l a len).table (withdrawn t l a len).lent x) ≡ uncounted (lookup_said t l x)
change-elsewhere-withdraw = withdraw-elsewhere

-- "Load equals make and then announcing each record in order, where it is accepted": in the state and in all that is lent, and each of these
-- announcements clears nothing and adds its route.
pub load-as-announces : (t : Table) (l : Lent) (input : List ℕ) → accepts (loaded t l input).said ≡ true
    → ((loaded t l input).table ≡ (announce_all (made t l) (input_routes input)).table)
    × ((loaded t l input).lent ≡ (announce_all (made t l) (input_routes input)).lent)
    × AllAdded (made t l) (input_routes input)
load-as-announces = loads.load-as-announces
