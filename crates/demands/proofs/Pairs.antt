-- Two parties in one box: document 02, request j, each sentence next to the theorem that shows it. A party is w, the other is `other w`; the box is the
-- state t and what is lent b. (What a reader must believe is in crate pair, specs/.)
use mathlib.Core.Path.{◌≡◌, refl, sym, ap, subst}
use mathlib.Core.Logic.{◌↔◌, ◌≢◌}
use mathlib.Core.Bool.{true, false}
use mathlib.Core.List.{List, [], Memᴰ}
use Prim.Native.Nat.{ℕ, ◌^◌, ◌<◌}
use native.Mathlib.Omega.{arith}
use lib.ListN.{get_or, length}
use Rattle.bits.specs.Slot.{cut}
use Rattle.routes.specs.Route.{Good}
use Rattle.routes.specs.Record.{written}
use Rattle.routes.specs.Said.{Said, accepted, no_route_after, accepts}
use Rattle.routes.specs.declared.Route.{Route}
use Rattle.routes.proofs.Judged.{exactly}
use Rattle.routes.proofs.Rows.{length-routes}
use Rattle.standing.specs.Cells.{covers}
use Rattle.standing.specs.Served.{Served}
use Rattle.standing.specs.Standing.{route_at}
use Rattle.standing.proofs.Served as serving
use Rattle.sail.specs.Level.{Level}
use Rattle.sail.specs.Lent.{Lent}
use Rattle.sail.specs.Sound.{cells_read}
use Rattle.sail.specs.declared.table.Table.{Table}
use Rattle.sail_theory.specs.Alters.{Alters}
use Rattle.sail_theory.specs.Calls.{Terms, input_routes, cut_route, cleared, with_flag, loaded}
use Rattle.sail_theory.specs.CallRuns.{Call, routes_after, Formed, Carries}
use Rattle.sail_theory.specs.WantOfChunks.{ByNeed, ForChunks}
use Rattle.sail_theory.proofs.calls.Refusals.{told-exactly}
use Rattle.sail_theory.proofs.runs.AsFresh.{carried}
use Rattle.pair.specs.Party.{Party, other}
use Rattle.pair.specs.PairLent.{PairLent, side, room_for, sees}
use Rattle.pair.specs.PairSound.{share_of, standing_for, PairSound}
use Rattle.pair.specs.PairReading.{BoxReads}
use Rattle.pair.specs.PairCalls.{open_for, pair_terms, PairOut, pair_out, pair_made, pair_announced, pair_withdrawn, pair_loaded, pair_reported, pair_lookup_said}
use Rattle.pair.specs.PairCases.{PairMake, PairAnnounce, PairWithdraw, PairLoad, PairReport, PairLookup}
use Rattle.pair.specs.PairFrame.{TheirsStay}
use Rattle.pair.specs.PairRuns.{By, pair_done, pair_after, pair_held, Alike, ToldAlike, LimitsLent, PairAsFresh, withdraw_all, AllRemoved, announce_each, EachAdded}
use Rattle.pair.specs.declared.Pair.{Pair}
use Rattle.pair_make.specs.Contract.{MeetsPairMake}
use Rattle.pair_make.proofs.OneAnswer as make
use Rattle.pair_announce.specs.Contract.{MeetsPairAnnounce}
use Rattle.pair_announce.specs.declared.turn.PairAnnounced.{PairAnnounced}
use Rattle.pair_announce.proofs.OneAnswer as announcing
use Rattle.pair_withdraw.specs.Contract.{MeetsPairWithdraw}
use Rattle.pair_withdraw.specs.declared.answers.PairWithdrawn.{PairWithdrawn}
use Rattle.pair_withdraw.proofs.OneAnswer as withdrawing
use Rattle.pair_load.specs.Contract.{MeetsPairLoad}
use Rattle.pair_load.proofs.OneAnswer as loading
use Rattle.pair_report.specs.Contract.{MeetsPairReport}
use Rattle.pair_report.proofs.OneAnswer as report
use Rattle.pair_lookup.specs.Contract.{MeetsPairLookup}
use Rattle.pair_lookup.proofs.OneAnswer as lookup
use Rattle.std.specs.Prelude.{Result}
use Rattle.refusals.specs.declared.Refusal.{Refusal}
use Rattle.refusals.specs.declared.Refused.{Refused}
use Rattle.routes.specs.declared.found.Found.{Found}
use Rattle.sail_sound.specs.declared.report.Standing.{Standing}
use Rattle.pair.proofs.PairReading.{sound-reads, reads-sound}
use Rattle.pair.proofs.PairFresh.{make-makeable, make-left}
use Rattle.pair.proofs.Finds as finds
use Rattle.pair.proofs.Shifts.{routes-good}
use Rattle.pair.proofs.PairSteps.{announce-said, withdraw-said, load_said_lem, refused-left}
use Rattle.pair.proofs.PairJudged as judged
use Rattle.pair.proofs.PairHeld as held
use Rattle.pair.proofs.PairDemands as wants
use Rattle.pair.proofs.PairWants.{pair-formed}
use Rattle.pair.proofs.PairFrame as frame
use Rattle.pair.proofs.PairLoadAs as loads
use Rattle.pair.proofs.Isolation as runs

-- Demand 1. "The order of refusals stays", with 24 "after 2 in make" and a load's "5 after 2": a call returns s exactly if the condition next to s holds,
-- each with the failure of those before it.
module _ (t : Pair) (b : PairLent) where
  -- make: 1, 2, 24
  pub refused-number-pair-make : (s : Said) → ((pair_made t b).said ≡ s) ↔ PairMake t b s
  refused-number-pair-make = exactly (PairMake t b) _ _ (judged.pair-make-said t b) (judged.pair-make-judged t b) (judged.pair-make-only t b)

  module _ (w : Party) where
    -- announce: 1, 2, 3, 4, 10, 5, 6, 7, 8, of the cleared prefix
    pub refused-number-pair-announce : (r : Route) (s : Said)
        → ((pair_announced w t b r).said ≡ with_flag (cleared r.len r.addr) s) ↔ PairAnnounce w t b (cut_route r) s
    refused-number-pair-announce r =
        told-exactly _ (PairAnnounce w t b (cut_route r)) _ _ (announce-said w t b r) (judged.pair-announce-judged w t b (cut_route r))
        (judged.pair-announce-only w t b (cut_route r))

    -- withdraw: 1, 2, 3, 5, 9, of the cleared prefix
    pub refused-number-pair-withdraw : (a len : ℕ) (s : Said)
        → ((pair_withdrawn w t b a len).said ≡ with_flag (cleared len a) s) ↔ PairWithdraw w t b (cut len a) len s
    refused-number-pair-withdraw a len =
        told-exactly _ (PairWithdraw w t b (cut len a) len) _ _ (withdraw-said w t b a len) (judged.pair-withdraw-judged w t b (cut len a) len)
        (judged.pair-withdraw-only w t b (cut len a) len)

    -- load: 1, 2, 5, the input's, 6, 7, 8
    pub refused-number-pair-load : (input : List ℕ) (s : Said) → ((pair_loaded w t b input).said ≡ s) ↔ PairLoad w t b input s
    refused-number-pair-load input =
        exactly (PairLoad w t b input) _ _ (load_said_lem w t b input) (judged.pair-load-judged w t b input) (judged.pair-load-only w t b input)

    -- report: 1, 2, 5
    pub refused-number-pair-report : (s : Said) → (pair_reported w t b ≡ s) ↔ PairReport w t b s
    refused-number-pair-report = exactly (PairReport w t b) _ _ refl (judged.pair-report-judged t b w) (judged.pair-report-only t b w)

    -- lookup: 1, 2, 5. "Lookup also breaks off with 5 at a chunk owned by the other"
    pub refused-number-pair-lookup : (a : ℕ) (s : Said) → (pair_lookup_said w t b a ≡ s) ↔ PairLookup w t b a s
    refused-number-pair-lookup a = exactly (PairLookup w t b a) _ _ refl (judged.pair-lookup-judged w t b a) (judged.pair-lookup-only w t b a)

    -- "The caller's state and buffers stay exactly as they were": of announce, withdraw and load
    pub refused-leaves-all-pair : (c : Call) → accepts (pair_done w t b c).said ≡ false → ((pair_done w t b c).state ≡ t) × ((pair_done w t b c).lent ≡ b)
    refused-leaves-all-pair = refused-left w t b

  -- and of make
  pub refused-leaves-all-pair-make : accepts (pair_made t b).said ≡ false → ((pair_made t b).state ≡ t) × ((pair_made t b).lent ≡ b)
  refused-leaves-all-pair-make = make-left t b

  -- "Soundness is of both together, with needs within limits and limits that fit the pools": of the cells as they are, and what the tests of the calls
  -- decide (`refused-number-pair-report`)
  pub pair-sound-read : PairSound t b ↔ BoxReads t b
  pair-sound-read = (sound-reads t b, reads-sound t b)

  -- Demand 2 for each party: a sound box gives it the hop of its own longest standing route that covers the address, and no route exactly when none does
  module _ (s : PairSound t b) (w : Party) where
    pub pair-serves : (a : ℕ) → a < 2 ^ 32 → Served (standing_for w t b) a (cells_read t.geometry (standing_for w t b) a) (pair_lookup_said w t b a)
    pair-serves a h = rw (finds.pair-serves t b s w a h) (serving.best-served (standing_for w t b) (routes-good t b s w) a _)

    pub pair-no-route : (a : ℕ) → a < 2 ^ 32
        → ((n : ℕ) × (pair_lookup_said w t b a ≡ no_route_after n)) ↔ ((r : Route) → Memᴰ r (standing_for w t b) → covers 32 a r ≡ false)
    pair-no-route a h = serving.none-served (standing_for w t b) (routes-good t b s w) a (pair-serves a h)

  -- "Each of the two has his own list, first cells and counts for them": a party's call changes nothing of the other's, in any box, nor any cell, owner or
  -- count of its chunks; and in the state nothing but the party's own count
  module _ (w : Party) where
    pub pair-frame : (c : Call) → TheirsStay t.geometry w b (pair_done w t b c).lent
    pair-frame = frame.pair-frame w t b

    pub pair-frame-state : (c : Call) → (share_of (other w) (pair_done w t b c).state ≡ share_of (other w) t) × ((pair_done w t b c).state.geometry ≡ t.geometry)
        × ((share_of w (pair_done w t b c).state).most2 ≡ (share_of w t).most2) × ((share_of w (pair_done w t b c).state).most3 ≡ (share_of w t).most3)
    pair-frame-state = frame.pair-frame-state w t b

    -- so the other's lookups and its report stay
    pub pair-others-lookups : (c : Call) (a : ℕ) → a < 2 ^ 32
        → pair_lookup_said (other w) (pair_done w t b c).state (pair_done w t b c).lent a ≡ pair_lookup_said (other w) t b a
    pair-others-lookups = frame.others-lookups w t b

    pub pair-others-report : (c : Call) → pair_reported (other w) (pair_done w t b c).state (pair_done w t b c).lent ≡ pair_reported (other w) t b
    pair-others-report = frame.others-report w t b

    -- and of its own cells, in the table that it sees, those that serve an address under the prefix and those in chunks that it opens or closes
    pub pair-alters-announce : (r : Route)
        → Alters t.geometry (cut r.len r.addr) r.len (sees t.geometry w b) (sees t.geometry w (pair_announced w t b r).lent)
    pair-alters-announce = frame.pair-alters-announce w t b

    pub pair-alters-withdraw : (a len : ℕ)
        → Alters t.geometry (cut len a) len (sees t.geometry w b) (sees t.geometry w (pair_withdrawn w t b a len).lent)
    pair-alters-withdraw = frame.pair-alters-withdraw w t b

    -- "An accepted load acts as withdrawing all of one party's routes and then announcing the records": in the state and in all that is lent, and each of
    -- these calls is accepted
    pub pair-load-as : (input : List ℕ) → accepts (pair_loaded w t b input).said ≡ true
        → let emptied : PairOut = withdraw_all w (pair_out (accepted []) t b) (standing_for w t b) in
        ((pair_loaded w t b input).state ≡ (announce_each w emptied (input_routes input)).state)
        × ((pair_loaded w t b input).lent ≡ (announce_each w emptied (input_routes input)).lent)
        × AllRemoved w (pair_out (accepted []) t b) (standing_for w t b) × EachAdded w emptied (input_routes input)
    pair-load-as = loads.pair-load-as w t b

-- "A newly opened chunk takes the lowest free number": of those that neither party has
pub pair-lowest : (w : Party) (v : Level) (own : List ℕ) (r : Route) (k : ℕ) → get_or own k 0 ≡ 0 → get_or (open_for w v own r) k 0 ≢ 0
    → (j : ℕ) → j < k → get_or own j 0 ≢ 0
pair-lowest = held.pair-lowest

-- Demand 3. "Over tables that began so, with state and buffers untouched between calls": runs of both parties' calls, refused ones among them, from an
-- accepted make.
module _ (t : Pair) (b : PairLent) (made : accepts (pair_made t b).said ≡ true) (cs : List By) where
  -- the state and what is lent then
  abbrev u : Pair
  u = (pair_after t b cs).state

  abbrev v : PairLent
  v = (pair_after t b cs).lent

  holds : runs.RunHolds t b (pair_after t b cs) (λ w. Rattle.pair.specs.PairRuns.own w cs)
  holds = runs.run_holds t b (make-makeable t b made) cs

  -- after any run the box is sound
  pub pair-run-sound : PairSound u v
  pair-run-sound = holds.sound

  module _ (w : Party) where
    -- which routes of a party stand is worked out from its own accepted calls alone, and its list holds exactly those, in order
    pub pair-run-standing : (k : ℕ) → route_at k (standing_for w u v) ≡ pair_held w t b cs k
    pair-run-standing = held.pair-standing t b (make-makeable t b made) cs w

    pub pair-run-only : (rs : List Route) → Good rs → ((k : ℕ) → route_at k rs ≡ pair_held w t b cs k) → standing_for w u v ≡ rs
    pair-run-only = held.pair-only t b (make-makeable t b made) cs w

    -- "From then on 7 and 8 are given to a party exactly when its own need would exceed its limit": of a well-formed change for which its list has room,
    pub pair-want : (c : Call) → Formed c (standing_for w u v) (room_for w b)
        → ByNeed (pair_terms w t b) (routes_after c (standing_for w u v)) (pair_done w u v c).said
    pair-want c f =
        let e = holds.routes w in
        subst (λ (rs : List Route). ByNeed (pair_terms w t b) (routes_after c rs) (pair_done w u v c).said) (sym e)
        (wants.pair-want t b made w cs c (subst (λ (rs : List Route). Formed c rs (room_for w b)) e f))

    -- and to no other call
    pub pair-want-formed : (c : Call) → ForChunks (pair_done w u v c).said → Formed c (standing_for w u v) (room_for w b)
    pair-want-formed c f =
        subst (λ (n : ℕ). Formed c (standing_for w u v) n) (ap {B = ℕ} (λ (m : Terms). m.room) (holds.terms w)) (pair-formed w u v c f)

    -- "Demand 3 is read for each party, with its limits in place of the chunks lent": its table is as good as a load of its standing routes into a table of
    -- one party, with as many chunks as its limits
    pub pair-run-as-fresh : (x : Table) (l : Lent) → LimitsLent w t b x l → (input : List ℕ) → Carries input (standing_for w u v)
        → PairAsFresh w u v (loaded x l input)
    pair-run-as-fresh = wants.pair-as-fresh t b made w cs

    -- there is such an input
    pub pair-run-input : Carries (written (standing_for w u v) (length (standing_for w u v))) (standing_for w u v)
    pair-run-input =
        carried _ (routes-good u v holds.sound w)
        (omega (arith, (holds.sound.each w).listed.records.few, length-routes (side w v).list (share_of w u).count))

-- Isolation. "One party's hops, counts of cells read, reports and refusals depend on its own calls, list room and limits, the geometry and nothing else"
pub isolation : (w : Party) (t : Pair) (b : PairLent) (cs : List By) (t' : Pair) (b' : PairLent) (cs' : List By) → Alike w t b cs t' b' cs'
    → ToldAlike w (pair_after t b cs) (pair_after t' b' cs')
isolation = runs.isolation

-- "Show that no second answer would satisfy it": two outcomes that meet a call's statement are equal, in the answer, the state and all that is lent.
module _ (t : Pair) (b : PairLent) where
  pub one-answer-pair-make : (x y : Result Pair Refusal) (u v : PairLent) → MeetsPairMake t b x u → MeetsPairMake t b y v → (x ≡ y) × (u ≡ v)
  one-answer-pair-make = make.one-answer-pair-make t b

  pub one-answer-pair-announce : (w : Party) (r : Route) (x y : PairAnnounced) (u v : PairLent)
      → MeetsPairAnnounce w t b r x u → MeetsPairAnnounce w t b r y v → (x ≡ y) × (u ≡ v)
  one-answer-pair-announce w = announcing.one-answer-pair-announce w t b

  pub one-answer-pair-withdraw : (w : Party) (addr len : ℕ) (x y : PairWithdrawn) (u v : PairLent)
      → MeetsPairWithdraw w t b addr len x u → MeetsPairWithdraw w t b addr len y v → (x ≡ y) × (u ≡ v)
  one-answer-pair-withdraw w = withdrawing.one-answer-pair-withdraw w t b

  pub one-answer-pair-load : (w : Party) (input : List ℕ) (x y : Result Pair Refused) (u v : PairLent)
      → MeetsPairLoad w t b input x u → MeetsPairLoad w t b input y v → (x ≡ y) × (u ≡ v)
  one-answer-pair-load w = loading.one-answer-pair-load w t b

  pub one-answer-pair-report : (w : Party) (x y : Result Standing Refusal) → MeetsPairReport w t b x → MeetsPairReport w t b y → x ≡ y
  one-answer-pair-report w = report.one-answer-pair-report w t b

  pub one-answer-pair-lookup : (w : Party) (addr : ℕ) (x y : Result Found Refusal) → MeetsPairLookup w t b addr x → MeetsPairLookup w t b addr y → x ≡ y
  one-answer-pair-lookup w = lookup.one-answer-pair-lookup w t b
