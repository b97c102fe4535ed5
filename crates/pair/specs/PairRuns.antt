-- Calls of both parties one after the other, those of one of them, and what is compared after them: two boxes in which a party made the same calls
-- (isolation), a party's table and a table of its own (demand 3), a load and the withdrawals and announcements as which it acts.
use Rattle.std.specs.Prelude.{true, cond, List, [], ◌∷◌, ◌≡◌, ℕ, ◌^◌, ◌<◌, length}
use Rattle.routes.specs.Said.{accepted, accepts}
use Rattle.routes.specs.declared.Route.{Route}
use Rattle.standing.specs.Standing.{Held, absent}
use Rattle.sail.specs.Lent.{Lent}
use Rattle.sail.specs.Sizes.{Sized}
use Rattle.sail.specs.Sound.{used}
use Rattle.sail.specs.Walk.{lookup_said, walk_counts}
use Rattle.sail.specs.declared.table.Table.{Table}
use Rattle.sail_theory.specs.Calls.{Out}
use Rattle.sail_theory.specs.CallRuns.{Call, announce, withdraw, load, held_after}
use Rattle.sail_theory.specs.Render.{room_of}
use Rattle.pair.specs.Party.{Party, is, view}
use Rattle.pair.specs.PairLent.{PairLent, side, room_for, sees}
use Rattle.pair.specs.PairSound.{share_of}
use Rattle.pair.specs.PairCalls.{PairOut, pair_made, pair_announced, pair_withdrawn, pair_loaded, pair_reported, pair_lookup_said}
use Rattle.pair.specs.declared.Pair.{Pair}

-- a call by a party
pub record By : Type 0 where
  pub who : Party
  pub what : Call

unfoldable pub pair_done : Party → Pair → PairLent → Call → PairOut
pair_done w t b (announce r) = pair_announced w t b r
pair_done w t b (withdraw a len) = pair_withdrawn w t b a len
pair_done w t b (load input) = pair_loaded w t b input

-- what a run of calls from a fresh box leaves; the last call is first in the list. A second make is no call of a run: it is neither party's own
unfoldable pub pair_after : Pair → PairLent → List By → PairOut
pair_after t b [] = pair_made t b
pair_after t b (c ∷ cs) = pair_done c.who (pair_after t b cs).state (pair_after t b cs).lent c.what

-- a party's own calls
unfoldable pub own : Party → List By → List Call
own w [] = []
own w (c ∷ cs) = cond (is w c.who) (c.what ∷ own w cs) (own w cs)

-- what stands for the prefix with key k, worked out from the party's own accepted calls alone, marks included
unfoldable pub pair_held : Party → Pair → PairLent → List By → ℕ → Held
pair_held w t b [] k = absent
pair_held w t b (c ∷ cs) k =
    cond (is w c.who)
    (cond (accepts (pair_after t b (c ∷ cs)).said) (held_after c.what k (pair_held w t b cs k)) (pair_held w t b cs k))
    (pair_held w t b cs k)

-- Isolation. "Over tables that began so, with state and buffers untouched between calls, one party's hops, counts of cells read, reports and refusals
-- depend on its own calls, list room and limits, the geometry and nothing else": two boxes that began with an accepted make, and runs of calls on them.
-- The party w has the same room and limits in both, and made the same calls. All else may differ: how many chunks are lent, and the other's room,
-- limits and calls.
pub record Alike (w : Party) (t : Pair) (b : PairLent) (cs : List By) (t' : Pair) (b' : PairLent) (cs' : List By) : Type 0 where
  pub made : accepts (pair_made t b).said ≡ true
  pub made' : accepts (pair_made t' b').said ≡ true
  pub geometry : t.geometry ≡ t'.geometry
  pub room : room_for w b ≡ room_for w b'
  pub limit2 : (share_of w t).most2 ≡ (share_of w t').most2
  pub limit3 : (share_of w t).most3 ≡ (share_of w t').most3
  pub calls : own w cs ≡ own w cs'

-- then w gets the same answer to every next call, a refusal's number and index included, to every lookup, and to a report
pub record ToldAlike (w : Party) (o o' : PairOut) : Type 0 where
  pub calls : (k : Call) → (pair_done w o.state o.lent k).said ≡ (pair_done w o'.state o'.lent k).said
  pub lookups : (a : ℕ) → a < 2 ^ 32 → pair_lookup_said w o.state o.lent a ≡ pair_lookup_said w o'.state o'.lent a
  pub reports : pair_reported w o.state o.lent ≡ pair_reported w o'.state o'.lent

-- Demand 3. "Demand 3 is read for each party, with its limits in place of the chunks lent": a table of one party, of this geometry and room, with as many
-- chunks lent as the party's limits
pub record LimitsLent (w : Party) (t : Pair) (b : PairLent) (u : Table) (v : Lent) : Type 0 where
  pub geometry : u.geometry ≡ t.geometry
  pub sized : Sized u.geometry v
  pub room : room_of v ≡ room_for w b
  pub chunks2 : length v.own2 ≡ (share_of w t).most2
  pub chunks3 : length v.own3 ≡ (share_of w t).most3

-- The party's table in the box b with state t is as good as a fresh load with the outcome o into such a table: that load is accepted, its list is the same
-- to the byte, every address gets the same hop and count of cells, as many chunks are in use, and the counts are equal at first cells and on every
-- address's walk.
pub record PairAsFresh (w : Party) (t : Pair) (b : PairLent) (o : Out) : Type 0 where
  pub accepted_too : accepts o.said ≡ true
  pub lists : (side w b).list ≡ o.lent.list
  pub lookups : (a : ℕ) → a < 2 ^ 32 → pair_lookup_said w t b a ≡ lookup_said o.table o.lent a
  pub chunks2 : used (view w b.own2) ≡ used o.lent.own2
  pub chunks3 : used (view w b.own3) ≡ used o.lent.own3
  pub longs1 : (side w b).long1 ≡ o.lent.long1
  pub longs2 : (a : ℕ) → a < 2 ^ 32 → walk_counts t.geometry (sees t.geometry w b) a ≡ walk_counts o.table.geometry o.lent a

-- Load. What is left after the party withdraws each of these routes, in order, and that each withdrawal is accepted
unfoldable pub withdraw_all : Party → PairOut → List Route → PairOut
withdraw_all w o [] = o
withdraw_all w o (r ∷ rs) = withdraw_all w (pair_withdrawn w o.state o.lent r.addr r.len) rs

unfoldable pub AllRemoved : Party → PairOut → List Route → Type 0
AllRemoved w o [] = Unit
AllRemoved w o (r ∷ rs) =
    ((pair_withdrawn w o.state o.lent r.addr r.len).said ≡ accepted (0 ∷ []))
    × AllRemoved w (pair_withdrawn w o.state o.lent r.addr r.len) rs

-- and after it announces each of these, and that each of these adds its route; no bit is cleared
unfoldable pub announce_each : Party → PairOut → List Route → PairOut
announce_each w o [] = o
announce_each w o (r ∷ rs) = announce_each w (pair_announced w o.state o.lent r) rs

unfoldable pub EachAdded : Party → PairOut → List Route → Type 0
EachAdded w o [] = Unit
EachAdded w o (r ∷ rs) =
    ((pair_announced w o.state o.lent r).said ≡ accepted (0 ∷ 0 ∷ []))
    × EachAdded w (pair_announced w o.state o.lent r) rs
