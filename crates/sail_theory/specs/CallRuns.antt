-- Calls one after the other, and the routes that stand by what they said alone.
use Rattle.std.specs.Prelude.{true, cond, List, [], ◌∷◌, ◌≡◌, ℕ, ◌*◌, ◌^◌, ◌≤◌, ◌<◌, eqb, length}
use Rattle.bits.specs.Slot.{cut}
use Rattle.routes.specs.Route.{key_of, key, Prefix, Fine}
use Rattle.routes.specs.Record.{routes_of, Records}
use Rattle.routes.specs.Input.{input_said}
use Rattle.routes.specs.Said.{accepted, accepts}
use Rattle.standing.specs.Standing.{stands, Held, absent, stood, route_at, insert, remove}
use Rattle.routes.specs.declared.Route.{Route}
use Rattle.sail.specs.Lent.{Lent}
use Rattle.sail.specs.Sound.{standing, used}
use Rattle.sail.specs.Walk.{lookup_said, walk_counts}
use Rattle.sail.specs.declared.table.Table.{Table}
use Rattle.sail_theory.specs.Calls.{input_routes, Out, made, cut_route, announced, withdrawn, loaded}

-- what is left after announcing each of these in order
unfoldable pub announce_all : Out → List Route → Out
announce_all o [] = o
announce_all o (r ∷ rs) = announce_all (announced o.table o.lent r) rs

-- each of these answers is that no bit was cleared and the route was added
unfoldable pub AllAdded : Out → List Route → Type 0
AllAdded o [] = Unit
AllAdded o (r ∷ rs) =
    ((announced o.table o.lent r).said ≡ accepted (0 ∷ 0 ∷ []))
    × AllAdded (announced o.table o.lent r) rs

pub data Call : Type 0 where
  announce : Route → Call
  withdraw : ℕ → ℕ → Call
  load : List ℕ → Call

unfoldable pub done : Table → Lent → Call → Out
done t l (announce r) = announced t l r
done t l (withdraw a len) = withdrawn t l a len
done t l (load input) = loaded t l input

-- what a run of calls from a fresh table leaves; the last call stands first
unfoldable pub after : Table → Lent → List Call → Out
after t l [] = made t l
after t l (c ∷ cs) = done (after t l cs).table (after t l cs).lent c

-- what stands for the prefix with key k after an accepted call, where `before` stood for it; announcements and withdrawals speak of the
-- cleared prefix
abbrev pub held_after : Call → ℕ → Held → Held
held_after (announce r) k before = cond (eqb (key (cut_route r)) k) (stood (cut_route r)) before
held_after (withdraw a len) k before = cond (eqb (key_of (cut len a) len) k) absent before
held_after (load input) k before = route_at k (input_routes input)

-- "Which routes stand after a run is worked out from its accepted calls alone"
unfoldable pub held_by_calls : Table → Lent → List Call → ℕ → Held
held_by_calls t l [] k = absent
held_by_calls t l (c ∷ cs) k = cond (accepts (after t l (c ∷ cs)).said) (held_after c k (held_by_calls t l cs k)) (held_by_calls t l cs k)

-- the routes that would stand after the call, where rs stand
abbrev pub routes_after : Call → List Route → List Route
routes_after (announce r) rs = insert (cut_route r) rs
routes_after (withdraw a len) rs = remove (key_of (cut len a) len) rs
routes_after (load input) rs = input_routes input

-- a well-formed change for which a list of this room has room, where rs stand
abbrev pub Formed : Call → List Route → ℕ → Type 0
Formed (announce r) rs room = Fine (cut_route r) × (length (insert (cut_route r) rs) ≤ room)
Formed (withdraw a len) rs room = Prefix (cut len a) len × (stands (key_of (cut len a) len) rs ≡ true)
Formed (load input) rs room = (n : ℕ) × (input_said input ≡ accepted (n ∷ [])) × (n ≤ room)

-- a record input of these routes
pub record Carries (input : List ℕ) (rs : List Route) : Type 0 where
  pub whole : length input ≡ length rs * 8
  pub records : Records input (length rs)
  pub routes : routes_of input (length rs) ≡ rs

-- the routes that stand after a run
abbrev pub standing_after : Table → Lent → List Call → List Route
standing_after t l cs = standing (after t l cs).table (after t l cs).lent

-- The table t in l is as good as a fresh load with the outcome o: that load is accepted, its list is the same to the byte, every address gets
-- the same hop and count of cells, as many chunks are in use, and the counts are equal at first cells and on every address's walk.
pub record AsFresh (t : Table) (l : Lent) (o : Out) : Type 0 where
  pub accepted_too : accepts o.said ≡ true
  pub lists : l.list ≡ o.lent.list
  pub lookups : (a : ℕ) → a < 2 ^ 32 → lookup_said t l a ≡ lookup_said o.table o.lent a
  pub chunks2 : used l.own2 ≡ used o.lent.own2
  pub chunks3 : used l.own3 ≡ used o.lent.own3
  pub longs1 : l.long1 ≡ o.lent.long1
  pub longs2 : (a : ℕ) → a < 2 ^ 32 → walk_counts t.geometry l a ≡ walk_counts o.table.geometry o.lent a
