-- The calls that change a table. Each is a function from the state and what is lent at entry to what it says, the state and what is lent
-- at exit, for every state and every contents.
use Rattle.std.specs.Prelude.{Bool, not, cond, List, [], ◌∷◌, map, ◌≡◌, ℕ, zero, suc, ◌-◌, ◌/◌, ltb, leb, eqb, length, set, replicate}
use Rattle.bits.specs.Count.{bit}
use Rattle.bits.specs.Slot.{cut}
use Rattle.routes.specs.Route.{key_of, key}
use Rattle.standing.specs.Cells.{need}
use Rattle.routes.specs.Record.{routes_of}
use Rattle.routes.specs.Input.{proper_prefix, route_fault, input_said}
use Rattle.routes.specs.Said.{Said, accepted, refused, refused_at, and_then}
use Rattle.standing.specs.Standing.{stands, insert, remove}
use Rattle.routes.specs.declared.Route.{Route}
use Rattle.sail.specs.Lent.{Lent}
use Rattle.sail.specs.Level.{Level, deep, chunks_of, level1, level2}
use Rattle.sail.specs.Sizes.{sizes_fault}
use Rattle.sail.specs.Sound.{standing, fresh_table, fresh_lent}
use Rattle.sail.specs.declared.geometry.Geometry.{Geometry}
use Rattle.sail.specs.declared.table.Table.{Table}
use Rattle.sail_theory.specs.Render.{find, rendered, room_of}
use Rattle.sail_theory.specs.SoundTest.{sound?}

-- Owners.

pub record Owners : Type 0 where
  pub own2 : List ℕ
  pub own3 : List ℕ

-- a chunk hangs from the place q; if none did, it is c
unfoldable pub grant : List ℕ → ℕ → ℕ → List ℕ
grant own c q = cond (ltb (find own (suc q)) (length own)) own (set own c (suc q))

-- a route longer than the level has a chunk, which hangs from the place that serves its address; if it had none, it is c
unfoldable pub open_at : Level → List ℕ → ℕ → Route → List ℕ
open_at v own c r = cond (ltb v.bits r.len) (grant own c (v.serving r.addr)) own

-- "A newly opened chunk takes the lowest free number"
abbrev pub opening : Level → List ℕ → Route → List ℕ
opening v own r = open_at v own (find own 0) r

-- the owners after r is announced, where the chunks that it opens are c2 and c3
abbrev pub opened_at : Geometry → Owners → ℕ → ℕ → Route → Owners
opened_at g o c2 c3 r = record {
  own2 = open_at (level1 g) o.own2 c2 r;
  own3 = open_at (level2 g (chunks_of (open_at (level1 g) o.own2 c2 r))) o.own3 c3 r;
}

-- the owners after r is announced
abbrev pub opened : Geometry → Owners → Route → Owners
opened g o r = record { own2 = opening (level1 g) o.own2 r; own3 = opening (level2 g (chunks_of (opening (level1 g) o.own2 r))) o.own3 r }

-- after each of these is, in order
unfoldable pub owners_after : Geometry → Owners → List Route → Owners
owners_after g o [] = o
owners_after g o (r ∷ rs) = owners_after g (opened g o r) rs

-- owners whose cell is no longer deep are 0
unfoldable pub keep : List Route → Level → List ℕ → List ℕ
keep rs v own = map (λ o. cond (deep rs v (o - 1)) o 0) own

-- "closes chunks that are no longer needed": the owners after a withdrawal that leaves these routes
abbrev pub owners_kept : Geometry → List Route → Owners → Owners
owners_kept g rs o = record { own2 = keep rs (level1 g) o.own2; own3 = keep rs (level2 g (chunks_of o.own2)) o.own3 }

abbrev pub owners_of : Lent → Owners
owners_of l = record { own2 = l.own2; own3 = l.own3 }

abbrev pub no_owners : Lent → Owners
no_owners l = record { own2 = replicate (length l.own2) 0; own3 = replicate (length l.own3) 0 }

-- Refusals.

-- what a table has for its routes: room in the list, and how many chunks it may use
pub record Terms : Type 0 where
  pub geometry : Geometry
  pub room : ℕ
  pub most2 : ℕ
  pub most3 : ℕ

-- all that is lent
abbrev pub terms_of : Table → Lent → Terms
terms_of t l = record { geometry = t.geometry; room = room_of l; most2 = length l.own2; most3 = length l.own3 }

-- 7: the need for second chunks exceeds what there is; 8: the need for third chunks does; 0: neither
unfoldable pub chunks_fault : Terms → List Route → ℕ
chunks_fault m rs = cond (ltb m.most2 (need rs m.geometry.p1)) 7 (cond (ltb m.most3 (need rs m.geometry.p2)) 8 0)

-- the route that an announcement asks for
abbrev pub route : ℕ → ℕ → ℕ → ℕ → Route
route a len hop mark = record { addr = a; len = len; mark = mark; hop = hop }

-- 5, 6, 7, 8, after the route by itself is good; a replacement never meets 6 to 8. `ok` tells whether the table is sound: it is `sound?`, which is
-- true exactly where `Sound` holds (`sound-tells`, proofs/places/SoundTest.antt)
unfoldable pub announce_fault : Bool → Terms → List Route → Route → ℕ
announce_fault ok m rs r =
    cond (not ok) 5
    (cond (stands (key r) rs) 0
    (cond (leb m.room (length rs)) 6
    (chunks_fault m (insert r rs))))

-- 3, 5, 9
unfoldable pub withdraw_fault : Bool → List Route → ℕ → ℕ → ℕ
withdraw_fault ok rs a len =
    cond (not (proper_prefix a len)) 3
    (cond (not ok) 5
    (cond (not (stands (key_of a len) rs)) 9 0))

-- 6, 7, 8, after the input itself is good
unfoldable pub load_fault : Terms → List Route → ℕ
load_fault m rs = cond (ltb m.room (length rs)) 6 (chunks_fault m rs)

-- a number is a refusal; 0 lets the next step speak
abbrev pub or_say : ℕ → Said → Said
or_say zero s = s
or_say (suc n) s = refused (suc n)

unfoldable pub make_said : Table → Lent → Said
make_said t l = or_say (sizes_fault t.geometry l) (accepted [])

-- 1, 2; what is wrong with the route by itself (3, 4, 10); 5, 6, 7, 8. Added says 0, replaced says 1. The route is the one that is meant: of an
-- address that is cut to its length, 3 is a length over 32 and nothing else (`three-is-length-announce`)
unfoldable pub announce_said : Table → Lent → Route → Said
announce_said t l r =
    or_say (sizes_fault t.geometry l)
    (or_say (route_fault r)
    (or_say (announce_fault (sound? t l) (terms_of t l) (standing t l) r)
    (accepted (bit (stands (key r) (standing t l)) ∷ []))))

unfoldable pub withdraw_said : Table → Lent → ℕ → ℕ → Said
withdraw_said t l a len =
    or_say (sizes_fault t.geometry l)
    (or_say (withdraw_fault (sound? t l) (standing t l) a len)
    (accepted []))

-- the routes of a record input
abbrev pub input_routes : List ℕ → List Route
input_routes input = routes_of input (length input / 8)

unfoldable pub load_said : Table → Lent → List ℕ → Said
load_said t l input =
    or_say (sizes_fault t.geometry l)
    (and_then (input_said input)
    (or_say (load_fault (terms_of t l) (input_routes input))
    (accepted [])))

-- Outcomes.

pub record Out : Type 0 where
  pub said : Said
  pub table : Table
  pub lent : Lent

-- what is said, the state and all that is lent, as a call's contract puts them together
abbrev pub out : Said → Table → Lent → Out
out s t l = record { said = s; table = t; lent = l }

-- How a call that changes a table ends: it says so, and the state and all that is lent are then these, as the outcome o has them. This is the form of
-- the calls' statements, and leaves one answer (`one_end`)
abbrev pub Ends : Said → Table → Lent → Out → Type 0
Ends said t l o = out said t l ≡ o

-- a refusal leaves all as it was
abbrev pub outcome : Said → Table → Lent → Table → Lent → Out
outcome (accepted vs) t l t' l' = record { said = accepted vs; table = t'; lent = l' }
outcome (refused n) t l t' l' = record { said = refused n; table = t; lent = l }
outcome (refused_at n k) t l t' l' = record { said = refused_at n k; table = t; lent = l }

-- the state and all that is lent where these routes stand with these owners
abbrev pub state_of : Table → List Route → Table
state_of t rs = record { geometry = t.geometry; count = length rs }

abbrev pub lent_of : Table → Lent → List Route → Owners → Lent
lent_of t l rs o = rendered t.geometry (room_of l) rs o.own2 o.own3

-- where it is accepted, these routes stand with these owners: all else that is lent follows from them
abbrev pub leaving : Said → Table → Lent → List Route → Owners → Out
leaving s t l rs o = outcome s t l (state_of t rs) (lent_of t l rs o)

-- a fresh table
unfoldable pub made : Table → Lent → Out
made t l = outcome (make_said t l) t l (fresh_table t.geometry) (fresh_lent l)

-- Announce and withdraw, of a prefix with no bit set after its length. "Announce adds, or replaces the hop of a standing prefix, and says
-- which"; the mark is replaced with the hop
unfoldable pub adding : Table → Lent → Route → Out
adding t l r =
    leaving (announce_said t l r) t l
    (insert r (standing t l))
    (opened t.geometry (owners_of l) r)

-- "Withdraw removes, and closes chunks that are no longer needed"
unfoldable pub taking : Table → Lent → ℕ → ℕ → Out
taking t l a len =
    leaving (withdraw_said t l a len) t l
    (remove (key_of a len) (standing t l))
    (owners_kept t.geometry (remove (key_of a len) (standing t l)) (owners_of l))

-- the route with its address cut to its length
abbrev pub cut_route : Route → Route
cut_route r = record { addr = cut r.len r.addr; len = r.len; mark = r.mark; hop = r.hop }

-- whether the cut clears any bit: exactly where one is set after the length (`cleared-bits`)
abbrev pub cleared : ℕ → ℕ → Bool
cleared len a = not (eqb (cut len a) a)

-- an accepted answer says first whether bits were cleared; a refusal does not say it
abbrev pub with_flag : Bool → Said → Said
with_flag b (accepted vs) = accepted (bit b ∷ vs)
with_flag b (refused n) = refused n
with_flag b (refused_at n k) = refused_at n k

abbrev pub out_with_flag : Bool → Out → Out
out_with_flag b o = record { said = with_flag b o.said; table = o.table; lent = o.lent }

-- The calls. "Announce and withdraw now clear the bits after the length and say in an accepted answer whether any were cleared; all else ..
-- goes by the cleared prefix"
unfoldable pub announced : Table → Lent → Route → Out
announced t l r = out_with_flag (cleared r.len r.addr) (adding t l (cut_route r))

unfoldable pub withdrawn : Table → Lent → ℕ → ℕ → Out
withdrawn t l a len = out_with_flag (cleared len a) (taking t l (cut len a) len)

-- of the old table its geometry and its sizes alone
unfoldable pub loaded : Table → Lent → List ℕ → Out
loaded t l input =
    leaving (load_said t l input) t l
    (input_routes input)
    (owners_after t.geometry (no_owners l) (input_routes input))

-- "The report gives the route count and both needs"; it changes nothing
unfoldable pub reported : Table → Lent → Said
reported t l =
    or_say (sizes_fault t.geometry l)
    (cond (not (sound? t l)) (refused 5)
    (accepted (t.count ∷ need (standing t l) t.geometry.p1 ∷ need (standing t l) t.geometry.p2 ∷ [])))
