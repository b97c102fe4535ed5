-- The calls of two parties on one box. Each is a function from the state and what is lent at entry to what it returns, the state and what is lent
-- at exit, for every state and every contents. Bits after the length are cleared, and marks carried, as in a table of one.
use Rattle.std.specs.Prelude.{Bool, not, ◌&&◌, cond, List, [], ◌∷◌, map, ℕ, suc, ◌-◌, ltb, eqb, length, set, get_or, replicate}
use Rattle.bits.specs.Count.{bit}
use Rattle.bits.specs.Slot.{cut}
use Rattle.routes.specs.Route.{key_of, key}
use Rattle.routes.specs.Input.{route_fault, input_said}
use Rattle.routes.specs.Said.{Said, accepted, refused, refused_at, and_then}
use Rattle.routes.specs.declared.Route.{Route}
use Rattle.standing.specs.Cells.{need}
use Rattle.standing.specs.Standing.{stands, insert, remove}
use Rattle.sail.specs.Lent.{Lent}
use Rattle.sail.specs.Level.{Level, deep, chunks_of, level1, level2}
use Rattle.sail.specs.Walk.{one_of, walk_said}
use Rattle.sail.specs.declared.geometry.Geometry.{Geometry}
use Rattle.sail_theory.specs.Render.{find, rendered}
use Rattle.sail_theory.specs.Calls.{Owners, Terms, announce_fault, withdraw_fault, load_fault, or_say, input_routes, cut_route, cleared, with_flag}
use Rattle.pair.specs.Party.{Party, one, two, put, owner_of, seen, foreign, view}
use Rattle.pair.specs.PairLent.{PairLent, pair_lent, pair_owners, room_for, sees, seen_by, box_of}
use Rattle.pair.specs.PairSound.{pair_of, share_of, standing_for, pair_sizes_fault, limits_fit, pair_sound?}
use Rattle.pair.specs.declared.Share.{Share}
use Rattle.pair.specs.declared.Pair.{Pair}

-- Owners.

-- a chunk of the party hangs from its place q; if none did, it is now c
unfoldable pub grant_for : Party → List ℕ → ℕ → ℕ → List ℕ
grant_for w own c q = cond (ltb (find (view w own) (suc q)) (length (view w own))) own (set own c (owner_of w q))

-- a route longer than the level has a chunk of the party. "A newly opened chunk takes the lowest free number": of those that neither party has
unfoldable pub open_for : Party → Level → List ℕ → Route → List ℕ
open_for w v own r = cond (ltb v.bits r.len) (grant_for w own (find own 0) (v.serving r.addr)) own

-- the owners after the party announced r
abbrev pub opened_for : Party → Geometry → Owners → Route → Owners
opened_for w g o r = record {
  own2 = open_for w (level1 g) o.own2 r;
  own3 = open_for w (level2 g (chunks_of (view w (open_for w (level1 g) o.own2 r)))) o.own3 r;
}

-- after it announced each of these, in order
unfoldable pub owners_after_for : Party → Geometry → Owners → List Route → Owners
owners_after_for w g o [] = o
owners_after_for w g o (r ∷ rs) = owners_after_for w g (opened_for w g o r) rs

-- the party's owners whose cell is no longer deep are 0; the other's stay
unfoldable pub keep_for : Party → List Route → Level → List ℕ → List ℕ
keep_for w rs v own = map (λ o. cond (eqb (seen w o) 0) o (cond (deep rs v (seen w o - 1)) o 0)) own

-- the owners after withdrawals of the party that leave these routes
abbrev pub owners_kept_for : Party → Geometry → List Route → Owners → Owners
owners_kept_for w g rs o = record { own2 = keep_for w rs (level1 g) o.own2; own3 = keep_for w rs (level2 g (chunks_of (view w o.own2))) o.own3 }

-- Refusals. "The order of refusals stays": announce 1, 2, 3, 4, 10, 5, 6, 7, 8; withdraw 1, 2, 3, 5, 9; report and lookup 1, 2, 5. (What is returned,
-- case by case: specs/PairCases.antt.)

-- what a party has for its routes: room in its own list (6), and its limits. "From then on 7 and 8 are given to a party exactly when its own need
-- would exceed its limit"
abbrev pub pair_terms : Party → Pair → PairLent → Terms
pair_terms w t b = record { geometry = t.geometry; room = room_for w b; most2 = (share_of w t).most2; most3 = (share_of w t).most3 }

-- "At make, each gets a limit of chunks in either pool": those in the state. "24, the two limits add to more than a pool's chunks, after 2 in make"
unfoldable pub pair_make_said : Pair → PairLent → Said
pair_make_said t b = or_say (pair_sizes_fault t.geometry b) (or_say (cond (limits_fit t b) 0 24) (accepted []))

unfoldable pub pair_announce_said : Party → Pair → PairLent → Route → Said
pair_announce_said w t b r =
    or_say (pair_sizes_fault t.geometry b)
    (or_say (route_fault r)
    (or_say (announce_fault (pair_sound? t b) (pair_terms w t b) (standing_for w t b) r)
    (accepted (bit (stands (key r) (standing_for w t b)) ∷ []))))

unfoldable pub pair_withdraw_said : Party → Pair → PairLent → ℕ → ℕ → Said
pair_withdraw_said w t b a len =
    or_say (pair_sizes_fault t.geometry b)
    (or_say (withdraw_fault (pair_sound? t b) (standing_for w t b) a len)
    (accepted []))

-- 1, 2, 5, the input's, 6, 7, 8: load "checks the standing table (5 after 2)"
unfoldable pub pair_load_said : Party → Pair → PairLent → List ℕ → Said
pair_load_said w t b input =
    or_say (pair_sizes_fault t.geometry b)
    (cond (not (pair_sound? t b)) (refused 5)
    (and_then (input_said input)
    (or_say (load_fault (pair_terms w t b) (input_routes input))
    (accepted []))))

-- Outcomes.

pub record PairOut : Type 0 where
  pub said : Said
  pub state : Pair
  pub lent : PairLent

abbrev pub pair_out : Said → Pair → PairLent → PairOut
pair_out s t b = record { said = s; state = t; lent = b }

-- a refusal leaves all as it was
abbrev pub pair_outcome : Said → Pair → PairLent → Pair → PairLent → PairOut
pair_outcome (accepted vs) t b t' b' = pair_out (accepted vs) t' b'
pair_outcome (refused n) t b t' b' = pair_out (refused n) t b
pair_outcome (refused_at n k) t b t' b' = pair_out (refused_at n k) t b

-- a share with so many routes, and the state with so many of the party's
abbrev pub counting : ℕ → Share → Share
counting n s = record { count = n; most2 = s.most2; most3 = s.most3 }

abbrev pub with_count : Party → ℕ → Pair → Pair
with_count w n t = pair_of t.geometry (put w (counting n (share_of w t)) (λ v. share_of v t))

-- the box in which these routes of the party stand with these owners: the party's table is what they ask, the other's is as it was
abbrev pub pair_lent_of : Party → Pair → PairLent → List Route → Owners → PairLent
pair_lent_of w t b rs o =
    box_of t.geometry o
    (put w (rendered t.geometry (room_for w b) rs (view w o.own2) (view w o.own3)) (λ v. sees t.geometry v b))

abbrev pub pair_leaving : Said → Party → Pair → PairLent → List Route → Owners → PairOut
pair_leaving s w t b rs o = pair_outcome s t b (with_count w (length rs) t) (pair_lent_of w t b rs o)

-- a fresh box: no routes, the limits as they were given, leaves of hop 0 and zeros
abbrev pub fresh_pair : Pair → Pair
fresh_pair t = record { geometry = t.geometry; one = counting 0 t.one; two = counting 0 t.two }

unfoldable pub fresh_pair_lent : PairLent → PairLent
fresh_pair_lent b =
    pair_lent (replicate (length b.list1) 0) (replicate (length b.first1) 32768) (replicate (length b.long11) 0)
    (replicate (length b.list2) 0) (replicate (length b.first2) 32768) (replicate (length b.long12) 0)
    (replicate (length b.second) 0) (replicate (length b.third) 0)
    (replicate (length b.own2) 0) (replicate (length b.own3) 0)
    (replicate (length b.long2) 0)

unfoldable pub pair_made : Pair → PairLent → PairOut
pair_made t b = pair_outcome (pair_make_said t b) t b (fresh_pair t) (fresh_pair_lent b)

unfoldable pub pair_adding : Party → Pair → PairLent → Route → PairOut
pair_adding w t b r =
    pair_leaving (pair_announce_said w t b r) w t b
    (insert r (standing_for w t b))
    (opened_for w t.geometry (pair_owners b) r)

unfoldable pub pair_taking : Party → Pair → PairLent → ℕ → ℕ → PairOut
pair_taking w t b a len =
    pair_leaving (pair_withdraw_said w t b a len) w t b
    (remove (key_of a len) (standing_for w t b))
    (owners_kept_for w t.geometry (remove (key_of a len) (standing_for w t b)) (pair_owners b))

abbrev pub pair_with_flag : Bool → PairOut → PairOut
pair_with_flag f o = pair_out (with_flag f o.said) o.state o.lent

unfoldable pub pair_announced : Party → Pair → PairLent → Route → PairOut
pair_announced w t b r = pair_with_flag (cleared r.len r.addr) (pair_adding w t b (cut_route r))

unfoldable pub pair_withdrawn : Party → Pair → PairLent → ℕ → ℕ → PairOut
pair_withdrawn w t b a len = pair_with_flag (cleared len a) (pair_taking w t b (cut len a) len)

-- "An accepted load acts as withdrawing all of one party's routes and then announcing the records": its chunks are closed, and each record then opens
-- the lowest free ones, between the other's (`pair-load-as`, proofs/PairLoadAs.antt, says it of the calls)
unfoldable pub pair_loaded : Party → Pair → PairLent → List ℕ → PairOut
pair_loaded w t b input =
    pair_leaving (pair_load_said w t b input) w t b
    (input_routes input)
    (owners_after_for w t.geometry (owners_kept_for w t.geometry [] (pair_owners b)) (input_routes input))

-- the party's own route count and both its needs; it changes nothing
unfoldable pub pair_reported : Party → Pair → PairLent → Said
pair_reported w t b =
    or_say (pair_sizes_fault t.geometry b)
    (cond (not (pair_sound? t b)) (refused 5)
    (accepted ((share_of w t).count ∷ need (standing_for w t b) t.geometry.p1 ∷ need (standing_for w t b) t.geometry.p2 ∷ [])))

-- "Lookup also breaks off with 5 at a chunk owned by the other": chunk v, counted from 1, opens to the party
abbrev pub opens_for : Party → List ℕ → ℕ → Bool
opens_for w own v = one_of (length own) v && not (foreign w (get_or own (v - 1) 0))

unfoldable pub pair_lookup_said : Party → Pair → PairLent → ℕ → Said
pair_lookup_said w t b a =
    or_say (pair_sizes_fault t.geometry b)
    (walk_said t.geometry (opens_for w b.own2) (opens_for w b.own3) (seen_by w b) a)
