-- Tables, images and calls that meet what the theorems on the demands suppose: the fresh table, list A loaded and built, and calls that are
-- refused. So none of them speaks of nothing.
use Rattle.std.specs.Prelude.{Some, Ok, Err}
use mathlib.Core.Path.{◌≡◌, refl, sym, ◌∙◌, ap}
use mathlib.Core.Logic.{◌≢◌}
use mathlib.Core.Bool.{true, false, cond}
use mathlib.Core.List.{List, [], ◌∷◌, map}
use Prim.Native.Nat.{ℕ, ◌^◌, ◌<◌}
use native.Mathlib.Omega.{arith}
use lib.ListN.{get_or, length, drop, replicate, get_or-map}
use denote.Ref.{Bor}
use Rattle.bits.specs.Slot.{slot, cut}
use Rattle.bits.specs.Search.{first_from, first_of}
use Rattle.bits.specs.Tab.{tabulate}
use Rattle.bits.specs.Count.{count}
use Rattle.routes.specs.Route.{Good}
use Rattle.standing.specs.Cells.{any, best}
use Rattle.standing.specs.Cells as cells
use Rattle.routes.specs.Record.{record_at, routes_of, written, routes_in}
use Rattle.routes.specs.Input.{proper_prefix, hop_fine, route_fault, in_order, fault_at, input_said}
use Rattle.routes.specs.Said.{Said, accepted, refused, accepts, said_by, said_plainly}
use Rattle.routes.specs.Answers.{means_input, means_got, route_said, ReadBack}
use Rattle.routes.specs.Contract.{MeetsCheckInput, MeetsRouteAt}
use Rattle.standing.specs.Standing.{route_at}
use Rattle.std.specs.Prelude.{Some, None, Ok, Err}
use Rattle.refusals.specs.declared.Refusal.TheVariants as refusal
use Rattle.routes.specs.Said.{said_by}
use Rattle.routes.specs.declared.Route.{Route}
use Rattle.routes.proofs.Meaning.{prefix-true}
use Rattle.lists.specs.Place.{place_of}
use Rattle.runs.specs.Run.{run_said, run_of, run_at, IsRun}
use Rattle.runs.specs.Tally.{lengths_of, tally_of, IsTally}
use Rattle.runs.specs.Contract.{MeetsRunCheck}
use Rattle.sail.specs.Geometry.{standard_geo, valid_geo}
use Rattle.sail.specs.Lent.{Lent}
use Rattle.sail.specs.Sizes.{sizes_fault}
use Rattle.sail.specs.Sound.{Sound, standing, fresh_table, fresh_lent}
use Rattle.sail.specs.Walk.{lookup_said}
use Rattle.sail.specs.Contract.{MeetsLookup}
use Rattle.sail.specs.declared.table.Table.{Table}
use Rattle.sail.proofs.Fresh.{fresh-sound}
use Rattle.sail_theory.specs.Calls.{route, terms_of, withdraw_fault, Out, out, made, announced, withdrawn, loaded, reported}
use Rattle.sail_theory.specs.CallRuns.{Call, announce, withdraw, load, done, after, held_by_calls, routes_after, Formed, standing_after, AsFresh}
use Rattle.sail_theory.specs.Render.{room_of}
use Rattle.sail_theory.proofs.calls.Cleared.{telling-once, announce-said, announce-off}
use Rattle.sail_theory.proofs.calls.Make.{make-said, make-is}
use Rattle.sail_theory.proofs.calls.SameSizes.{size-refl}
use Rattle.sail_sound.specs.Contract.{MeetsReport}
use Rattle.sail_make.specs.Contract.{MeetsMake}
use Rattle.sail_load.specs.Contract.{MeetsLoad}
use Rattle.sail_announce.specs.Answers.{means_announce}
use Rattle.sail_announce.specs.Contract.{MeetsAnnounce}
use Rattle.sail_withdraw.specs.Answers.{means_withdraw}
use Rattle.sail_withdraw.specs.Contract.{MeetsWithdraw}
use Rattle.sail_announce.specs.declared.answers.Announce.TheVariants as of_announce
use Rattle.sail_withdraw.specs.declared.answers.Withdraw.TheVariants as of_withdraw
use Rattle.tree_image.specs.Node.{sound}
use Rattle.tree_image.specs.Parts.{picked, gather}
use Rattle.tree_image.specs.Image.{kids, level, up_to, on_path}
use Rattle.tree_image.specs.Walk as walk
use Rattle.tree_image.specs.Walk.{walk_from, tree_said}
use Rattle.tree.specs.Contract.{MeetsTreeLookup}
use Rattle.refusals.specs.declared.Refusal.TheVariants as refusal
use Rattle.tree_build.specs.Built as building
use Rattle.tree_build.specs.Built.{made_of, built}
use Rattle.tree_build.specs.Contract.{MeetsBuild}
use Rattle.tree_build.proofs.Serves.{built-serves}
use Rattle.sail_theory.specs.Replies.{reply, stood}
use Rattle.sail_theory.proofs.runs.Replies.{run-says, run-stood}
use Rattle.sail_theory.specs.WantOfChunks.{ByNeed, ForChunks}
use Rattle.standing.specs.Served.{uncounted}
use Rattle.demands.proofs.Demand2 as demand2
use Rattle.demands.proofs.Demand3 as demand3
use Rattle.examples.specs.Lines.{ip, Line, ◌gives◌, Hold}
use Rattle.examples.specs.Blank.{geo}
use Rattle.routes.specs.ListA.{list_a}
use Rattle.examples.specs.Starred.{table, arrays, bare, image, loaded_a, without0, entered, other, loose, tight, away, Asked, last, answer, starred}
use Rattle.examples.proofs.Starred.{sized, starred-hold}
use Rattle.examples.proofs.TableA.{good_a}

-- a line of the examples
pub line : (k : ℕ) → answer (get_or starred k (last [] gives accepted [])).asked ≡ get_or (map (λ (x : Line Asked). x.expected) starred) k (answer (last []))
unfolding Hold
line k = sym (get_or-map (λ (x : Line Asked). answer x.asked) starred k (last [] gives accepted [])) ∙ ap
    (λ (ss : List Said). get_or ss k (answer (last []))) starred-hold

-- the table and the arrays after a run
abbrev pub t : List Call → Table
t cs = (after table arrays cs).table

abbrev pub l : List Call → Lent
l cs = (after table arrays cs).lent

-- what a call says after a run on which nothing stands
first_says : (c : Call) → (after table arrays (c ∷ [])).said ≡ reply (terms_of table arrays) [] c
unfolding stood
first_says c = run-says table arrays sized c [] ∙ ap (λ (rs : List Route). reply (terms_of table arrays) rs c) (run-stood table arrays sized [])

-- Demand 1: refusals of each kind. A record input, and with it a tally; a run; and the calls that change something.
pub refused-input : accepts (input_said (1 ∷ [])) ≡ false
unfolding input_said
refused-input = refl

pub refused-route : (k : ℕ) → accepts (route_said (1 ∷ []) k) ≡ false
unfolding route_said input_said
refused-route k = refl

pub refused-run : accepts (run_said (1 ∷ []) 0 0) ≡ false
unfolding run_said input_said
refused-run = refl

pub refused-make : accepts (made (fresh_table (geo 16 27)) (bare (geo 16 27))).said ≡ false
unfolding starred answer
refused-make = ap accepts (make-said (fresh_table (geo 16 27)) (bare (geo 16 27)) ∙ line 24)

pub refused-load : accepts (loaded (t []) (l []) (1 ∷ [])).said ≡ false
unfolding after done reply input_said
refused-load = ap accepts (first_says (load (1 ∷ [])))

pub refused-announce : accepts (announced (t entered) (l entered) (route (ip 10 2 2 0) 24 45 0)).said ≡ false
unfolding starred answer after done
refused-announce = ap accepts (line 34)

pub refused-withdraw : accepts (withdrawn (t []) (l []) 0 0).said ≡ false
unfolding after done reply withdraw_fault proper_prefix cut any
refused-withdraw = ap accepts (first_says (withdraw 0 0))

pub refused-build : accepts (built (1 ∷ []) [] []).said ≡ false
unfolding built input_said
refused-build = refl

pub refused-report : reported (fresh_table (geo 16 27)) (bare (geo 16 27)) ≡ refused 1
unfolding reported sizes_fault valid_geo
refused-report = refl

-- and a lookup that is: its answer is the number
pub refused-lookup : (a : ℕ) → lookup_said (fresh_table (geo 16 27)) (bare (geo 16 27)) a ≡ refused 1
unfolding lookup_said sizes_fault valid_geo
refused-lookup a = refl

pub refused-tree : (a : ℕ) → tree_said [] [] a ≡ refused 13
unfolding tree_said walk_from sound
refused-tree a = refl

-- Demand 2: the fresh table is sound, and so is the one that list A is loaded into.
pub fresh : Sound (fresh_table standard_geo) (fresh_lent arrays)
unfolding table
fresh = fresh-sound standard_geo arrays sized

pub sound_a : Sound (t loaded_a) (l loaded_a)
sound_a = demand3.run_sound table arrays sized loaded_a

-- list A is a good input (`good_a`), and its image is built
pub built_a : (built list_a (replicate 21 0) (replicate 5 0)).said ≡ accepted (7 ∷ 5 ∷ [])
unfolding starred answer image
built_a = line 17

-- both have its routes, and so the same hop at every address
stood-A : stood (terms_of table arrays) loaded_a ≡ cond (accepts (after table arrays loaded_a).said) (routes_in list_a) []
unfolding stood
stood-A = ap (λ (s : Said). cond (accepts s) (routes_in list_a) []) (sym (first_says (load list_a)))

pub same-routes : routes_in list_a ≡ standing (t loaded_a) (l loaded_a)
unfolding starred answer
same-routes = sym (run-stood table arrays sized loaded_a ∙ stood-A ∙ ap (λ (s : Said). cond (accepts s) (routes_in list_a) []) (line 0))

pub same_hops : (a : ℕ) → a < 2 ^ 32 → uncounted (lookup_said (t loaded_a) (l loaded_a) a)
    ≡ uncounted (tree_said (built list_a (replicate 21 0) (replicate 5 0)).words (built list_a (replicate 21 0) (replicate 5 0)).hops a)
same_hops = demand2.table-as-image (t loaded_a) (l loaded_a) sound_a list_a (replicate 21 0) (replicate 5 0) (7 ∷ 5 ∷ []) built_a same-routes

-- its five routes are read back
pub read_a : ReadBack list_a (routes_of list_a 5)
read_a = demand2.read-back-input list_a 5 good_a

-- Demand 3: make accepts the arrays,
pub makes : accepts (made table arrays).said ≡ true
makes = ap (λ (o : Out). accepts o.said) (make-is table arrays sized)

-- what stands after each run is a list as `run_only` speaks of,
pub stands-in-order : (cs : List Call) → Good (standing_after table arrays cs) ×
    ((k : ℕ) → route_at k (standing_after table arrays cs) ≡ held_by_calls table arrays cs k)
stands-in-order cs = (demand3.run-in-order table arrays sized cs, demand3.run-standing table arrays sized cs)

-- after each run there is a fresh load to compare with, into the arrays themselves,
pub freshly : (cs : List Call) → AsFresh (t cs) (l cs) (loaded table arrays (written (standing_after table arrays cs) (length (standing_after table arrays cs))))
freshly cs = demand3.run-as-fresh table arrays sized cs table arrays refl (size-refl arrays) _ (demand3.run-input table arrays sized cs)

-- a change that is refused for want of chunks, and so is well-formed, and wants a chunk,
pub wanted_a : ForChunks (after table arrays other).said
unfolding starred answer
wanted_a = rw (line 34) (omega arith, omega arith)

pub formed-announce : Formed (announce (route (ip 10 2 2 0) 24 45 0)) (standing_after table arrays entered) (room_of arrays)
formed-announce = demand3.want-formed table arrays sized entered (announce (route (ip 10 2 2 0) 24 45 0)) wanted_a

pub needed : ByNeed (terms_of table arrays) (routes_after (announce (route (ip 10 2 2 0) 24 45 0)) (standing_after table arrays entered))
    (after table arrays other).said
needed = demand3.want-of-chunks table arrays sized entered (announce (route (ip 10 2 2 0) 24 45 0)) formed-announce

-- a withdrawal and a load that are well-formed,
pub formed-withdraw : Formed (withdraw 0 0) (standing_after table arrays loaded_a) (room_of arrays)
unfolding list_a proper_prefix cut any routes_of tabulate record_at
formed-withdraw = (prefix-true 0 0 refl, rw (← same-routes))

pub formed-load : Formed (load list_a) (standing_after table arrays []) (room_of arrays)
unfolding arrays
formed-load = (5, good_a, omega arith)

-- an address outside a prefix,
pub elsewhere : slot 25 (ip 10 2 0 1) ≢ slot 25 (cut 25 (ip 10 1 2 128))
unfolding cut
elsewhere e = omega (arith, e)

-- and a load that is accepted.
pub loads-A : accepts (loaded (t []) (l []) list_a).said ≡ true
unfolding starred answer after done
loads-A = ap accepts (line 0)

-- One answer: outcomes that meet the statements, accepted and refused ones. (That every call has one for every input is what its own proof says.)
told : (o : Out) (s : Said) → o.said ≡ s → out s o.table o.lent ≡ o
told o s e i = out (sym e i) o.table o.lent

pub checked-A : MeetsCheckInput list_a (Ok 5)
unfolding said_by
checked-A = sym good_a

pub route-A : MeetsRouteAt list_a 4 (Ok (Some (record { addr = ip 10 1 2 128; len = 25; mark = 0; hop = 57 })))
unfolding said_by route_said list_a record_at
route-A = rw good_a

pub route-attached : MeetsRouteAt (10 ∷ 1 ∷ 0 ∷ 0 ∷ 16 ∷ 1 ∷ 0 ∷ 31 ∷ []) 0 (Ok (Some (route (ip 10 1 0 0) 16 31 1)))
unfolding starred answer said_by route_said record_at
route-attached = rw (line 39)

pub route-refused : (k : ℕ) → MeetsRouteAt (1 ∷ []) k (Err (record { why = refusal.Record; at = Some 0 }))
unfolding said_by route_said input_said
route-refused k = refl

-- list A lies somewhere in memory; its run under 10.1.0.0/16 is its part from byte 16 on, there
unfoldable pub in_memory : List ℕ → Bor (List ℕ)
in_memory bytes = record { ref_ptr = (3, 4096); now = bytes }

pub run-part : IsRun (in_memory list_a) (record { ref_ptr = (3, 4112); now = drop 16 list_a }) (ip 10 1 0 0) 16
unfolding in_memory run_of run_at run_said input_said list_a record_at place_of first_of first_from fault_at route_fault in_order proper_prefix hop_fine cut
run-part = record { holds = refl; stands = refl }

pub run-refused : IsRun (in_memory (1 ∷ [])) (record { ref_ptr = (3, 4096); now = [] }) (ip 10 1 0 0) 16
unfolding in_memory run_of run_at run_said input_said
run-refused = record { holds = refl; stands = refl }

pub run-A : MeetsRunCheck list_a (ip 10 1 0 0) 16 (Ok (record { start = 2; count = 3 }))
unfolding said_by run_said list_a record_at place_of first_of first_from proper_prefix cut
run-A = rw good_a

-- one route of each of the lengths 0, 8, 16, 24 and 25
abbrev counts_a : List ℕ
counts_a =
    1 ∷ 0 ∷ 0 ∷ 0 ∷ 0 ∷ 0 ∷ 0 ∷ 0
    ∷ 1 ∷ 0 ∷ 0 ∷ 0 ∷ 0 ∷ 0 ∷ 0 ∷ 0
    ∷ 1 ∷ 0 ∷ 0 ∷ 0 ∷ 0 ∷ 0 ∷ 0 ∷ 0
    ∷ 1 ∷ 1 ∷ 0 ∷ 0 ∷ 0 ∷ 0 ∷ 0 ∷ 0
    ∷ 0
    ∷ []

pub tally-A : IsTally list_a (record { answer = Ok 5; counts = counts_a })
unfolding tally_of lengths_of list_a input_said first_of first_from fault_at route_fault in_order proper_prefix hop_fine record_at cut tabulate count
tally-A = record { answered = checked-A; counted = refl }

pub found-A : MeetsLookup (t loaded_a) (l loaded_a) (ip 10 1 2 200) (Ok (record { hop = Some 57; reads = 3 }))
unfolding starred answer said_plainly
found-A = sym (line 1)

pub found-refused : (a : ℕ) → MeetsLookup (fresh_table (geo 16 27)) (bare (geo 16 27)) a (Err refusal.Geometry)
unfolding said_plainly
found-refused a = sym (refused-lookup a)

pub reported-refused : MeetsReport (fresh_table (geo 16 27)) (bare (geo 16 27)) (Err refusal.Geometry)
unfolding said_plainly
reported-refused = sym refused-report

pub reported-A : MeetsReport (t loaded_a) (l loaded_a) (Ok (record { routes = 5; second = 1; third = 1 }))
unfolding starred answer said_plainly
reported-A = sym (line 11)

pub made-fresh : MeetsMake table arrays (Ok (fresh_table standard_geo)) (fresh_lent arrays)
unfolding table said_plainly
made-fresh = sym (make-is table arrays sized)

pub loaded-A : MeetsLoad (t []) (l []) list_a (Ok (t loaded_a)) (l loaded_a)
unfolding starred answer after done said_by
loaded-A = told (loaded (t []) (l []) list_a) (accepted []) (line 0)

pub announced-first : MeetsAnnounce (t []) (l []) (ip 10 1 2 0) 24 44 0 (record { answer = of_announce.Added false; table = t entered }) (l entered)
unfolding starred answer after done means_announce
announced-first = told (announced (t []) (l []) (route (ip 10 1 2 0) 24 44 0)) (accepted (0 ∷ 0 ∷ [])) (line 33)

pub announced-other : MeetsAnnounce (t entered) (l entered) (ip 10 2 2 0) 24 45 0 (record { answer = of_announce.Refused 7; table = t entered }) (l entered)
unfolding starred answer after done means_announce
announced-other =
    let said = announce-said (t entered) (l entered) (route (ip 10 2 2 0) 24 45 0) in
    sym (announce-off (t entered) (l entered) (route (ip 10 2 2 0) 24 45 0) (refused 7) (telling-once _ _ (refused 7) (sym said ∙ line 34)) refl)

-- bits that were cleared are told
pub announced-loose : MeetsAnnounce (t []) (l []) (ip 10 1 2 3) 24 44 0 (record { answer = of_announce.Added true; table = t loose }) (l loose)
unfolding starred answer after done means_announce
announced-loose = told (announced (t []) (l []) (route (ip 10 1 2 3) 24 44 0)) (accepted (1 ∷ 0 ∷ [])) (line 48)

pub withdrawn-loose : MeetsWithdraw (t tight) (l tight) (ip 10 1 2 9) 24 (record { answer = of_withdraw.Removed true; table = t away }) (l away)
unfolding starred answer after done means_withdraw
withdrawn-loose = told (withdrawn (t tight) (l tight) (ip 10 1 2 9) 24) (accepted (1 ∷ [])) (line 52)

pub withdrawn-A : MeetsWithdraw (t loaded_a) (l loaded_a) 0 0 (record { answer = of_withdraw.Removed false; table = t without0 }) (l without0)
unfolding starred answer after done means_withdraw
withdrawn-A = told (withdrawn (t loaded_a) (l loaded_a) 0 0) (accepted (0 ∷ [])) (line 9)

pub tree-found-A : MeetsTreeLookup image.words image.hops (ip 10 1 2 200) (Ok (record { hop = Some 57; reads = 8 }))
unfolding starred answer said_plainly
tree-found-A = sym (line 2)

-- The largest count of an image is had: the image of one route of 32 bits, asked for that address, has 9 nodes on its path, and the hop.
unfoldable pub host : List ℕ
host = 10 ∷ 1 ∷ 2 ∷ 200 ∷ 32 ∷ 0 ∷ 0 ∷ 57 ∷ []

abbrev pub host_image : building.ImageOut
host_image = built host (replicate 27 0) (replicate 1 0)

host-built : host_image.said ≡ accepted (9 ∷ 1 ∷ [])
unfolding host built made_of input_said first_of first_from fault_at route_fault in_order proper_prefix hop_fine record_at cut routes_of tabulate any
    cells.first picked gather kids level up_to
host-built = refl

host-told : walk.tree_hop_said (best (routes_in host) 32 (ip 10 1 2 200)) (on_path (routes_in host) (ip 10 1 2 200)) ≡ accepted (10 ∷ 57 ∷ [])
unfolding host walk.tree_hop_said best routes_of record_at tabulate any cells.first count
host-told = refl

pub tree-found-ten : MeetsTreeLookup host_image.words host_image.hops (ip 10 1 2 200) (Ok (record { hop = Some 57; reads = 10 }))
unfolding said_plainly
tree-found-ten = sym (built-serves host (replicate 27 0) (replicate 1 0) (9 ∷ 1 ∷ []) (ip 10 1 2 200) host-built (omega arith) ∙ host-told)

pub tree-broken : (a : ℕ) → MeetsTreeLookup [] [] a (Err refusal.Broken)
unfolding said_plainly
tree-broken a = sym (refused-tree a)

pub built-A : MeetsBuild list_a (replicate 21 0) (replicate 5 0) (Ok (record { nodes = 7; hops = 5 })) image.words image.hops
unfolding image said_by
built-A i = record {
  said = sym built_a i;
  words = (built list_a (replicate 21 0) (replicate 5 0)).words;
  hops = (built list_a (replicate 21 0)
      (replicate 5 0)).hops;
}
