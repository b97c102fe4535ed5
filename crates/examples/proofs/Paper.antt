-- A table on paper: its geometry, its routes and its owners. After a run they follow from the calls alone, and all that is asked of a sound
-- table follows from them. So no cell array is ever computed.
use mathlib.Core.Path.{◌≡◌, refl, sym, ◌∙◌, ap}
use mathlib.Core.Bool.{Bool, true, false, cond}
use mathlib.Core.Logic.{◌⊎◌, inl, inr}
use mathlib.Core.List.{List, [], ◌∷◌}
use Prim.Native.Nat.{ℕ, ◌*◌, ◌^◌, ◌<◌}
use lib.ListN.{get_or, length}
use Rattle.bits.specs.Slot.{cut}
use Rattle.routes.specs.Route.{key_of}
use Rattle.standing.specs.Cells.{best, need}
use Rattle.routes.specs.Said.{Said, accepted, refused, refused_at, accepts}
use Rattle.standing.specs.Standing.{remove}
use Rattle.routes.specs.declared.Route.{Route}
use Rattle.routes.proofs.Rows.{length-routes}
use Rattle.counts.specs.Counts.{how_many}
use Rattle.bits.proofs.Bools.{decided}
use Rattle.sail.specs.Geometry.{bits2}
use Rattle.sail.specs.Lent.{Lent}
use Rattle.sail.specs.Level.{Level, live_in, entry, chunks_of, level1, level2}
use Rattle.sail.specs.Sizes.{Sized}
use Rattle.sail.specs.Sound.{Sound, standing, cells_read, fresh_lent}
use Rattle.standing.specs.Served.{hop_said}
use Rattle.sail.specs.Walk.{lookup_said}
use Rattle.sail.specs.declared.geometry.Geometry.{Geometry}
use Rattle.sail.specs.declared.table.Table.{Table}
use Rattle.sail.proofs.Sounds.{sail-serves}
use Rattle.sail_theory.specs.Render.{shown}
use Rattle.sail_theory.specs.Calls.{
  Owners,
  opened,
  owners_after,
  owners_kept,
  owners_of,
  no_owners,
  terms_of,
  announce_said,
  withdraw_said,
  load_said,
  input_routes,
  Out,
  leaving,
  adding,
  taking,
  cut_route,
  cleared,
  out_with_flag,
  announced,
  withdrawn,
  loaded,
  reported,
}
use Rattle.sail_theory.specs.CallRuns.{Call, announce, withdraw, load, done, after, routes_after}
use Rattle.sail_theory.specs.Cases.{Report}
use Rattle.sail_theory.proofs.calls.OneCase.{report-only}
use Rattle.sail_theory.proofs.calls.Make.{make-is}
use Rattle.sail_theory.proofs.places.Pools.{shows-shown}
use Rattle.sail_theory.proofs.calls.Cleared.{telling-accepts}
use Rattle.sail_theory.proofs.runs.AfterRun.{run_is}
use Rattle.sail_theory.specs.Replies.{reply, stood}
use Rattle.sail_theory.proofs.runs.Replies.{run-says, run-stood}

pub record Paper : Type 0 where
  pub geometry : Geometry
  pub routes : List Route
  pub owners : Owners

abbrev pub paper_of : Table → Lent → Paper
paper_of t l = record { geometry = t.geometry; routes = standing t l; owners = owners_of l }

-- what is asked of it
abbrev pub lookup_on : ℕ → Paper → Said
lookup_on a p = hop_said (cells_read p.geometry p.routes a) (best p.routes 32 a)

abbrev pub report_on : Paper → Said
report_on p = accepted (length p.routes ∷ need p.routes p.geometry.p1 ∷ need p.routes p.geometry.p2 ∷ [])

abbrev pub first_on : ℕ → Paper → ℕ
first_on q p = shown p.routes (level1 p.geometry) (chunks_of p.owners.own2) q

abbrev pub second_on : ℕ → Paper → ℕ
second_on q p = shown p.routes (level2 p.geometry (chunks_of p.owners.own2)) (chunks_of p.owners.own3) q

-- the counts at a first cell, and at a place of the second pool
abbrev pub count1_on : ℕ → Paper → ℕ
count1_on q p = how_many p.routes p.geometry.p1 q

abbrev pub count2_on : ℕ → Paper → ℕ
count2_on q p =
    let v : Level = level2 p.geometry (chunks_of p.owners.own2) in
    cond (v.live q) (how_many p.routes p.geometry.p2 (v.at q)) 0

module _ (t : Table) (l : Lent) (s : Sound t l) where
  pub lookup-on : (a : ℕ) → a < 2 ^ 32 → lookup_said t l a ≡ lookup_on a (paper_of t l)
  lookup-on = sail-serves t l s

  pub report-on : reported t l ≡ report_on (paper_of t l)
  report-on = report-only t l _ (Report.counts s) ∙ ap
      (λ (n : ℕ). accepted (n ∷ need (standing t l) t.geometry.p1 ∷ need (standing t l) t.geometry.p2 ∷ []))
      (sym (length-routes l.list t.count))

  pub first_on_lem : (q : ℕ) → q < 2 ^ t.geometry.p1 → get_or l.first q 0 ≡ first_on q (paper_of t l)
  first_on_lem q h = shows-shown (standing t l) (level1 t.geometry) (chunks_of l.own2) (entry l.first) s.serves.first q h refl

  pub second-on : (q : ℕ) → q < length l.own2 * 2 ^ bits2 t.geometry → live_in (entry l.own2) (bits2 t.geometry) q ≡ true → get_or
      l.second q 0 ≡ second_on q (paper_of t l)
  second-on q h e = shows-shown (standing t l) (level2 t.geometry (chunks_of l.own2)) (chunks_of l.own3) (entry l.second) s.serves.second q h e

  pub count1-on : (q : ℕ) → q < 2 ^ t.geometry.p1 → get_or l.long1 q 0 ≡ count1_on q (paper_of t l)
  count1-on q h = s.counted1.true_there q h refl

  pub count2-on : (q : ℕ) → q < length l.own2 * 2 ^ bits2 t.geometry → get_or l.long2 q 0 ≡ count2_on q (paper_of t l)
  count2-on q h = go (decided ((level2 t.geometry (chunks_of l.own2)).live q))
    where
      v : Level
      v = level2 t.geometry (chunks_of l.own2)

      go : (v.live q ≡ true) ⊎ (v.live q ≡ false) → get_or l.long2 q 0 ≡ cond (v.live q) (how_many (standing t l) t.geometry.p2 (v.at q)) 0
      go (inl e) = rw e (s.counted2.true_there q h e)
      go (inr e) = rw e (s.counted2.blank q h e)

-- the owners after an accepted call, where the routes rs stand with the owners o; `none` are the owners of a fresh table
abbrev owned : Geometry → Owners → Call → List Route → Owners → Owners
owned g none (announce r) rs o = opened g o (cut_route r)
owned g none (withdraw a len) rs o = owners_kept g (remove (key_of (cut len a) len) rs) o
owned g none (load input) rs o = owners_after g none (input_routes input)

-- a call leaves these owners where it is accepted, and else those that were
leaves-owners : (s : Said) (t : Table) (l : Lent) (rs : List Route) (o : Owners) → owners_of (leaving s t l rs o).lent ≡ cond
    (accepts (leaving s t l rs o).said) o (owners_of l)
leaves-owners (accepted vs) t l rs o = refl
leaves-owners (refused n) t l rs o = refl
leaves-owners (refused_at n k) t l rs o = refl

-- whether bits were cleared is told beside it
told-owners : (b : Bool) (s : Said) (t : Table) (l : Lent) (rs : List Route) (o : Owners)
    → owners_of (leaving s t l rs o).lent ≡ cond (accepts (out_with_flag b (leaving s t l rs o)).said) o (owners_of l)
told-owners b s t l rs o = leaves-owners s t l rs o ∙ ap (λ (c : Bool). cond c o (owners_of l)) (sym (telling-accepts b (leaving s t l rs o).said))

done-owners : (t : Table) (l : Lent) (c : Call) → owners_of (done t l c).lent ≡ cond (accepts (done t l c).said)
    (owned t.geometry (no_owners l) c (standing t l) (owners_of l)) (owners_of l)
unfolding done announced adding withdrawn taking loaded
done-owners t l (announce r) =
    told-owners (cleared r.len r.addr) (announce_said t l (cut_route r)) t l (routes_after (announce r) (standing t l))
    (owned t.geometry (no_owners l) (announce r) (standing t l) (owners_of l))
done-owners t l (withdraw a len) =
    told-owners (cleared len a) (withdraw_said t l (cut len a) len) t l (routes_after (withdraw a len) (standing t l))
    (owned t.geometry (no_owners l) (withdraw a len) (standing t l) (owners_of l))
done-owners t l (load input) = leaves-owners (load_said t l input) t l (routes_after (load input) (standing t l))
    (owned t.geometry (no_owners l) (load input) (standing t l) (owners_of l))

module _ (t : Table) (l : Lent) (z : Sized t.geometry l) where
  -- the owners after a run
  unfoldable pub owned_by : List Call → Owners
  owned_by [] = no_owners l
  owned_by (c ∷ cs) = cond (accepts (reply (terms_of t l) (stood (terms_of t l) cs) c))
      (owned t.geometry (no_owners l) c (stood (terms_of t l) cs) (owned_by cs)) (owned_by cs)

  fresh-owners : owners_of (after t l []).lent ≡ no_owners l
  unfolding after fresh_lent
  fresh-owners = ap (λ (o : Out). owners_of o.lent) (make-is t l z)

  next-owners : (c : Call) (cs : List Call) → owners_of (after t l (c ∷ cs)).lent
      ≡ cond (accepts (after t l (c ∷ cs)).said) (owned (after t l cs).table.geometry (no_owners (after t l cs).lent) c
      (standing (after t l cs).table (after t l cs).lent) (owners_of (after t l cs).lent)) (owners_of (after t l cs).lent)
  unfolding after
  next-owners c cs = done-owners (after t l cs).table (after t l cs).lent c

  run-owners : (cs : List Call) → owners_of (after t l cs).lent ≡ owned_by cs
  unfolding owned_by
  run-owners [] = fresh-owners
  run-owners (c ∷ cs) =
      let w = run_is t l z cs in
      next-owners c cs
      ∙ rw (run-says t l z c cs, run-stood t l z cs, w.geometry, w.size.chunks2, w.size.chunks3, run-owners cs)

  -- the table on paper after a run
  unfoldable pub on_paper : List Call → Paper
  on_paper cs = record { geometry = t.geometry; routes = stood (terms_of t l) cs; owners = owned_by cs }

  pub run-paper : (cs : List Call) → paper_of (after t l cs).table (after t l cs).lent ≡ on_paper cs
  unfolding on_paper
  run-paper cs =
      let g = (run_is t l z cs).geometry in
      let r = run-stood t l z cs in
      let o = run-owners cs in
      λ i. record { geometry = g i; routes = r i; owners = o i }
