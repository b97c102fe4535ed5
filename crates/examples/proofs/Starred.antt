-- The starred examples hold: the definitions give what the documents say. What is asked of a run is worked out on paper, and the rest is
-- computed.
use mathlib.Core.Path.{◌≡◌, refl, ◌∙◌, ap}
use mathlib.Core.Bool.{Bool, true, false, cond, ◌&&◌}
use mathlib.Core.List.{List, [], ◌∷◌}
use Prim.Native.Nat.{ℕ, ◌^◌}
use native.Mathlib.Nat.{zero-mul}
use native.Mathlib.Omega.{arith}
use lib.Dec.{ltb}
use lib.ListN.{get_or, length, drop, replicate, length-replicate}
use borrow.Author.Tests.{ltb-true, eq-eqb}
use Rattle.bits.specs.Slot.{cut}
use Rattle.bits.specs.Search.{first_from, first_of}
use Rattle.bits.specs.Tab.{tabulate}
use Rattle.bits.specs.Count.{count}
use Rattle.bits.proofs.Bools.{and_split}
use Rattle.standing.specs.Cells.{any, best, need}
use Rattle.standing.specs.Cells as cells
use Rattle.routes.specs.Record.{record_at, routes_of, no_route, routes_in}
use Rattle.routes.specs.Input.{proper_prefix, hop_fine, route_fault, in_order, fault_at, input_said}
use Rattle.routes.specs.Answers.{values_of}
use Rattle.routes.specs.Said.{Said, accepted, refused}
use Rattle.standing.specs.Standing.{insert, remove}
use Rattle.routes.specs.declared.Route.{Route}
use Rattle.sail.specs.Geometry.{standard_geo, bits2, bits3, valid_geo}
use Rattle.sail.specs.Level.{chunk_for, live_in, entry}
use Rattle.sail.specs.Lent.{Lent}
use Rattle.sail.specs.Sizes.{sizes_fit, sizes_fault, Sized}
use Rattle.standing.specs.Served.{hop_said}
use Rattle.sail.specs.declared.geometry.Geometry.{Geometry}
use Rattle.sail.specs.declared.table.Table.{Table}
use Rattle.sail_theory.specs.Render.{shown}
use Rattle.sail_theory.specs.Calls.{
  Terms,
  terms_of,
  grant,
  open_at,
  owners_after,
  keep,
  chunks_fault,
  announce_fault,
  withdraw_fault,
  load_fault,
  or_say,
  make_said,
  Out,
}
use Rattle.sail_theory.specs.CallRuns.{Call, after}
use Rattle.sail_theory.proofs.calls.Make.{make-is}
use Rattle.sail_theory.proofs.runs.AfterRun.{run_is, run_sound}
use Rattle.bits.specs.Bit.{packed_bits}
use Rattle.tree_image.specs.Parts.{picked, gather}
use Rattle.tree_image.specs.Image.{bit_hop, set_bit, word, kids, hops_of, level, up_to, words_from, words, image_by}
use Rattle.counts.specs.Counts.{how_many}
use Rattle.tree_image.specs.Image as of_image
use Rattle.tree_image.specs.Reads.{tree_reads}
use Rattle.tree_image.specs.Walk.{tree_hop_said}
use Rattle.tree_build.specs.Built.{made_of, built}
use Rattle.tree_build.proofs.Serves.{built-serves}
use Rattle.sail_theory.specs.Replies.{reply, stood}
use Rattle.sail_theory.proofs.runs.Replies.{run-says, run-stood}
use Rattle.routes.specs.ListA.{list_a}
use Rattle.examples.specs.Starred.{
  table,
  arrays,
  bare,
  image,
  Asked,
  last,
  lookup,
  report,
  listed,
  first,
  second,
  owner2,
  owner3,
  count1,
  count2,
  make,
  input,
  build,
  last_node,
  hops,
  tree,
  answer,
  starred,
}
use Rattle.examples.specs.Lines.{Hold}
use Rattle.examples.proofs.Lines.{all_serve, lines-hold}
use Rattle.examples.proofs.Paper.{
  Paper,
  paper_of,
  lookup_on,
  report_on,
  first_on,
  second_on,
  count1_on,
  count2_on,
  lookup-on,
  report-on,
  first_on_lem,
  second-on,
  count1-on,
  count2-on,
  owned_by,
  on_paper,
  run-paper,
}

-- what is lent has the right sizes
pub sized : Sized table.geometry arrays
unfolding table arrays
sized = record {
  valid = record { p1_low = omega arith; p1_high = omega arith; p2_low = omega arith; p2_high = omega arith; near = omega arith };
  whole = refl;
  room = omega arith;
  cells1 = length-replicate {A = ℕ} 65536 0;
  few2 = omega arith;
  cells2 = refl;
  few3 = omega arith;
  cells3 = refl;
  counts1 = length-replicate {A = ℕ} 65536 0;
  counts2 = refl;
}

abbrev terms : Terms
terms = terms_of table arrays

abbrev page : List Call → Paper
page cs = on_paper table arrays sized cs

-- the answers, worked out on paper
unfoldable paper : Asked → Said
paper (last []) = accepted []
paper (last (c ∷ cs)) = reply terms (stood terms cs) c
paper (lookup cs a) = lookup_on a (page cs)
paper (report cs) = report_on (page cs)
paper (listed cs k) = accepted (values_of (get_or (page cs).routes k no_route))
paper (first cs q) = accepted (first_on q (page cs) ∷ [])
paper (second cs q) = accepted (second_on q (page cs) ∷ [])
paper (owner2 cs c) = accepted (get_or (page cs).owners.own2 c 0 ∷ [])
paper (owner3 cs c) = accepted (get_or (page cs).owners.own3 c 0 ∷ [])
paper (count1 cs q) = accepted (count1_on q (page cs) ∷ [])
paper (count2 cs q) = accepted (count2_on q (page cs) ∷ [])
paper (make g) = cond (valid_geo g) (accepted []) (refused 1)
paper (input bytes) = input_said bytes
paper build = image.said
paper last_node = accepted (drop 18 image.words)
paper hops = accepted image.hops
paper (tree a) = hop_said (tree_reads (routes_in list_a) a) (best (routes_in list_a) 32 a)

-- where they serve: addresses of 32 bits, cells that are there and their counts, and second cells of a chunk in use
unfoldable serves : Asked → Bool
serves (last cs) = true
serves (lookup cs a) = ltb a (2 ^ 32)
serves (report cs) = true
serves (listed cs k) = true
serves (first cs q) = ltb q 65536
serves (second cs q) = ltb q 256 && live_in (entry (page cs).owners.own2) 8 q
serves (owner2 cs c) = true
serves (owner3 cs c) = true
serves (count1 cs q) = ltb q 65536
serves (count2 cs q) = ltb q 256
serves (make g) = true
serves (input bytes) = true
serves build = true
serves last_node = true
serves hops = true
serves (tree a) = ltb a (2 ^ 32)

-- runs
module _ (cs : List Call) where
  abbrev t : Table
  t = (after table arrays cs).table

  abbrev l : Lent
  l = (after table arrays cs).lent

  as_paper : paper_of t l ≡ page cs
  as_paper = run-paper table arrays sized cs

  lookup-agrees : (a : ℕ) → ltb a (2 ^ 32) ≡ true → answer (lookup cs a) ≡ paper (lookup cs a)
  unfolding answer paper
  lookup-agrees a e = lookup-on t l (run_sound table arrays sized cs) a (ltb-true a (2 ^ 32) e) ∙ ap (lookup_on a) as_paper

  report-agrees : answer (report cs) ≡ paper (report cs)
  unfolding answer paper
  report-agrees = report-on t l (run_sound table arrays sized cs) ∙ ap report_on as_paper

  listed-agrees : (k : ℕ) → answer (listed cs k) ≡ paper (listed cs k)
  unfolding answer paper
  listed-agrees k = ap (λ (p : Paper). accepted (values_of (get_or p.routes k no_route))) as_paper

  first-agrees : (q : ℕ) → ltb q 65536 ≡ true → answer (first cs q) ≡ paper (first cs q)
  unfolding answer paper table on_paper
  first-agrees q e =
      let n : t.geometry ≡ standard_geo = ap (λ (p : Paper). p.geometry) as_paper in
      ap (λ (v : ℕ). accepted (v ∷ [])) (first_on_lem t l (run_sound table arrays sized cs) q (rw n (ltb-true q 65536 e)) ∙ ap (first_on q) as_paper)

  second-agrees : (q : ℕ) → (ltb q 256 && live_in (entry (page cs).owners.own2) 8 q) ≡ true → answer (second cs q) ≡ paper (second cs q)
  unfolding answer paper table arrays on_paper
  second-agrees q e =
      let n : t.geometry ≡ standard_geo = ap (λ (p : Paper). p.geometry) as_paper in
      let o : l.own2 ≡ (page cs).owners.own2 = ap (λ (p : Paper). p.owners.own2) as_paper in
      let m : length l.own2 ≡ 1 = (run_is table arrays sized cs).size.chunks2 in
      let s = and_split (ltb q 256) (live_in (entry (page cs).owners.own2) 8 q) e in
      ap (λ (v : ℕ). accepted (v ∷ [])) (second-on t l (run_sound table arrays sized cs) q (rw (n, m) (ltb-true q 256 s.0)) (rw (n, o) s.1)
      ∙ ap (second_on q) as_paper)

  owner2-agrees : (c : ℕ) → answer (owner2 cs c) ≡ paper (owner2 cs c)
  unfolding answer paper
  owner2-agrees c = ap (λ (p : Paper). accepted (get_or p.owners.own2 c 0 ∷ [])) as_paper

  owner3-agrees : (c : ℕ) → answer (owner3 cs c) ≡ paper (owner3 cs c)
  unfolding answer paper
  owner3-agrees c = ap (λ (p : Paper). accepted (get_or p.owners.own3 c 0 ∷ [])) as_paper

  count1-agrees : (q : ℕ) → ltb q 65536 ≡ true → answer (count1 cs q) ≡ paper (count1 cs q)
  unfolding answer paper table on_paper
  count1-agrees q e =
      let n : t.geometry ≡ standard_geo = ap (λ (p : Paper). p.geometry) as_paper in
      ap (λ (v : ℕ). accepted (v ∷ [])) (count1-on t l (run_sound table arrays sized cs) q (rw n (ltb-true q 65536 e)) ∙ ap (count1_on q) as_paper)

  count2-agrees : (q : ℕ) → ltb q 256 ≡ true → answer (count2 cs q) ≡ paper (count2 cs q)
  unfolding answer paper table arrays on_paper
  count2-agrees q e =
      let n : t.geometry ≡ standard_geo = ap (λ (p : Paper). p.geometry) as_paper in
      let m : length l.own2 ≡ 1 = (run_is table arrays sized cs).size.chunks2 in
      ap (λ (v : ℕ). accepted (v ∷ [])) (count2-on t l (run_sound table arrays sized cs) q (rw (n, m) (ltb-true q 256 e)) ∙ ap (count2_on q) as_paper)

last-agrees : (cs : List Call) → answer (last cs) ≡ paper (last cs)
unfolding answer paper after
last-agrees [] = ap (λ (o : Out). o.said) (make-is table arrays sized)
last-agrees (c ∷ cs) = run-says table arrays sized c cs ∙ ap (λ (rs : List Route). reply terms rs c) (run-stood table arrays sized cs)

-- bare arrays have the right sizes in every geometry that is within the limits
make-agrees : (g : Geometry) → answer (make g) ≡ paper (make g)
unfolding answer paper make_said sizes_fault sizes_fit bare
make-agrees g = rw (length-replicate {A = ℕ} (2 ^ g.p1) 0, eq-eqb (2 ^ g.p1) (2 ^ g.p1) refl, zero-mul (2 ^ bits2 g), zero-mul (2 ^ bits3 g))
    (go (valid_geo g))
  where
    go : (b : Bool) → or_say (cond b 0 1) (accepted []) ≡ cond b (accepted []) (refused 1)
    go true = refl
    go false = refl

-- the build of list A is accepted
built-A : image.said ≡ accepted (7 ∷ 5 ∷ [])
unfolding image built made_of list_a input_said first_of first_from fault_at route_fault in_order proper_prefix hop_fine record_at cut routes_of tabulate any
    cells.first picked gather kids level up_to
built-A = refl

tree-agrees : (a : ℕ) → ltb a (2 ^ 32) ≡ true → answer (tree a) ≡ paper (tree a)
unfolding answer paper image tree_hop_said hop_said
tree-agrees a e = built-serves list_a (replicate 21 0) (replicate 5 0) (7 ∷ 5 ∷ []) a built-A (ltb-true a (2 ^ 32) e)

agrees : (q : Asked) → serves q ≡ true → answer q ≡ paper q
unfolding answer paper serves
agrees (last cs) e = last-agrees cs
agrees (lookup cs a) e = lookup-agrees cs a e
agrees (report cs) e = report-agrees cs
agrees (listed cs k) e = listed-agrees cs k
agrees (first cs q) e = first-agrees cs q e
agrees (second cs q) e = second-agrees cs q e
agrees (owner2 cs c) e = owner2-agrees cs c
agrees (owner3 cs c) e = owner3-agrees cs c
agrees (count1 cs q) e = count1-agrees cs q e
agrees (count2 cs q) e = count2-agrees cs q e
agrees (make g) e = make-agrees g
agrees (input bytes) e = refl
agrees build e = refl
agrees last_node e = refl
agrees hops e = refl
agrees (tree a) e = tree-agrees a e

serve-all : all_serve answer paper serves agrees starred ≡ true
unfolding all_serve serves starred on_paper owned_by stood reply input_said list_a first_of first_from fault_at route_fault in_order proper_prefix hop_fine
    record_at cut announce_fault load_fault chunks_fault arrays table routes_of tabulate need any insert owners_after open_at grant chunk_for
serve-all = refl

on-paper : Hold paper starred
unfolding Hold starred paper on_paper owned_by stood reply input_said list_a first_of first_from fault_at route_fault in_order proper_prefix hop_fine record_at
    cut announce_fault withdraw_fault load_fault chunks_fault arrays table routes_of tabulate need any how_many best cells.first insert remove owners_after
    open_at grant keep chunk_for shown hop_said valid_geo image built made_of count packed_bits picked gather bit_hop set_bit word kids hops_of level up_to
    words_from words of_image.hops image_by
on-paper = refl

pub starred-hold : Hold answer starred
starred-hold = lines-hold answer paper serves agrees starred serve-all on-paper
