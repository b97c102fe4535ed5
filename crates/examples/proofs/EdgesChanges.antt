-- The refusals of the calls that change a table, at their limits. In blank memory they follow from the lengths; after a run from a fresh table
-- from the routes that stand, the room and the chunks lent.
use mathlib.Core.Path.{◌≡◌, refl, ◌∙◌, ap}
use mathlib.Core.Bool.{Bool, true}
use mathlib.Core.List.{List, [], ◌∷◌}
use Prim.Native.Nat.{ℕ}
use native.Mathlib.Omega.{arith}
use lib.Dec.{eqb}
use lib.ListN.{length}
use borrow.Author.Tests.{eqb-true}
use Rattle.bits.specs.Slot.{cut}
use Rattle.bits.specs.Search.{first_from, first_of}
use Rattle.bits.specs.Tab.{tabulate}
use Rattle.routes.specs.Record.{record_at, routes_of}
use Rattle.routes.specs.Input.{proper_prefix, hop_fine, route_fault, in_order, fault_at, input_said}
use Rattle.routes.specs.Said.{Said, accepted}
use Rattle.routes.specs.declared.Route.{Route}
use Rattle.standing.specs.Cells.{any, need}
use Rattle.standing.specs.Standing.{insert, remove}
use Rattle.sail.specs.Geometry.{valid_geo}
use Rattle.sail.specs.Sizes.{sizes_fit, Sized}
use Rattle.sail.specs.Sound.{standing, fresh_table}
use Rattle.sail.specs.declared.geometry.Geometry.{Geometry}
use Rattle.sail.proofs.Fitting.{Fault, fault-is}
use Rattle.sail_theory.specs.Calls.{Terms, Out, announce_fault, withdraw_fault, load_fault, chunks_fault}
use Rattle.sail_theory.specs.CallRuns.{Call, after}
use Rattle.sail_theory.proofs.calls.Make.{make-is}
use Rattle.sail_theory.proofs.runs.AfterRun.{run_is, run_sound}
use Rattle.sail_theory.specs.Replies.{reply, stood}
use Rattle.sail_theory.proofs.runs.Replies.{run-says, run-stood}
use Rattle.examples.specs.Lines.{Hold}
use Rattle.examples.specs.Blank as blank
use Rattle.examples.specs.Blank.{Lengths, zeros}
use Rattle.examples.specs.EdgesChanges.{blank_edges, Asked, last, report, answer, run_edges}
use Rattle.examples.proofs.Lines.{all_serve, lines-hold}
use Rattle.examples.proofs.Blank as of_blank
use Rattle.examples.proofs.Blank.{fault, terms, zeros-fault, zeros-terms}
use Rattle.examples.proofs.Paper.{report-on}

-- In blank memory.
blank-served : all_serve blank.answer of_blank.paper (λ q. true) (λ q e. of_blank.agrees q) blank_edges ≡ true
unfolding all_serve blank_edges
blank-served = refl

blank-on-paper : Hold of_blank.paper blank_edges
unfolding Hold blank_edges of_blank.paper valid_geo sizes_fit announce_fault withdraw_fault load_fault chunks_fault proper_prefix hop_fine cut input_said
    first_of first_from fault_at route_fault in_order record_at routes_of tabulate need any
blank-on-paper = refl

pub blank-hold : Hold blank.answer blank_edges
blank-hold = lines-hold blank.answer of_blank.paper (λ q. true) (λ q e. of_blank.agrees q) blank_edges blank-served blank-on-paper

-- After runs.
abbrev rs : Geometry → Lengths → List Call → List Route
rs g n cs = stood (terms g n) cs

unfoldable paper : Asked → Said
paper (last g n []) = accepted []
paper (last g n (c ∷ cs)) = reply (terms g n) (rs g n cs) c
paper (report g n cs) = accepted (length (rs g n cs) ∷ need (rs g n cs) g.p1 ∷ need (rs g n cs) g.p2 ∷ [])

unfoldable serves : Asked → Bool
serves (last g n cs) = eqb (fault g n) 0
serves (report g n cs) = eqb (fault g n) 0

sized : (g : Geometry) (n : Lengths) → eqb (fault g n) 0 ≡ true → Sized g (zeros n)
sized g n e = go (fault-is g (zeros n)) (zeros-fault g n ∙ eqb-true (fault g n) 0 e)
  where
    go : {m : ℕ} → Fault g (zeros n) m → m ≡ 0 → Sized g (zeros n)
    go (Fault.none z) q = z
    go (Fault.limits h) q = absurd (omega arith)
    go (Fault.size v h) q = absurd (omega arith)

stood-is : (g : Geometry) (n : Lengths) → Sized g (zeros n) → (cs : List Call)
    → standing (after (fresh_table g) (zeros n) cs).table (after (fresh_table g) (zeros n) cs).lent ≡ rs g n cs
stood-is g n z cs = run-stood (fresh_table g) (zeros n) z cs ∙ ap (λ (m : Terms). stood m cs) (zeros-terms g n)

last-agrees : (g : Geometry) (n : Lengths) → Sized g (zeros n) → (cs : List Call) → answer (last g n cs) ≡ paper (last g n cs)
unfolding answer paper after
last-agrees g n z [] = ap (λ (o : Out). o.said) (make-is (fresh_table g) (zeros n) z)
last-agrees g n z (c ∷ cs) = run-says (fresh_table g) (zeros n) z c cs ∙ rw (zeros-terms g n, stood-is g n z cs)

report-agrees : (g : Geometry) (n : Lengths) → Sized g (zeros n) → (cs : List Call) → answer (report g n cs) ≡ paper (report g n cs)
unfolding answer paper
report-agrees g n z cs =
    let w = run_is (fresh_table g) (zeros n) z cs in
    report-on (after (fresh_table g) (zeros n) cs).table (after (fresh_table g) (zeros n) cs).lent (run_sound (fresh_table g) (zeros n) z cs)
    ∙ rw (stood-is g n z cs, w.geometry)

agrees : (q : Asked) → serves q ≡ true → answer q ≡ paper q
unfolding serves
agrees (last g n cs) e = last-agrees g n (sized g n e) cs
agrees (report g n cs) e = report-agrees g n (sized g n e) cs

served : all_serve answer paper serves agrees run_edges ≡ true
unfolding all_serve run_edges serves valid_geo sizes_fit
served = refl

on-paper : Hold paper run_edges
unfolding Hold run_edges paper stood reply input_said first_of first_from fault_at route_fault in_order proper_prefix hop_fine record_at cut announce_fault
    withdraw_fault load_fault chunks_fault routes_of tabulate need any insert remove
on-paper = refl

pub runs-hold : Hold answer run_edges
runs-hold = lines-hold answer paper serves agrees run_edges served on-paper
