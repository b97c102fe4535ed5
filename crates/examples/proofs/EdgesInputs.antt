-- Record inputs at their limits: short ones are computed, those of thousands of records go by law.
use mathlib.Core.Path.{◌≡◌, refl, ◌∙◌, ap}
use mathlib.Core.Logic.{◌⊎◌, inl, inr}
use mathlib.Core.Bool.{Bool, true, cond, ◌&&◌}
use mathlib.Core.List.{List, [], ◌∷◌}
use Prim.Native.Nat.{ℕ, ◌/◌, ◌≤◌, ◌<◌}
use native.Mathlib.Omega.{arith}
use lib.Dec.{ltb, leb}
use lib.ListN.{length, replicate}
use borrow.Author.Tests.{ltb-true, leb-true, lt-leb, le-leb, le-ltb}
use Rattle.bits.specs.Slot.{cut}
use Rattle.bits.specs.Search.{first_from, first_of}
use Rattle.bits.specs.Tab.{tabulate}
use Rattle.bits.specs.Count.{count}
use Rattle.bits.proofs.Bools.{and_split, below?}
use Rattle.routes.specs.Record.{record_at}
use Rattle.routes.specs.Input.{proper_prefix, hop_fine, route_fault, in_order, fault_at, input_said}
use Rattle.routes.specs.Answers.{route_said}
use Rattle.routes.specs.Said.{Said, accepted, refused, refused_at, and_then}
use Rattle.routes.specs.declared.Route.{Route}
use Rattle.routes.proofs.Rows.{length-routes}
use Rattle.standing.specs.Cells.{need}
use Rattle.lists.specs.Place.{place_of}
use Rattle.runs.specs.Run.{run_said}
use Rattle.runs.specs.Tally.{lengths_of, tally_of}
use Rattle.sail.specs.Geometry.{standard_geo, valid_geo}
use Rattle.sail.specs.Sizes.{sizes_fit}
use Rattle.sail_theory.specs.Calls.{or_say, load_fault, chunks_fault, input_routes}
use Rattle.tree_build.specs.Built.{after_input, built}
use Rattle.examples.specs.Lines.{Hold}
use Rattle.examples.specs.Blank as blank
use Rattle.examples.specs.Blank.{lengths}
use Rattle.examples.specs.EdgesInputs.{many, Asked, check, route, run, tally, answer, edges}
use Rattle.examples.specs.EdgesInputs.{check_many, check_zeros, route_many, run_many, tally_many, load_many, build_many}
use Rattle.examples.proofs.Lines.{all_serve, lines-hold}
use Rattle.examples.proofs.Blank as of_blank
use Rattle.examples.proofs.Many.{many-length, many-said, many-good, many-over, many-need, zeros-said}

unfoldable paper : Asked → Said
paper (check s) = input_said s
paper (route s k) = route_said s k
paper (run s a len) = run_said s a len
paper (tally s) = accepted (tally_of s)
paper (check_many n) = cond (leb n 4096) (accepted (n ∷ [])) (refused 6)
paper (check_zeros n) = refused_at 4 0
paper (route_many n k) = refused 6
paper (run_many n a len) = refused 6
paper (tally_many n) = accepted (replicate 33 0)
paper (load_many n) = cond (leb n 4096) (accepted []) (refused 6)
paper (build_many n) = refused 6

-- too many, but not so many that there are no such prefixes
abbrev over : ℕ → Bool
over n = ltb 4096 n && leb n 65536

unfoldable serves : Asked → Bool
serves (check s) = true
serves (route s k) = true
serves (run s a len) = true
serves (tally s) = true
serves (check_many n) = leb n 65536
serves (check_zeros n) = ltb 0 n
serves (route_many n k) = over n
serves (run_many n a len) = over n
serves (tally_many n) = over n
serves (load_many n) = leb n 65536
serves (build_many n) = over n

over-said : (n : ℕ) → over n ≡ true → input_said (many n) ≡ refused 6
over-said n e = let s = and_split (ltb 4096 n) (leb n 65536) e in many-over n (leb-true n 65536 s.1) (ltb-true 4096 n s.0)

-- the load of many: room for 4,096 records, and no chunk is needed
many-routes : (n : ℕ) → n ≤ 65536 → length (input_routes (many n)) ≡ n
many-routes n few = length-routes (many n) (length (many n) / 8) ∙ (let e = many-length n few in omega arith)

on-load : (n : ℕ) → n ≤ 65536 → of_blank.paper (blank.load standard_geo (lengths 32768 65536 0 0 0 0) (many n)) ≡ paper (load_many n)
unfolding of_blank.paper paper valid_geo sizes_fit load_fault chunks_fault
on-load n few = go (below? 4096 n)
  where
    rs : List Route
    rs = input_routes (many n)

    go : (4096 < n) ⊎ (n ≤ 4096)
        → and_then (input_said (many n)) (or_say (cond (ltb 4096 (length rs)) 6 (cond (ltb 0 (need rs 16)) 7 (cond (ltb 0 (need rs 24)) 8 0))) (accepted []))
        ≡ cond (leb n 4096) (accepted []) (refused 6)
    go (inl h) = rw (many-over n few h, lt-leb n 4096 h)
    go (inr h) = rw (many-good n few h, le-leb n 4096 h, many-routes n few, le-ltb 4096 n h, many-need n 16 few (omega arith), many-need n 24 few (omega arith))

load-agrees : (n : ℕ) → n ≤ 65536 → answer (load_many n) ≡ paper (load_many n)
unfolding answer blank.answer
load-agrees n few = of_blank.agrees (blank.load standard_geo (lengths 32768 65536 0 0 0 0) (many n)) ∙ on-load n few

agrees : (q : Asked) → serves q ≡ true → answer q ≡ paper q
unfolding answer paper serves route_said run_said tally_of built
agrees (check s) e = refl
agrees (route s k) e = refl
agrees (run s a len) e = refl
agrees (tally s) e = refl
agrees (check_many n) e = many-said n (leb-true n 65536 e)
agrees (check_zeros n) e = zeros-said n (ltb-true 0 n e)
agrees (route_many n k) e = rw (over-said n e)
agrees (run_many n a len) e = rw (over-said n e)
agrees (tally_many n) e = rw (over-said n e)
agrees (load_many n) e = load-agrees n (leb-true n 65536 e)
agrees (build_many n) e = ap (λ (x : Said). (after_input x (many n) [] []).said) (over-said n e)

served : all_serve answer paper serves agrees edges ≡ true
unfolding all_serve edges serves
served = refl

on-paper : Hold paper edges
unfolding Hold edges paper input_said first_of first_from fault_at route_fault in_order proper_prefix hop_fine record_at cut route_said run_said place_of tally_of
    lengths_of tabulate count
on-paper = refl

pub inputs-hold : Hold answer edges
inputs-hold = lines-hold answer paper serves agrees edges served on-paper
