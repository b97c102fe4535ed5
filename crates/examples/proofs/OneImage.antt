-- What meets the suppositions of the theorems on one image: two inputs that differ in a mark alone, two that differ in one hop, a run with a call that
-- is refused, and one with a call that is accepted.
use mathlib.Core.Path.{◌≡◌, refl, sym, ◌∙◌, ap}
use mathlib.Core.Bool.{true, false}
use mathlib.Core.List.{List, [], ◌∷◌, map}
use Prim.Native.Nat.{ℕ}
use native.Mathlib.Omega.{arith}
use lib.ListN.{replicate}
use Rattle.bits.specs.Search.{first_from, first_of}
use Rattle.bits.specs.Slot.{cut}
use Rattle.bits.specs.Tab.{tabulate}
use Rattle.routes.specs.Input.{proper_prefix, hop_fine, route_fault, in_order, fault_at, input_said}
use Rattle.routes.specs.Record.{record_at, routes_of, routes_in}
use Rattle.routes.specs.ListA.{list_a}
use Rattle.routes.specs.Route.{key_of, plain}
use Rattle.routes.specs.Said.{accepts}
use Rattle.routes.specs.declared.Route.{Route}
use Rattle.standing.specs.Cells.{any}
use Rattle.standing.specs.Cells as cells
use Rattle.standing.specs.Standing.{absent, stood, route_at}
use Rattle.tree_image.specs.Parts.{picked, gather}
use Rattle.tree_image.specs.Image.{kids, level, up_to}
use Rattle.tree_build.specs.Built.{made_of, built}
use Rattle.tree_same.specs.OneImage.{Builds, SameArrays}
use Rattle.tree_theory.specs.Changed.{unmarked_route, image_withdrawn}
use Rattle.tree_runs.specs.ImageRuns.{ImageCall, announce, withdraw, image_done, image_after, image_held_by_calls}
use Rattle.demands.proofs.OneImage.{one-image-plain, image-run-refused, runs-one-image-worked}
use Rattle.examples.specs.Lines.{ip}
use Rattle.examples.specs.EdgesTreeChanges.{image_in}
use Rattle.examples.proofs.TreeChanges.{built-39, added-A}

-- 10.0.0.0/8 with mark m, to hop h
abbrev one : ℕ → ℕ → List ℕ
one m h = 10 ∷ 0 ∷ 0 ∷ 0 ∷ 8 ∷ m ∷ 0 ∷ h ∷ []

-- nine words and one hop, with this in them
abbrev ws : ℕ → List ℕ
ws x = replicate 9 x

abbrev hs : ℕ → List ℕ
hs x = replicate 1 x

-- 10.0.0.0/8 to 20, the same attached, and to 21
three : Builds (one 0 20) (ws 0) (hs 0) 3 1 × Builds (one 1 20) (ws 7) (hs 7) 3 1 × Builds (one 0 21) (ws 8) (hs 8) 3 1
unfolding built made_of input_said first_of first_from fault_at route_fault in_order proper_prefix hop_fine record_at cut routes_of tabulate any cells.first
    picked gather kids level up_to
three = (record { said = refl }, record { said = refl }, record { said = refl })

abbrev to : ℕ → List Route
to h = record { addr = 167772160; len = 8; mark = 0; hop = h } ∷ []

-- the hop of the first route
first_hop : List Route → ℕ
first_hop [] = 0
first_hop (r ∷ rs) = r.hop

same-plain : map plain (routes_in (one 0 20)) ≡ map plain (routes_in (one 1 20))
unfolding routes_of record_at tabulate
same-plain = refl

to-20 : map plain (routes_in (one 0 20)) ≡ to 20
unfolding routes_of record_at tabulate
to-20 = refl

to-21 : map plain (routes_in (one 0 21)) ≡ to 21
unfolding routes_of record_at tabulate
to-21 = refl

-- a mark is not in the image
pub mark-aside : SameArrays (built (one 0 20) (ws 0) (hs 0)) (built (one 1 20) (ws 7) (hs 7))
mark-aside = (one-image-plain (one 0 20) (one 1 20) (ws 0) (hs 0) (ws 7) (hs 7) 3 1 3 1 three.0 three.1 refl refl).1 same-plain

-- a hop is
pub hop-apart : SameArrays (built (one 0 20) (ws 0) (hs 0)) (built (one 0 21) (ws 8) (hs 8)) → ⊥
unfolding first_hop
hop-apart e =
    let r = (one-image-plain (one 0 20) (one 0 21) (ws 0) (hs 0) (ws 8) (hs 8) 3 1 3 1 three.0 three.2 refl refl).0 e in
    let z : ◌≡◌ {A = ℕ} 20 21 = ap first_hop (sym to-20 ∙ r ∙ to-21) in
    omega arith

-- a withdrawal of length 33 is refused, and leaves both arrays
long-refused : accepts (image_after (one 0 20) (ws 0) (hs 0) (withdraw 0 33 ∷ [])).said ≡ false
unfolding image_after image_done image_withdrawn proper_prefix
long-refused = refl

pub refused-aside : SameArrays (image_after (one 0 20) (ws 0) (hs 0) (withdraw 0 33 ∷ [])) (image_after (one 0 20) (ws 0) (hs 0) [])
refused-aside = image-run-refused (one 0 20) (ws 0) (hs 0) 3 1 three.0 (withdraw 0 33) [] long-refused

-- ---- an accepted call: list A, and 192.0.2.0/24 announced on its image, which is another image then

abbrev ws₃₉ : List ℕ
ws₃₉ = replicate 39 0

abbrev hs₆ : List ℕ
hs₆ = replicate 6 0

built_a : Builds list_a ws₃₉ hs₆ 7 5
built_a = record { said = built-39 }

abbrev more : List ImageCall
more = announce (ip 192 0 2 0) 24 3 ∷ []

added : accepts (image_after list_a ws₃₉ hs₆ more).said ≡ true
unfolding image_after image_done image_in
added = ap accepts added-A

one_more : image_held_by_calls list_a ws₃₉ hs₆ more (key_of (ip 192 0 2 0) 24) ≡ stood (unmarked_route (ip 192 0 2 0) 24 3)
unfolding image_held_by_calls
one_more = rw added refl

none_before : image_held_by_calls list_a ws₃₉ hs₆ [] (key_of (ip 192 0 2 0) 24) ≡ absent
unfolding image_held_by_calls route_at list_a routes_of record_at tabulate
none_before = refl

pub more-apart : SameArrays (image_after list_a ws₃₉ hs₆ more) (image_after list_a ws₃₉ hs₆ []) → ⊥
more-apart e =
    let w = (runs-one-image-worked list_a ws₃₉ hs₆ 7 5 built_a list_a ws₃₉ hs₆ 7 5 built_a more [] refl refl).0 e (key_of (ip 192 0 2 0) 24) in
    let q : stood (unmarked_route (ip 192 0 2 0) 24 3) ≡ absent = sym one_more ∙ w ∙ none_before in
    let z : ◌≡◌ {A = ℕ} 0 1 = cc in
    omega arith
