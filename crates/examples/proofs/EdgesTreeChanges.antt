-- Changes of an image at their limits. The routes read out of a built image are the input's, marks aside, so that what a change says and leaves is
-- computed from these.
use mathlib.Core.Path.{◌≡◌, refl, ap, ap₂, ◌∙◌}
use mathlib.Core.Bool.{Bool, true, not, cond, false≢true}
use mathlib.Core.List.{List, map}
use Prim.Native.Nat.{ℕ}
use lib.Count.{ones}
use lib.ListN.{replicate, length}
use Rattle.bits.specs.Bit.{packed_bits}
use Rattle.bits.specs.Count.{count}
use Rattle.bits.specs.Search.{first_from, first_of}
use Rattle.bits.specs.Slot.{cut}
use Rattle.bits.specs.Tab.{tabulate, every}
use Rattle.routes.specs.Input.{proper_prefix, hop_fine, route_fault, in_order, fault_at, input_said}
use Rattle.routes.specs.ListA.{list_a}
use Rattle.routes.specs.Record.{record_at, routes_of, routes_in}
use Rattle.routes.specs.Route.{key_of, plain}
use Rattle.routes.specs.Said.{Said, accepted, refused, accepts}
use Rattle.routes.specs.declared.Route.{Route}
use Rattle.standing.specs.Cells as cells
use Rattle.standing.specs.Standing.{insert, remove}
use Rattle.tree_image.specs.Image.{bit_hop, set_bit, word, kids, hops_of, level, up_to, words_from, words, image_by}
use Rattle.tree_image.specs.Image as of_image
use Rattle.tree_image.specs.Node.{sound}
use Rattle.tree_image.specs.Parts.{picked, gather}
use Rattle.tree_build.specs.Built.{ImageOut, image_out, made_of, built}
use Rattle.tree_build.proofs.Serves.{built-accepts}
use Rattle.tree_same.specs.Listed.{routes_held}
use Rattle.tree_same.specs.Order.{exts, ints}
use Rattle.tree_same.proofs.Same.{image-held}
use Rattle.tree_formed.specs.WellFormed.{nodes_used, ordered, all_from, node_ok, hops_ok, blank_from, well_formed}
use Rattle.tree_formed.proofs.Exact.{built-passes}
use Rattle.tree_theory.specs.Changed.{unmarked_route, put_to, taken_from, image_announced, image_withdrawn}
use Rattle.examples.specs.Lines.{Hold}
use Rattle.examples.specs.EdgesTreeChanges as changes
use Rattle.examples.specs.EdgesTreeChanges.{Change, put, take, changed, image_in, Asked, answer, edges}
use Rattle.examples.proofs.Lines.{all_serve, lines-hold}

-- a change of an image that holds the routes rs, worked out from them
unfoldable changed_by : List Route → List ℕ → List ℕ → Change → ImageOut
changed_by rs ws hs (put a len h) =
    cond (not (proper_prefix a len)) (image_out (refused 3) ws hs) (cond (not (hop_fine h)) (image_out (refused 4) ws hs) (put_to rs (unmarked_route a len h) ws hs))
changed_by rs ws hs (take a len) = cond (not (proper_prefix a len)) (image_out (refused 3) ws hs) (taken_from rs (key_of a len) ws hs)

abbrev after : List ℕ → ℕ → ℕ → Change → ImageOut
after i w h c = changed_by (map plain (routes_in i)) (image_in i w h).words (image_in i w h).hops c

unfoldable paper : Asked → Said
paper (changes.says i w h c) = (after i w h c).said
paper (changes.words_of i w h c) = accepted (after i w h c).words
paper (changes.hops_of i w h c) = accepted (after i w h c).hops
paper (changes.any ws hs c) = (changed ws hs c).said

unfoldable serves : Asked → Bool
serves (changes.says i w h c) = accepts (image_in i w h).said
serves (changes.words_of i w h c) = accepts (image_in i w h).said
serves (changes.hops_of i w h c) = accepts (image_in i w h).said
serves (changes.any ws hs c) = true

by-routes : (rs : List Route) (ws hs : List ℕ) (c : Change) → well_formed ws hs ≡ true → routes_held ws hs ≡ rs → changed ws hs c ≡ changed_by rs ws hs c
unfolding changed changed_by image_announced image_withdrawn
by-routes rs ws hs (put a len h) f e = rw f (ap (λ (x : List Route). changed_by x ws hs (put a len h)) e)
by-routes rs ws hs (take a len) f e = rw f (ap (λ (x : List Route). changed_by x ws hs (take a len)) e)

accepted_so : (s : Said) → accepts s ≡ true → (vs : List ℕ) × (s ≡ accepted vs)
accepted_so (accepted vs) e = (vs, refl)
accepted_so (Said.refused n) e = absurd (false≢true e)
accepted_so (Said.refused_at n k) e = absurd (false≢true e)

agree_after : (i : List ℕ) (w h : ℕ) (c : Change) → accepts (image_in i w h).said ≡ true → changed (image_in i w h).words (image_in i w h).hops c
    ≡ after i w h c
unfolding image_in
agree_after i w h c e =
    let v = accepted_so (built i (replicate w 0) (replicate h 0)).said e in
    let k = built-accepts i (replicate w 0) (replicate h 0) v.0 v.1 in
    by-routes (map plain (routes_in i)) _ _ c (built-passes i (replicate w 0) (replicate h 0) v.0 v.1)
    (ap₂ routes_held k.words k.hops ∙ image-held (routes_in i) (length (replicate w 0)) (length (replicate h 0)) k.good_routes k.nodes_room
    k.hops_room)

agrees : (q : Asked) → serves q ≡ true → answer q ≡ paper q
unfolding serves answer paper
agrees (changes.says i w h c) e = ap (λ (o : ImageOut). o.said) (agree_after i w h c e)
agrees (changes.words_of i w h c) e = ap (λ (o : ImageOut). accepted o.words) (agree_after i w h c e)
agrees (changes.hops_of i w h c) e = ap (λ (o : ImageOut). accepted o.hops) (agree_after i w h c e)
agrees (changes.any ws hs c) e = refl

served : all_serve answer paper serves agrees edges ≡ true
unfolding all_serve edges serves image_in list_a built made_of input_said first_of first_from fault_at route_fault in_order proper_prefix hop_fine record_at cut
    routes_of tabulate cells.any cells.first picked gather kids level up_to
served = refl

on-paper : Hold paper edges
unfolding Hold edges paper changed_by changed image_announced image_withdrawn put_to taken_from insert remove image_in list_a built made_of input_said first_of
    first_from fault_at route_fault in_order proper_prefix hop_fine record_at cut routes_of tabulate cells.any cells.first picked gather kids level up_to
    count packed_bits bit_hop set_bit word hops_of words_from words of_image.hops image_by ones sound well_formed ordered nodes_used exts ints every all_from
    node_ok hops_ok blank_from
on-paper = refl

pub tree-changes-hold : Hold answer edges
tree-changes-hold = lines-hold answer paper serves agrees edges served on-paper
