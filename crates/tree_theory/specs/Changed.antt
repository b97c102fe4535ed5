-- Announce and withdraw on an image itself, as document 02 has them in m: the routes are those read out of it, and its words and hops then are
-- a fresh build of the routes then standing, into the same arrays. A refusal leaves both arrays as they were.
use Rattle.std.specs.Prelude.{Result, not, cond, List, ◌∷◌, ℕ, ◌/◌, ltb, length}
use Rattle.bits.specs.Count.{bit}
use Rattle.routes.specs.Input.{proper_prefix, hop_fine}
use Rattle.routes.specs.Route.{key_of, key}
use Rattle.refusals.specs.declared.Refusal.{Refusal}
use Rattle.routes.specs.Said.{Said, accepted, refused, refused_at, said_plainly}
use Rattle.routes.specs.declared.Route.{Route}
use Rattle.standing.specs.Standing.{stands, insert, remove}
use Rattle.tree_image.specs.Reads.{used_values}
use Rattle.tree_image.specs.declared.Used.{Used}
use Rattle.tree_build.specs.Built.{ImageOut, image_out, made_of}
use Rattle.tree_same.specs.Read.{reached, hop_place_at, path_of, bit_for}
use Rattle.tree_same.specs.Listed.{routes_held}
use Rattle.tree_formed.specs.WellFormed.{well_formed}
use Rattle.tree_theory.specs.declared.Announced.{Announced}
use Rattle.tree_theory.specs.declared.Change.{Change}
use Rattle.tree_theory.specs.declared.Change.TheVariants.{Added, Replaced}

-- document 01's number and values for each answer: 0 for added or 1 for replaced, then the nodes and the hops in use; or a refusal
abbrev pub change_number : Change → ℕ
change_number Added = 0
change_number Replaced = 1

abbrev pub announced_values : Announced → List ℕ
announced_values a = change_number a.change ∷ used_values a.used

abbrev pub means_tree_announced : Result Announced Refusal → Said
means_tree_announced = said_plainly announced_values

abbrev pub means_tree_withdrawn : Result Used Refusal → Said
means_tree_withdrawn = said_plainly used_values

-- the route of a prefix; a route of an image has no mark
abbrev pub unmarked_route : ℕ → ℕ → ℕ → Route
unmarked_route a len h = record { addr = a; len = len; mark = 0; hop = h }

-- what is said, with one value in front where it is accepted
abbrev pub in_front : ℕ → Said → Said
in_front v (accepted vs) = accepted (v ∷ vs)
in_front v (refused n) = refused n
in_front v (refused_at n k) = refused_at n k

abbrev pub saying : ℕ → ImageOut → ImageOut
saying v o = image_out (in_front v o.said) o.words o.hops

-- the route r put to the routes rs: 6 where more than 4,096 would stand; then as a build of the routes then standing, with 11 and 12
unfoldable pub put_to : List Route → Route → List ℕ → List ℕ → ImageOut
put_to rs r ws hs = cond (ltb 4096 (length (insert r rs))) (image_out (refused 6) ws hs) (saying (bit (stands (key r) rs)) (made_of (insert r rs) ws hs))

-- the prefix of the key k taken from them: 9 where it does not stand; then as a build of the routes then standing
unfoldable pub taken_from : List Route → ℕ → List ℕ → List ℕ → ImageOut
taken_from rs k ws hs = cond (stands k rs) (made_of (remove k rs) ws hs) (image_out (refused 9) ws hs)

-- the same of the routes that an image holds
abbrev pub image_put : List ℕ → List ℕ → ℕ → ℕ → ℕ → ImageOut
image_put ws hs a len h = put_to (routes_held ws hs) (unmarked_route a len h) ws hs

abbrev pub image_taken : List ℕ → List ℕ → ℕ → ℕ → ImageOut
image_taken ws hs a len = taken_from (routes_held ws hs) (key_of a len) ws hs

-- in order: the prefix (3, in its strict form), the hop (4), the image (13), and then the routes read out of it
unfoldable pub image_announced : List ℕ → List ℕ → ℕ → ℕ → ℕ → ImageOut
image_announced ws hs a len h =
    cond (not (proper_prefix a len)) (image_out (refused 3) ws hs)
    (cond (not (hop_fine h)) (image_out (refused 4) ws hs)
    (cond (not (well_formed ws hs)) (image_out (refused 13) ws hs)
    (image_put ws hs a len h)))

unfoldable pub image_withdrawn : List ℕ → List ℕ → ℕ → ℕ → ImageOut
image_withdrawn ws hs a len =
    cond (not (proper_prefix a len)) (image_out (refused 3) ws hs)
    (cond (not (well_formed ws hs)) (image_out (refused 13) ws hs)
    (image_taken ws hs a len))

-- the place of the hop of the prefix of length l whose bits are q
abbrev pub prefix_place : List ℕ → ℕ → ℕ → ℕ
prefix_place ws l q = hop_place_at ws (reached ws (l / 4) (path_of l q)) (bit_for l q)
