-- Announce and withdraw on an image itself (document 02, m), at their limits: what they say, and the words and the hops that they leave.
use Rattle.std.specs.Prelude.{List, [], ◌∷◌, ℕ, ◌+◌, ◌^◌, replicate}
use Rattle.routes.specs.ListA.{list_a}
use Rattle.routes.specs.Said.{Said, accepted, refused}
use Rattle.tree_build.specs.Built.{ImageOut, built}
use Rattle.tree_theory.specs.Changed.{image_announced, image_withdrawn}
use Rattle.examples.specs.Lines.{ip, Line, ◌gives◌}
use Rattle.examples.specs.EdgesInputs.{rec}

-- a change: a route to put in, or a prefix to take out
pub data Change : Type 0 where
  put : ℕ → ℕ → ℕ → Change
  take : ℕ → ℕ → Change

unfoldable pub changed : List ℕ → List ℕ → Change → ImageOut
changed ws hs (put a len h) = image_announced ws hs a len h
changed ws hs (take a len) = image_withdrawn ws hs a len

-- the image that an input builds into so many words and hops
unfoldable pub image_in : List ℕ → ℕ → ℕ → ImageOut
image_in input w h = built input (replicate w 0) (replicate h 0)

-- what a change of such an image says, and the words and the hops that it leaves; and what it says of words and hops of any content
pub data Asked : Type 0 where
  says : List ℕ → ℕ → ℕ → Change → Asked
  words_of : List ℕ → ℕ → ℕ → Change → Asked
  hops_of : List ℕ → ℕ → ℕ → Change → Asked
  any : List ℕ → List ℕ → Change → Asked

unfoldable pub answer : Asked → Said
answer (says i w h c) = (changed (image_in i w h).words (image_in i w h).hops c).said
answer (words_of i w h c) = accepted (changed (image_in i w h).words (image_in i w h).hops c).words
answer (hops_of i w h c) = accepted (changed (image_in i w h).words (image_in i w h).hops c).hops
answer (any ws hs c) = (changed ws hs c).said

-- a route on a path of its own
abbrev other : Change
other = put (ip 192 0 2 0) 24 3

unfoldable pub edges : List (Line Asked)
edges =
    -- added or replaced, with the nodes and the hops then; 11 for a node too few, 12 for a hop too few, 11 where both are; a replacement wants neither
    (says list_a 39 6 other gives accepted (0 ∷ 13 ∷ 6 ∷ []))
    ∷ (says list_a 38 6 other gives refused 11)
    ∷ (says list_a 39 5 other gives refused 12)
    ∷ (says list_a 38 5 other gives refused 11)
    ∷ (says list_a 21 5 (put 0 0 7) gives accepted (1 ∷ 7 ∷ 5 ∷ []))
    ∷ (says list_a 21 5 (put (ip 10 1 2 64) 26 9) gives refused 12)
    ∷ (says list_a 21 6 (put (ip 10 1 2 64) 26 9) gives accepted (0 ∷ 7 ∷ 6 ∷ []))
    -- "3 in its strict form", before 4; 4 on both sides
    ∷ (says list_a 39 6 (put (ip 10 1 2 3) 24 0) gives refused 3)
    ∷ (says list_a 39 6 (put (ip 10 1 2 0) 33 0) gives refused 3)
    ∷ (says list_a 39 6 (put (ip 10 1 2 0) 24 0) gives refused 4)
    ∷ (says list_a 39 6 (put (ip 10 1 2 0) 24 32768) gives refused 4)
    ∷ (says list_a 39 6 (put (ip 10 1 2 0) 24 32767) gives accepted (1 ∷ 7 ∷ 5 ∷ []))
    -- withdrawn; 9 where the prefix does not stand, 3 before it
    ∷ (says list_a 21 5 (take (ip 10 1 2 128) 25) gives accepted (7 ∷ 4 ∷ []))
    ∷ (says list_a 21 5 (take (ip 10 1 2 128) 26) gives refused 9)
    ∷ (says list_a 21 5 (take (ip 192 0 2 0) 24) gives refused 9)
    ∷ (says list_a 21 5 (take (ip 192 0 2 1) 24) gives refused 3)
    ∷ (says list_a 21 5 (take 0 33) gives refused 3)
    -- "13 for an image not well formed": after 3 and 4, before 9, 11 and 12
    ∷ (any (1 ∷ 2 ∷ 0 ∷ []) (7 ∷ []) (put (ip 10 1 2 3) 24 0) gives refused 3)
    ∷ (any (1 ∷ 2 ∷ 0 ∷ []) (7 ∷ []) (put (ip 10 1 2 0) 24 0) gives refused 4)
    ∷ (any (1 ∷ 2 ∷ 0 ∷ []) (7 ∷ []) (put (ip 10 1 2 0) 24 1) gives refused 13)
    ∷ (any (1 ∷ 2 ∷ 0 ∷ []) (7 ∷ []) (put 0 0 1) gives refused 13)
    ∷ (any (1 ∷ 2 ∷ 0 ∷ []) (7 ∷ []) (take (ip 10 1 2 3) 24) gives refused 3)
    ∷ (any (1 ∷ 2 ∷ 0 ∷ []) (7 ∷ []) (take (ip 10 1 2 0) 24) gives refused 13)
    ∷ (any [] [] (put 0 0 1) gives refused 13)
    -- "its words and hops then equal a fresh build, into the same arrays": 10.1.2.200/32 to 70 brings two nodes at the end
    ∷ (words_of list_a 28 7 (put (ip 10 1 2 200) 32 70)
    gives accepted ((2 ^ 16 + 1) ∷ 1 ∷ 0 ∷ 2 ^ 26 ∷ 2 ∷ 1 ∷ (2 ^ 16 + 1) ∷ 3 ∷ 1 ∷ 2 ^ 17 ∷ 4 ∷ 2 ∷ (2 ^ 16 + 1) ∷ 5 ∷ 2 ∷ 2 ^ 18 ∷ 6 ∷ 3 ∷
    (2 ^ 28 + 5) ∷ 7 ∷ 3 ∷ 2 ^ 24 ∷ 8 ∷ 5 ∷ 1 ∷ 9 ∷ 5 ∷ 0 ∷ []))
    ∷ (hops_of list_a 28 7 (put (ip 10 1 2 200) 32 70) gives accepted (6 ∷ 20 ∷ 31 ∷ 44 ∷ 57 ∷ 70 ∷ 0 ∷ []))
    -- a hop put in early: those after it move, and the hop bases after its node are one more
    ∷ (hops_of list_a 21 6 (put 0 1 9) gives accepted (6 ∷ 9 ∷ 20 ∷ 31 ∷ 44 ∷ 57 ∷ []))
    ∷ (words_of (rec 0 0 0 0 0 0 6) 7 2 (put 0 4 8) gives accepted ((2 ^ 16 + 1) ∷ 1 ∷ 0 ∷ 1 ∷ 2 ∷ 1 ∷ 0 ∷ []))
    -- taken out, with the nodes of its path that nothing else needs
    ∷ (words_of (rec 10 0 0 0 8 0 20) 10 2 (take (ip 10 0 0 0) 8) gives accepted (0 ∷ 1 ∷ 0 ∷ 0 ∷ 0 ∷ 0 ∷ 0 ∷ 0 ∷ 0 ∷ 0 ∷ []))
    ∷ (hops_of (rec 10 0 0 0 8 0 20) 10 2 (take (ip 10 0 0 0) 8) gives accepted (0 ∷ 0 ∷ []))
    -- the mark of an input is in no image
    ∷ (says (rec 10 0 0 0 8 1 20) 9 1 (put (ip 10 0 0 0) 8 20) gives accepted (1 ∷ 3 ∷ 1 ∷ []))
    -- a refusal leaves both
    ∷ (words_of (rec 0 0 0 0 0 0 6) 3 1 (put 0 4 8) gives accepted (1 ∷ 1 ∷ 0 ∷ []))
    ∷ (hops_of (rec 0 0 0 0 0 0 6) 3 1 (take 0 1) gives accepted (6 ∷ []))
    ∷ []
