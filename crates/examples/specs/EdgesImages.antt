-- Lookups in images of any content, each way a walk can end; builds at the limits of what is lent; and the test of an image (document 02, m), each
-- thing that it asks for on both sides.
use Rattle.std.specs.Prelude.{List, [], ◌∷◌, ◌++◌, ℕ, ◌+◌, ◌^◌}
use Rattle.routes.specs.Said.{Said, accepted, refused, refused_at, hop_after, no_route_after}
use Rattle.tree_image.specs.Walk.{tree_said}
use Rattle.tree_build.specs.Built.{built}
use Rattle.tree_formed.specs.Answers.{tested}
use Rattle.examples.specs.Lines.{ip, Line, ◌gives◌}
use Rattle.examples.specs.EdgesInputs.{rec}

-- a lookup; what a build says; the words and the hops that it leaves; what the test says
pub data Asked : Type 0 where
  tree : List ℕ → List ℕ → ℕ → Asked
  build : List ℕ → List ℕ → List ℕ → Asked
  words_of : List ℕ → List ℕ → List ℕ → Asked
  hops_of : List ℕ → List ℕ → List ℕ → Asked
  test : List ℕ → List ℕ → Asked

unfoldable pub answer : Asked → Said
answer (tree words hops a) = tree_said words hops a
answer (build input words hops) = (built input words hops).said
answer (words_of input words hops) = accepted (built input words hops).words
answer (hops_of input words hops) = accepted (built input words hops).hops
answer (test words hops) = tested words hops

-- the eight nodes above depth 8 on the path of 0.0.0.0, each with one child; and one more
abbrev path : List ℕ → List ℕ
path last = 65536 ∷ 1 ∷ 0 ∷ 65536 ∷ 2 ∷ 0 ∷ 65536 ∷ 3 ∷ 0 ∷ 65536 ∷ 4 ∷ 0 ∷ 65536 ∷ 5 ∷ 0 ∷ 65536 ∷ 6 ∷ 0 ∷ 65536 ∷ 7 ∷ 0 ∷ 65536 ∷ 8 ∷ 0 ∷ last

unfoldable pub edges : List (Line Asked)
edges =
    -- 13 where no root is lent whole; the count is that of the nodes read, and one more where a hop is answered (document 02, c)
    (tree [] [] 0 gives refused 13)
    ∷ (tree (0 ∷ 0 ∷ []) [] 0 gives refused 13)
    ∷ (tree (0 ∷ 0 ∷ 0 ∷ []) [] 0 gives no_route_after 1)
    -- bit 15
    ∷ (tree (32768 ∷ 0 ∷ 0 ∷ []) [] 0 gives refused 13)
    ∷ (tree (16384 ∷ 0 ∷ 0 ∷ []) [] 0 gives no_route_after 1)
    -- a child beyond what is lent, and the last that is
    ∷ (tree (65536 ∷ 1 ∷ 0 ∷ []) [] 0 gives refused 13)
    ∷ (tree (65536 ∷ 1 ∷ 0 ∷ 0 ∷ 0 ∷ 0 ∷ []) [] 0 gives no_route_after 2)
    ∷ (tree (65536 ∷ 2 ∷ 0 ∷ 0 ∷ 0 ∷ 0 ∷ []) [] 0 gives refused 13)
    -- "at the child base plus the number of ones below its extending bit": 192.0.2.1 begins with 12
    ∷ (tree ((65536 + 2 ^ 28) ∷ 1 ∷ 0 ∷ 0 ∷ 0 ∷ 0 ∷ 1 ∷ 0 ∷ 0 ∷ []) (7 ∷ []) (ip 192 0 2 1) gives hop_after 3 7)
    ∷ (tree ((65536 + 2 ^ 28) ∷ 1 ∷ 0 ∷ 0 ∷ 0 ∷ 0 ∷ 1 ∷ 0 ∷ 0 ∷ []) (7 ∷ []) (ip 10 0 2 1) gives no_route_after 2)
    -- "Its bit is 2^j - 1 + v", the longest first; "hops likewise"
    ∷ (tree (1 ∷ 0 ∷ 0 ∷ []) (7 ∷ []) (ip 192 0 2 1) gives hop_after 2 7)
    ∷ (tree ((1 + 2 ^ 2) ∷ 0 ∷ 0 ∷ []) (7 ∷ 8 ∷ []) (ip 192 0 2 1) gives hop_after 2 8)
    ∷ (tree ((1 + 2 ^ 2 + 2 ^ 6) ∷ 0 ∷ 0 ∷ []) (7 ∷ 8 ∷ 9 ∷ []) (ip 192 0 2 1) gives hop_after 2 9)
    ∷ (tree ((1 + 2 ^ 2 + 2 ^ 6 + 2 ^ 13) ∷ 0 ∷ 0 ∷ []) (7 ∷ 8 ∷ 9 ∷ 10 ∷ []) (ip 192 0 2 1) gives hop_after 2 10)
    ∷ (tree ((1 + 2 ^ 1 + 2 ^ 5 + 2 ^ 12) ∷ 0 ∷ 0 ∷ []) (7 ∷ 8 ∷ 9 ∷ 10 ∷ []) (ip 192 0 2 1) gives hop_after 2 7)
    -- a hop beyond what is lent, and the last that is; hops of 1 to 32,767; only that of the deepest match is read
    ∷ (tree (1 ∷ 0 ∷ 0 ∷ []) [] 0 gives refused 13)
    ∷ (tree (1 ∷ 0 ∷ 1 ∷ []) (7 ∷ []) 0 gives refused 13)
    ∷ (tree (1 ∷ 0 ∷ 1 ∷ []) (7 ∷ 8 ∷ []) 0 gives hop_after 2 8)
    ∷ (tree (1 ∷ 0 ∷ 0 ∷ []) (0 ∷ []) 0 gives refused 13)
    ∷ (tree (1 ∷ 0 ∷ 0 ∷ []) (1 ∷ []) 0 gives hop_after 2 1)
    ∷ (tree (1 ∷ 0 ∷ 0 ∷ []) (32767 ∷ []) 0 gives hop_after 2 32767)
    ∷ (tree (1 ∷ 0 ∷ 0 ∷ []) (32768 ∷ []) 0 gives refused 13)
    ∷ (tree (3 ∷ 0 ∷ 0 ∷ []) (0 ∷ 7 ∷ []) 0 gives hop_after 2 7)
    -- "all nodes are read first": a broken child, though a hop is there above it
    ∷ (tree (65537 ∷ 1 ∷ 0 ∷ 32768 ∷ 0 ∷ 0 ∷ []) (7 ∷ []) 0 gives refused 13)
    ∷ (tree (65537 ∷ 1 ∷ 0 ∷ 0 ∷ 0 ∷ 0 ∷ []) (7 ∷ []) 0 gives hop_after 3 7)
    -- "At depth 8 only internal bit 0 and bit 15 are looked at": 9 nodes
    ∷ (tree (path (1 ∷ 0 ∷ 0 ∷ [])) (7 ∷ []) 0 gives hop_after 10 7)
    ∷ (tree (path (65537 ∷ 0 ∷ 0 ∷ [])) (7 ∷ []) 0 gives hop_after 10 7)
    ∷ (tree (path ((2 ^ 15 + 1) ∷ 0 ∷ 0 ∷ [])) (7 ∷ []) 0 gives refused 13)
    ∷ (tree (path ((2 + 2 ^ 3 + 2 ^ 7) ∷ 0 ∷ 0 ∷ [])) (7 ∷ []) 0 gives no_route_after 9)
    ∷ (tree (path []) (7 ∷ []) 0 gives refused 13)
    -- 11: "too few whole nodes lent". The bare root; and 10.0.0.0/8, whose nodes are three
    ∷ (build [] (0 ∷ 0 ∷ []) [] gives refused 11)
    ∷ (build [] (9 ∷ 9 ∷ 9 ∷ []) [] gives accepted (1 ∷ 0 ∷ []))
    ∷ (build (rec 10 0 0 0 8 0 20) (9 ∷ 9 ∷ 9 ∷ 9 ∷ 9 ∷ 9 ∷ 9 ∷ 9 ∷ []) (9 ∷ []) gives refused 11)
    ∷ (build (rec 10 0 0 0 8 0 20) (9 ∷ 9 ∷ 9 ∷ 9 ∷ 9 ∷ 9 ∷ 9 ∷ 9 ∷ 9 ∷ []) (9 ∷ []) gives accepted (3 ∷ 1 ∷ []))
    -- 12: "too few hops lent"; and 11 before it
    ∷ (build (rec 10 0 0 0 8 0 20) (9 ∷ 9 ∷ 9 ∷ 9 ∷ 9 ∷ 9 ∷ 9 ∷ 9 ∷ 9 ∷ []) [] gives refused 12)
    ∷ (build (rec 10 0 0 0 8 0 20) (9 ∷ 9 ∷ []) [] gives refused 11)
    -- the input's before 11: length, 3, 4, mark, order
    ∷ (build (0 ∷ []) [] [] gives refused_at 10 0)
    ∷ (build (rec 10 0 0 0 33 0 20) [] [] gives refused_at 3 0)
    ∷ (build (rec 10 1 2 3 24 0 44) [] [] gives refused_at 3 0)
    ∷ (build (rec 10 0 0 0 8 0 32768) [] [] gives refused_at 4 0)
    ∷ (build (rec 10 0 0 0 8 1 20) [] [] gives refused 11)
    ∷ (build (rec 10 0 0 0 8 2 20) [] [] gives refused_at 10 0)
    ∷ (build (rec 10 0 0 0 8 0 20 ++ rec 10 0 0 0 8 0 21) [] [] gives refused_at 10 1)
    -- "Words and hops after the last used are zero"; a refusal leaves both
    ∷ (words_of (rec 10 0 0 0 8 0 20) (9 ∷ 9 ∷ 9 ∷ 9 ∷ 9 ∷ 9 ∷ 9 ∷ 9 ∷ 9 ∷ 9 ∷ []) (9 ∷ 9 ∷ [])
    gives accepted (65536 ∷ 1 ∷ 0 ∷ (2 ^ 26) ∷ 2 ∷ 0 ∷ 1 ∷ 3 ∷ 0 ∷ 0 ∷ []))
    ∷ (hops_of (rec 10 0 0 0 8 0 20) (9 ∷ 9 ∷ 9 ∷ 9 ∷ 9 ∷ 9 ∷ 9 ∷ 9 ∷ 9 ∷ 9 ∷ []) (9 ∷ 9 ∷ []) gives accepted (20 ∷ 0 ∷ []))
    ∷ (words_of (rec 10 0 0 0 8 0 20) (9 ∷ 9 ∷ 9 ∷ []) (9 ∷ []) gives accepted (9 ∷ 9 ∷ 9 ∷ []))
    ∷ (hops_of (rec 10 0 0 0 8 0 20) (9 ∷ 9 ∷ 9 ∷ []) (9 ∷ []) gives accepted (9 ∷ []))
    -- The test. No root is lent whole; "the bare root of an empty list"
    ∷ (test [] [] gives refused 13)
    ∷ (test (0 ∷ 1 ∷ []) [] gives refused 13)
    ∷ (test (0 ∷ 1 ∷ 0 ∷ []) [] gives accepted (1 ∷ 0 ∷ []))
    -- "the bases must be those of the fixed order", also where nothing is read by them
    ∷ (test (0 ∷ 0 ∷ 0 ∷ []) [] gives refused 13)
    ∷ (test (0 ∷ 2 ∷ 0 ∷ []) [] gives refused 13)
    ∷ (test (0 ∷ 1 ∷ 1 ∷ []) [] gives refused 13)
    ∷ (test (1 ∷ 1 ∷ 0 ∷ []) (7 ∷ []) gives accepted (1 ∷ 1 ∷ []))
    ∷ (test (1 ∷ 2 ∷ 0 ∷ []) (7 ∷ []) gives refused 13)
    ∷ (tree (1 ∷ 2 ∷ 0 ∷ []) (7 ∷ []) 0 gives hop_after 2 7)
    ∷ (test (2 ^ 16 ∷ 1 ∷ 0 ∷ 1 ∷ 2 ∷ 0 ∷ []) (7 ∷ []) gives accepted (2 ∷ 1 ∷ []))
    ∷ (test (2 ^ 16 ∷ 0 ∷ 0 ∷ 1 ∷ 2 ∷ 0 ∷ []) (7 ∷ []) gives refused 13)
    ∷ (test ((2 ^ 16 + 2 ^ 17) ∷ 1 ∷ 0 ∷ 1 ∷ 3 ∷ 0 ∷ 2 ∷ 3 ∷ 1 ∷ []) (5 ∷ 6 ∷ []) gives accepted (3 ∷ 2 ∷ []))
    ∷ (test ((2 ^ 16 + 2 ^ 17) ∷ 1 ∷ 0 ∷ 2 ∷ 3 ∷ 1 ∷ 1 ∷ 3 ∷ 0 ∷ []) (5 ∷ 6 ∷ []) gives refused 13)
    -- "its own bitmaps": bit 15, and at depth 8 bit 0 alone
    ∷ (test (2 ^ 14 ∷ 1 ∷ 0 ∷ []) (7 ∷ []) gives accepted (1 ∷ 1 ∷ []))
    ∷ (test (2 ^ 15 ∷ 1 ∷ 0 ∷ []) (7 ∷ []) gives refused 13)
    ∷ (test ((2 ^ 15 + 1) ∷ 1 ∷ 0 ∷ []) (7 ∷ []) gives refused 13)
    ∷ (test (path (1 ∷ 9 ∷ 0 ∷ [])) (7 ∷ []) gives accepted (9 ∷ 1 ∷ []))
    ∷ (test (path (3 ∷ 9 ∷ 0 ∷ [])) (7 ∷ 8 ∷ []) gives refused 13)
    ∷ (test (path (2 ∷ 9 ∷ 0 ∷ [])) (7 ∷ []) gives refused 13)
    ∷ (test (path ((2 ^ 16 + 1) ∷ 9 ∷ 0 ∷ 1 ∷ 10 ∷ 1 ∷ [])) (7 ∷ 8 ∷ []) gives refused 13)
    -- "No path may end without a route", and no child lies beyond what is lent
    ∷ (test (2 ^ 16 ∷ 1 ∷ 0 ∷ 0 ∷ 2 ∷ 0 ∷ []) [] gives refused 13)
    ∷ (test ((2 ^ 16 + 1) ∷ 1 ∷ 0 ∷ 0 ∷ 2 ∷ 1 ∷ []) (7 ∷ []) gives refused 13)
    ∷ (test (2 ^ 16 ∷ 1 ∷ 0 ∷ []) [] gives refused 13)
    ∷ (test (2 ^ 16 ∷ 1 ∷ 0 ∷ 1 ∷ 2 ∷ []) (7 ∷ []) gives refused 13)
    ∷ (test (path []) (7 ∷ []) gives refused 13)
    -- the hops in use are lent, and 1 to 32,767
    ∷ (test (1 ∷ 1 ∷ 0 ∷ []) [] gives refused 13)
    ∷ (test (1 ∷ 1 ∷ 0 ∷ []) (0 ∷ []) gives refused 13)
    ∷ (test (1 ∷ 1 ∷ 0 ∷ []) (32767 ∷ []) gives accepted (1 ∷ 1 ∷ []))
    ∷ (test (1 ∷ 1 ∷ 0 ∷ []) (32768 ∷ []) gives refused 13)
    -- zeros after the last used, in the one or two words after the last whole node too
    ∷ (test (1 ∷ 1 ∷ 0 ∷ 0 ∷ 0 ∷ []) (7 ∷ 0 ∷ []) gives accepted (1 ∷ 1 ∷ []))
    ∷ (test (1 ∷ 1 ∷ 0 ∷ 1 ∷ 2 ∷ 1 ∷ []) (7 ∷ []) gives refused 13)
    ∷ (test (1 ∷ 1 ∷ 0 ∷ 9 ∷ []) (7 ∷ []) gives refused 13)
    ∷ (test (1 ∷ 1 ∷ 0 ∷ 0 ∷ 9 ∷ []) (7 ∷ []) gives refused 13)
    ∷ (test (1 ∷ 1 ∷ 0 ∷ []) (7 ∷ 8 ∷ []) gives refused 13)
    ∷ []
