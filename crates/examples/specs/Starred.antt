-- Document 01's starred examples, and document 02's mark and host bits: what is asked, by the definitions that the contracts cite, and what the
-- documents answer.
use Rattle.std.specs.Prelude.{List, [], ◌∷◌, ℕ, ◌^◌, get_or, drop, replicate}
use Rattle.routes.specs.ListA.{list_a}
use Rattle.routes.specs.Record.{no_route}
use Rattle.routes.specs.Input.{input_said}
use Rattle.routes.specs.Answers.{values_of}
use Rattle.routes.specs.Said.{Said, accepted, refused, refused_at, hop_after, no_route_after}
use Rattle.sail.specs.Geometry.{standard_geo}
use Rattle.sail.specs.Lent.{Lent, lent}
use Rattle.sail.specs.Sound.{standing, fresh_table}
use Rattle.sail.specs.Walk.{lookup_said}
use Rattle.sail.specs.declared.geometry.Geometry.{Geometry}
use Rattle.sail.specs.declared.table.Table.{Table}
use Rattle.sail_theory.specs.Calls.{route, make_said, reported}
use Rattle.sail_theory.specs.CallRuns.{Call, announce, withdraw, load, after}
use Rattle.tree_image.specs.Walk.{tree_said}
use Rattle.tree_build.specs.Built as building
use Rattle.examples.specs.Lines.{ip, Line, ◌gives◌}
use Rattle.examples.specs.Blank.{geo}

-- what is lent: the standard geometry, room for 8 records, and one chunk in each pool
unfoldable pub table : Table
table = fresh_table standard_geo

unfoldable pub arrays : Lent
arrays = lent (replicate 64 0) (replicate 65536 0) (replicate 256 0) (replicate 256 0) (0 ∷ []) (0 ∷ []) (replicate 65536 0) (replicate 256 0)

-- for any geometry: first cells, and no room and no chunks
unfoldable pub bare : Geometry → Lent
bare g = lent [] (replicate (2 ^ g.p1) 0) [] [] [] [] (replicate (2 ^ g.p1) 0) []

-- list A's image, in as much as it needs
unfoldable pub image : building.ImageOut
image = building.built list_a (replicate 21 0) (replicate 5 0)

-- Runs from the fresh table; the last call stands first.
abbrev pub loaded_a : List Call
loaded_a = load list_a ∷ []

abbrev pub without0 : List Call
without0 = withdraw 0 0 ∷ loaded_a

abbrev pub without25 : List Call
without25 = withdraw (ip 10 1 2 128) 25 ∷ loaded_a

abbrev pub without24 : List Call
without24 = withdraw (ip 10 1 2 0) 24 ∷ without25

-- only the mark of 10.1.0.0/16 is another
abbrev pub attached_a : List Call
attached_a = announce (route (ip 10 1 0 0) 16 31 1) ∷ loaded_a

abbrev pub entered : List Call
entered = announce (route (ip 10 1 2 0) 24 44 0) ∷ []

abbrev pub other : List Call
other = announce (route (ip 10 2 2 0) 24 45 0) ∷ entered

abbrev pub gone : List Call
gone = withdraw (ip 10 1 2 0) 24 ∷ other

abbrev pub again : List Call
again = announce (route (ip 10 2 2 0) 24 45 0) ∷ gone

-- host bits
abbrev pub loose : List Call
loose = announce (route (ip 10 1 2 3) 24 44 0) ∷ []

abbrev pub tight : List Call
tight = announce (route (ip 10 1 2 0) 24 45 0) ∷ loose

abbrev pub away : List Call
away = withdraw (ip 10 1 2 9) 24 ∷ tight

-- What is asked: after a run, what its last call says, a lookup, the report, a route of its list, a cell, an owner, a count; what make says of a
-- geometry; what the check of an
-- input says; and of list A's image, what the build says, its last node, its hops, and a lookup in it.
pub data Asked : Type 0 where
  last : List Call → Asked
  lookup : List Call → ℕ → Asked
  report : List Call → Asked
  listed : List Call → ℕ → Asked
  first : List Call → ℕ → Asked
  second : List Call → ℕ → Asked
  owner2 : List Call → ℕ → Asked
  owner3 : List Call → ℕ → Asked
  count1 : List Call → ℕ → Asked
  count2 : List Call → ℕ → Asked
  make : Geometry → Asked
  input : List ℕ → Asked
  build : Asked
  last_node : Asked
  hops : Asked
  tree : ℕ → Asked

-- what the definitions answer; a cell, an owner or a count is told as a value
unfoldable pub answer : Asked → Said
answer (last cs) = (after table arrays cs).said
answer (lookup cs a) = lookup_said (after table arrays cs).table (after table arrays cs).lent a
answer (report cs) = reported (after table arrays cs).table (after table arrays cs).lent
answer (listed cs k) = accepted (values_of (get_or (standing (after table arrays cs).table (after table arrays cs).lent) k no_route))
answer (first cs q) = accepted (get_or (after table arrays cs).lent.first q 0 ∷ [])
answer (second cs q) = accepted (get_or (after table arrays cs).lent.second q 0 ∷ [])
answer (owner2 cs c) = accepted (get_or (after table arrays cs).lent.own2 c 0 ∷ [])
answer (owner3 cs c) = accepted (get_or (after table arrays cs).lent.own3 c 0 ∷ [])
answer (count1 cs q) = accepted (get_or (after table arrays cs).lent.long1 q 0 ∷ [])
answer (count2 cs q) = accepted (get_or (after table arrays cs).lent.long2 q 0 ∷ [])
answer (make g) = make_said (fresh_table g) (bare g)
answer (input bytes) = input_said bytes
answer build = image.said
answer last_node = accepted (drop 18 image.words)
answer hops = accepted image.hops
answer (tree a) = tree_said image.words image.hops a

-- The table
unfoldable pub starred : List (Line Asked)
starred =
    -- list A is loaded; "10.1.2.200: 57, 3 cells", "10.1.2.5: 44, 3 cells", "10.1.3.1: 31, 2 cells", "10.2.0.1: 20, 1 cell",
    -- "192.0.2.1: 6, 1 cell"; in the tree, by document 02, c: "10.1.2.200 in list A is 8, 10.1.3.1 is 7, 192.0.2.1 is 2"
    (last loaded_a gives accepted [])
    ∷ (lookup loaded_a (ip 10 1 2 200) gives hop_after 3 57)
    ∷ (tree (ip 10 1 2 200) gives hop_after 8 57)
    ∷ (lookup loaded_a (ip 10 1 2 5) gives hop_after 3 44)
    ∷ (lookup loaded_a (ip 10 1 3 1) gives hop_after 2 31)
    ∷ (tree (ip 10 1 3 1) gives hop_after 7 31)
    ∷ (lookup loaded_a (ip 10 2 0 1) gives hop_after 1 20)
    ∷ (lookup loaded_a (ip 192 0 2 1) gives hop_after 1 6)
    ∷ (tree (ip 192 0 2 1) gives hop_after 2 6)
    -- "With /0 withdrawn: no route"
    ∷ (last without0 gives accepted (0 ∷ []))
    ∷ (lookup without0 (ip 192 0 2 1) gives no_route_after 1)
    -- "Both needs are 1. First cell 2561 holds 1 with owner 2562; second cell 2 holds 1 with owner 3; second cell 3 holds 801F hex"
    ∷ (report loaded_a gives accepted (5 ∷ 1 ∷ 1 ∷ []))
    ∷ (first loaded_a 2561 gives accepted (1 ∷ []))
    ∷ (owner2 loaded_a 0 gives accepted (2562 ∷ []))
    ∷ (second loaded_a 2 gives accepted (1 ∷ []))
    ∷ (owner3 loaded_a 0 gives accepted (3 ∷ []))
    ∷ (second loaded_a 3 gives accepted (0x801F ∷ []))
    -- "The image has 7 nodes; the last is 5, 7, 3; hops 6, 20, 31, 44, 57"
    ∷ (build gives accepted (7 ∷ 5 ∷ []))
    ∷ (last_node gives accepted (5 ∷ 7 ∷ 3 ∷ []))
    ∷ (hops gives accepted (6 ∷ 20 ∷ 31 ∷ 44 ∷ 57 ∷ []))
    -- "/25 withdrawn: 10.1.2.200 gives 44 in 2 cells, needs 1 and 0"
    ∷ (last without25 gives accepted (0 ∷ []))
    ∷ (lookup without25 (ip 10 1 2 200) gives hop_after 2 44)
    ∷ (report without25 gives accepted (4 ∷ 1 ∷ 0 ∷ []))
    -- "Geometry (16, 26) passes; (16, 27), (12, 23) and (11, 22) give 1"
    ∷ (make (geo 16 26) gives accepted [])
    ∷ (make (geo 16 27) gives refused 1)
    ∷ (make (geo 12 23) gives refused 1)
    ∷ (make (geo 11 22) gives refused 1)
    -- "Length 33 with hop 0: 3. Hop 32,767 passes, 32,768 gives 4": announced, and in an input
    ∷ (last (announce (route (ip 10 0 0 0) 33 0 0) ∷ []) gives refused 3)
    ∷ (last (announce (route (ip 10 0 0 0) 8 32767 0) ∷ []) gives accepted (0 ∷ 0 ∷ []))
    ∷ (last (announce (route (ip 10 0 0 0) 8 32768 0) ∷ []) gives refused 4)
    ∷ (input (10 ∷ 0 ∷ 0 ∷ 0 ∷ 33 ∷ 0 ∷ 0 ∷ 0 ∷ []) gives refused_at 3 0)
    ∷ (input (10 ∷ 0 ∷ 0 ∷ 0 ∷ 8 ∷ 0 ∷ 127 ∷ 255 ∷ []) gives accepted (1 ∷ []))
    ∷ (input (10 ∷ 0 ∷ 0 ∷ 0 ∷ 8 ∷ 0 ∷ 128 ∷ 0 ∷ []) gives refused_at 4 0)
    -- "Second pool of one chunk: 10.1.2.0/24 enters, 10.2.2.0/24 gives 7; after the first is withdrawn the other enters as chunk 1"
    ∷ (last entered gives accepted (0 ∷ 0 ∷ []))
    ∷ (last other gives refused 7)
    ∷ (last gone gives accepted (0 ∷ []))
    ∷ (last again gives accepted (0 ∷ 0 ∷ []))
    ∷ (first again 2562 gives accepted (1 ∷ []))
    ∷ (owner2 again 0 gives accepted (2563 ∷ []))
    -- the mark is 0, or 1 for attached; one over 1 gives 10, in a record and in announce, after 3 and 4
    ∷ (input (10 ∷ 1 ∷ 0 ∷ 0 ∷ 16 ∷ 1 ∷ 0 ∷ 31 ∷ []) gives accepted (1 ∷ []))
    ∷ (input (10 ∷ 1 ∷ 0 ∷ 0 ∷ 16 ∷ 2 ∷ 0 ∷ 31 ∷ []) gives refused_at 10 0)
    ∷ (last (announce (route (ip 10 1 0 0) 16 31 2) ∷ []) gives refused 10)
    ∷ (last (announce (route (ip 10 1 0 0) 16 0 2) ∷ []) gives refused 4)
    ∷ (last (announce (route (ip 10 1 0 0) 33 31 2) ∷ []) gives refused 3)
    -- a replacement replaces the mark with the hop; the route is read back with it, and cells and needs are as they were
    ∷ (last attached_a gives accepted (0 ∷ 1 ∷ []))
    ∷ (listed attached_a 2 gives accepted (ip 10 1 0 0 ∷ 16 ∷ 1 ∷ 31 ∷ []))
    ∷ (second attached_a 3 gives accepted (0x801F ∷ []))
    ∷ (report attached_a gives accepted (5 ∷ 1 ∷ 1 ∷ []))
    -- 10.1.2.3/24 means 10.1.2.0/24: it is added with bits cleared, 10.1.2.0/24 replaces it with none cleared, and 10.1.2.9/24 withdraws it, once
    ∷ (last loose gives accepted (1 ∷ 0 ∷ []))
    ∷ (listed loose 0 gives accepted (ip 10 1 2 0 ∷ 24 ∷ 0 ∷ 44 ∷ []))
    ∷ (last tight gives accepted (0 ∷ 1 ∷ []))
    ∷ (listed tight 0 gives accepted (ip 10 1 2 0 ∷ 24 ∷ 0 ∷ 45 ∷ []))
    ∷ (last away gives accepted (1 ∷ []))
    ∷ (last (withdraw (ip 10 1 2 9) 24 ∷ away) gives refused 9)
    -- 10.1.2.3/0 is 0.0.0.0/0; of 10.1.2.3/32 nothing is cleared; of a length over 32 nothing is, and it gives 3
    ∷ (last (announce (route (ip 10 1 2 3) 0 6 0) ∷ []) gives accepted (1 ∷ 0 ∷ []))
    ∷ (listed (announce (route (ip 10 1 2 3) 0 6 0) ∷ []) 0 gives accepted (0 ∷ 0 ∷ 0 ∷ 6 ∷ []))
    ∷ (last (announce (route (ip 10 1 2 3) 32 6 0) ∷ []) gives accepted (0 ∷ 0 ∷ []))
    ∷ (last (announce (route (ip 10 1 2 3) 33 6 0) ∷ []) gives refused 3)
    ∷ (last (withdraw (ip 10 1 2 3) 33 ∷ []) gives refused 3)
    -- an input stays strict
    ∷ (input (10 ∷ 1 ∷ 2 ∷ 3 ∷ 24 ∷ 0 ∷ 0 ∷ 44 ∷ []) gives refused_at 3 0)
    ∷ (last (load (10 ∷ 1 ∷ 2 ∷ 3 ∷ 24 ∷ 0 ∷ 0 ∷ 44 ∷ []) ∷ []) gives refused_at 3 0)
    -- the counts (document 02, g): two routes longer than 16 bits have the bits of first cell 2561, one longer than 24 those of second cell 2; with
    -- /25 withdrawn 1 and none, with /24 withdrawn too none, and the chunk is closed
    ∷ (count1 loaded_a 2561 gives accepted (2 ∷ []))
    ∷ (count1 loaded_a 2560 gives accepted (0 ∷ []))
    ∷ (count2 loaded_a 2 gives accepted (1 ∷ []))
    ∷ (count2 loaded_a 3 gives accepted (0 ∷ []))
    ∷ (count1 without25 2561 gives accepted (1 ∷ []))
    ∷ (count2 without25 2 gives accepted (0 ∷ []))
    ∷ (count1 without24 2561 gives accepted (0 ∷ []))
    ∷ (owner2 without24 0 gives accepted (0 ∷ []))
    -- a replacement changes none, nor does a refusal
    ∷ (count1 attached_a 2561 gives accepted (2 ∷ []))
    ∷ (count1 entered 2561 gives accepted (1 ∷ []))
    ∷ (count1 other 2561 gives accepted (1 ∷ []))
    ∷ (count1 other 2562 gives accepted (0 ∷ []))
    ∷ []
