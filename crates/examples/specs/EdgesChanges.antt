-- The refusals of the calls that change a table, each at its limit, and each pair that stands side by side in the order with both at once:
-- in blank memory, where no table is sound, and after runs from a fresh table.
use Rattle.std.specs.Prelude.{List, [], ◌∷◌, ◌++◌}
use Rattle.routes.specs.Said.{Said, accepted, refused, refused_at}
use Rattle.sail.specs.Geometry.{standard_geo, small_geo}
use Rattle.sail.specs.Sound.{fresh_table}
use Rattle.sail.specs.declared.geometry.Geometry.{Geometry}
use Rattle.sail_theory.specs.Calls.{route, reported}
use Rattle.sail_theory.specs.CallRuns.{Call, after}
use Rattle.sail_theory.specs.CallRuns as call
use Rattle.examples.specs.Lines.{ip, Line, ◌gives◌}
use Rattle.examples.specs.Blank as blank
use Rattle.examples.specs.Blank.{Lengths, lengths, zeros}
use Rattle.examples.specs.EdgesInputs.{rec}

-- room for 8 records and no chunks; room for one record, and one chunk of either pool; no room and no chunks
abbrev right : Lengths
right = lengths 64 65536 0 0 0 0

abbrev one : Lengths
one = lengths 8 65536 256 256 1 1

abbrev none : Lengths
none = lengths 0 65536 0 0 0 0

abbrev wrong : Lengths
wrong = lengths 64 65535 0 0 0 0

unfoldable pub blank_edges : List (Line blank.Asked)
blank_edges =
    -- announce: 2 before 3, 3 before 4, 4 before 10, 10 before 5, 5, and 5 before 6
    (blank.announce standard_geo wrong (route (ip 10 0 0 0) 33 20 0) gives refused 2)
    ∷ (blank.announce standard_geo right (route (ip 10 0 0 0) 33 0 0) gives refused 3)
    ∷ (blank.announce standard_geo right (route (ip 10 0 0 0) 8 0 2) gives refused 4)
    ∷ (blank.announce standard_geo right (route (ip 10 0 0 0) 8 20 2) gives refused 10)
    ∷ (blank.announce standard_geo right (route (ip 10 0 0 0) 8 20 1) gives refused 5)
    ∷ (blank.announce standard_geo right (route (ip 10 0 0 0) 8 20 0) gives refused 5)
    ∷ (blank.announce standard_geo none (route (ip 10 0 0 0) 8 20 0) gives refused 5)
    -- 10.1.2.3/24 means 10.1.2.0/24, so 3 is not told of it; nor is what was cleared told in a refusal
    ∷ (blank.announce standard_geo right (route (ip 10 1 2 3) 24 0 0) gives refused 4)
    ∷ (blank.announce standard_geo right (route (ip 10 1 2 3) 24 44 0) gives refused 5)
    -- withdraw: 2 before 3, 3 before 5, and 5 before 9
    ∷ (blank.withdraw standard_geo wrong (ip 10 0 0 0) 33 gives refused 2)
    ∷ (blank.withdraw standard_geo right (ip 10 0 0 0) 33 gives refused 3)
    ∷ (blank.withdraw standard_geo right (ip 10 0 0 0) 8 gives refused 5)
    ∷ (blank.withdraw standard_geo right (ip 10 1 2 3) 24 gives refused 5)
    -- report and lookup: 2 before 5, and 5
    ∷ (blank.report standard_geo wrong gives refused 2)
    ∷ (blank.report standard_geo right gives refused 5)
    ∷ (blank.lookup standard_geo wrong (ip 10 0 0 1) gives refused 2)
    ∷ (blank.lookup standard_geo right (ip 10 0 0 1) gives refused 5)
    -- load reads nothing of the old table. 2 before the input; the input's length, then record by record 3 (an input stays strict), 4, mark, order
    ∷ (blank.load standard_geo right [] gives accepted [])
    ∷ (blank.load standard_geo wrong (0 ∷ []) gives refused 2)
    ∷ (blank.load standard_geo right (0 ∷ []) gives refused_at 10 0)
    ∷ (blank.load standard_geo right (rec 10 0 0 0 33 0 20 ++ (0 ∷ [])) gives refused_at 10 1)
    ∷ (blank.load standard_geo right (rec 10 0 0 0 33 0 0) gives refused_at 3 0)
    ∷ (blank.load standard_geo right (rec 10 1 2 3 24 0 44) gives refused_at 3 0)
    ∷ (blank.load standard_geo right (rec 10 0 0 0 8 2 0) gives refused_at 4 0)
    ∷ (blank.load standard_geo right (rec 10 0 0 0 8 1 20) gives accepted [])
    ∷ (blank.load standard_geo right (rec 10 0 0 0 8 2 20) gives refused_at 10 0)
    ∷ (blank.load standard_geo right (rec 10 0 0 0 8 0 20 ++ rec 10 0 0 0 8 2 21) gives refused_at 10 1)
    ∷ (blank.load standard_geo right (rec 10 0 0 0 8 0 20 ++ rec 10 0 0 0 8 0 21) gives refused_at 10 1)
    -- the input before 6; 6 before 7, 7, 7 before 8, 8; and as much as is needed
    ∷ (blank.load standard_geo one (rec 10 0 0 0 8 0 20 ++ rec 10 1 0 0 16 0 0) gives refused_at 4 1)
    ∷ (blank.load standard_geo one (rec 10 0 0 0 8 0 20) gives accepted [])
    ∷ (blank.load standard_geo one (rec 10 0 0 0 8 0 20 ++ rec 10 1 0 0 16 0 31) gives refused 6)
    ∷ (blank.load standard_geo none (rec 10 1 2 0 24 0 44) gives refused 6)
    ∷ (blank.load standard_geo right (rec 10 1 2 0 24 0 44) gives refused 7)
    ∷ (blank.load standard_geo right (rec 10 1 2 128 25 0 57) gives refused 7)
    ∷ (blank.load standard_geo (lengths 8 65536 256 0 1 0) (rec 10 1 2 128 25 0 57) gives refused 8)
    ∷ (blank.load standard_geo one (rec 10 1 2 128 25 0 57) gives accepted [])
    ∷ []

-- what the last call of a run says, and the report after it
pub data Asked : Type 0 where
  last : Geometry → Lengths → List Call → Asked
  report : Geometry → Lengths → List Call → Asked

unfoldable pub answer : Asked → Said
answer (last g n cs) = (after (fresh_table g) (zeros n) cs).said
answer (report g n cs) = reported (after (fresh_table g) (zeros n) cs).table (after (fresh_table g) (zeros n) cs).lent

-- Runs: the last call stands first.
abbrev entered : List Call
entered = call.announce (route (ip 10 1 2 128) 25 57 0) ∷ []

unfoldable pub run_edges : List (Line Asked)
run_edges =
    -- hops of 1 to 32,767
    (last standard_geo right (call.announce (route (ip 10 0 0 0) 8 0 0) ∷ []) gives refused 4)
    ∷ (last standard_geo right (call.announce (route (ip 10 0 0 0) 8 1 0) ∷ []) gives accepted (0 ∷ 0 ∷ []))
    ∷ (last standard_geo right (call.announce (route (ip 10 0 0 0) 8 32767 0) ∷ []) gives accepted (0 ∷ 0 ∷ []))
    ∷ (last standard_geo right (call.announce (route (ip 10 0 0 0) 8 32768 0) ∷ []) gives refused 4)
    -- marks of 0 and 1; one over 1 gives 10
    ∷ (last standard_geo right (call.announce (route (ip 10 0 0 0) 8 20 1) ∷ []) gives accepted (0 ∷ 0 ∷ []))
    ∷ (last standard_geo right (call.announce (route (ip 10 0 0 0) 8 20 2) ∷ []) gives refused 10)
    -- lengths of 0 to 32; bits after the length are cleared, and an accepted answer tells it
    ∷ (last standard_geo right (call.announce (route 0 0 6 0) ∷ []) gives accepted (0 ∷ 0 ∷ []))
    ∷ (last standard_geo right (call.announce (route (ip 128 0 0 0) 0 6 0) ∷ []) gives accepted (1 ∷ 0 ∷ []))
    ∷ (last standard_geo one (call.announce (route (ip 255 255 255 255) 32 9 0) ∷ []) gives accepted (0 ∷ 0 ∷ []))
    ∷ (last standard_geo one (call.announce (route (ip 255 255 255 255) 33 9 0) ∷ []) gives refused 3)
    ∷ (last standard_geo one (call.announce (route (ip 255 255 255 255) 31 9 0) ∷ []) gives accepted (1 ∷ 0 ∷ []))
    ∷ (last standard_geo one (call.withdraw (ip 255 255 255 255) 33 ∷ []) gives refused 3)
    ∷ (last standard_geo one (call.withdraw (ip 255 255 255 255) 31 ∷ []) gives refused 9)
    ∷ (last standard_geo one (call.withdraw (ip 255 255 255 255) 31 ∷ call.announce (route (ip 255 255 255 254) 31 9 0) ∷ []) gives accepted (1 ∷ []))
    -- a second chunk for a route longer than p1, a third for one longer than p2
    ∷ (last standard_geo right (call.announce (route (ip 10 1 0 0) 16 31 0) ∷ []) gives accepted (0 ∷ 0 ∷ []))
    ∷ (last standard_geo right (call.announce (route (ip 10 1 0 0) 17 31 0) ∷ []) gives refused 7)
    ∷ (last standard_geo (lengths 8 65536 256 0 1 0) (call.announce (route (ip 10 1 2 0) 24 44 0) ∷ []) gives accepted (0 ∷ 0 ∷ []))
    ∷ (last standard_geo (lengths 8 65536 256 0 1 0) (call.announce (route (ip 10 1 2 0) 25 44 0) ∷ []) gives refused 8)
    ∷ (last small_geo (lengths 8 4096 0 0 0 0) (call.announce (route (ip 10 16 0 0) 12 31 0) ∷ []) gives accepted (0 ∷ 0 ∷ []))
    ∷ (last small_geo (lengths 8 4096 0 0 0 0) (call.announce (route (ip 10 16 0 0) 13 31 0) ∷ []) gives refused 7)
    ∷ (last small_geo (lengths 8 4096 1024 0 1 0) (call.announce (route (ip 10 1 4 0) 22 44 0) ∷ []) gives accepted (0 ∷ 0 ∷ []))
    ∷ (last small_geo (lengths 8 4096 1024 0 1 0) (call.announce (route (ip 10 1 4 0) 23 44 0) ∷ []) gives refused 8)
    -- 6; 6 before 7; 7 before 8
    ∷ (last standard_geo one entered gives accepted (0 ∷ 0 ∷ []))
    ∷ (last standard_geo one (call.announce (route (ip 10 0 0 0) 8 20 0) ∷ entered) gives refused 6)
    ∷ (last standard_geo none (call.announce (route (ip 10 1 2 128) 25 57 0) ∷ []) gives refused 6)
    ∷ (last standard_geo right (call.announce (route (ip 10 1 2 128) 25 57 0) ∷ []) gives refused 7)
    -- "a replacement never meets 6 to 8": the list is full, and no chunk is free
    ∷ (last standard_geo one (call.announce (route (ip 10 1 2 128) 25 58 0) ∷ entered) gives accepted (0 ∷ 1 ∷ []))
    -- "the number of different first-p1-bit values": two routes of one cell need one chunk, of two cells two
    ∷ (last standard_geo (lengths 16 65536 256 0 1 0)
    (call.announce (route (ip 10 1 3 0) 24 45 0) ∷ call.announce (route (ip 10 1 2 0) 24 44 0) ∷ []) gives accepted (0 ∷ 0 ∷ []))
    ∷ (last standard_geo (lengths 16 65536 256 0 1 0)
    (call.announce (route (ip 10 2 3 0) 24 45 0) ∷ call.announce (route (ip 10 1 2 0) 24 44 0) ∷ []) gives refused 7)
    -- 9, for a prefix of another length, and for one that is gone
    ∷ (last standard_geo one (call.withdraw (ip 10 1 2 128) 26 ∷ entered) gives refused 9)
    ∷ (last standard_geo one (call.withdraw (ip 10 1 2 128) 25 ∷ entered) gives accepted (0 ∷ []))
    ∷ (last standard_geo one (call.withdraw (ip 10 1 2 128) 25 ∷ call.withdraw (ip 10 1 2 128) 25 ∷ entered) gives refused 9)
    -- a chunk that was freed is used again
    ∷ (last standard_geo one (call.announce (route (ip 10 2 2 128) 25 58 0) ∷ call.withdraw (ip 10 1 2 128) 25 ∷ entered) gives accepted (0 ∷ 0 ∷ []))
    -- the report, of a fresh table, and of routes of two first cells and three second cells
    ∷ (report standard_geo none [] gives accepted (0 ∷ 0 ∷ 0 ∷ []))
    ∷ (report standard_geo (lengths 24 65536 512 768 2 3)
    (call.load (rec 10 1 2 128 25 0 57 ++ (rec 10 1 3 128 25 0 58 ++ rec 10 2 2 128 25 0 59)) ∷ []) gives accepted (3 ∷ 2 ∷ 3 ∷ []))
    ∷ []
