-- Record inputs at their limits: the check, a route read back, the run under a prefix, the tally; and inputs of 4,096 and of 4,097 records.
use Rattle.std.specs.Prelude.{List, [], ◌∷◌, ◌++◌, ℕ, ◌*◌, ◌/◌, ◌%◌, replicate}
use Rattle.bits.specs.Tab.{tabulate}
use Rattle.routes.specs.Record.{written}
use Rattle.routes.specs.Input.{input_said}
use Rattle.routes.specs.Answers.{route_said}
use Rattle.routes.specs.Said.{Said, accepted, refused, refused_at}
use Rattle.runs.specs.Run.{run_said}
use Rattle.runs.specs.Tally.{tally_of}
use Rattle.sail.specs.Geometry.{standard_geo}
use Rattle.sail.specs.Sound.{fresh_table}
use Rattle.sail_theory.specs.Calls.{loaded}
use Rattle.tree_build.specs.Built.{built}
use Rattle.examples.specs.Lines.{ip, Line, ◌gives◌}
use Rattle.examples.specs.Blank.{lengths, zeros}

-- a record's eight bytes
abbrev pub rec : ℕ → ℕ → ℕ → ℕ → ℕ → ℕ → ℕ → List ℕ
rec a b c d len mark hop = a ∷ b ∷ c ∷ d ∷ len ∷ mark ∷ hop / 256 ∷ hop % 256 ∷ []

-- n records: 0.0.0.0/16, 0.1.0.0/16 and so on, each to hop 1
unfoldable pub many : ℕ → List ℕ
many n = written (tabulate n (λ k. record { addr = k * 65536; len = 16; mark = 0; hop = 1 })) n

-- The tally tells its 33 counts. Of many records, and of so many zero bytes, the calls that take an input; load has room for 4,096 and no chunks.
pub data Asked : Type 0 where
  check : List ℕ → Asked
  route : List ℕ → ℕ → Asked
  run : List ℕ → ℕ → ℕ → Asked
  tally : List ℕ → Asked
  check_many : ℕ → Asked
  check_zeros : ℕ → Asked
  route_many : ℕ → ℕ → Asked
  run_many : ℕ → ℕ → ℕ → Asked
  tally_many : ℕ → Asked
  load_many : ℕ → Asked
  build_many : ℕ → Asked

unfoldable pub answer : Asked → Said
answer (check s) = input_said s
answer (route s k) = route_said s k
answer (run s a len) = run_said s a len
answer (tally s) = accepted (tally_of s)
answer (check_many n) = input_said (many n)
answer (check_zeros n) = input_said (replicate (n * 8) 0)
answer (route_many n k) = route_said (many n) k
answer (run_many n a len) = run_said (many n) a len
answer (tally_many n) = accepted (tally_of (many n))
answer (load_many n) = (loaded (fresh_table standard_geo) (zeros (lengths 32768 65536 0 0 0 0)) (many n)).said
answer (build_many n) = (built (many n) [] []).said

-- 10.0.0.0/8 to 20 and 10.1.2.128/25 to 57
abbrev two : List ℕ
two = rec 10 0 0 0 8 0 20 ++ rec 10 1 2 128 25 0 57

unfoldable pub edges : List (Line Asked)
edges =
    -- "Route 10.1.2.128/25 to hop 57 is 0A 01 02 80 19 00 00 39"
    (route (0x0A ∷ 0x01 ∷ 0x02 ∷ 0x80 ∷ 0x19 ∷ 0x00 ∷ 0x00 ∷ 0x39 ∷ []) 0 gives accepted (ip 10 1 2 128 ∷ 25 ∷ 0 ∷ 57 ∷ []))
    -- 10 for the length, with the number of whole records; and 10 before 3
    ∷ (check [] gives accepted (0 ∷ []))
    ∷ (check (0 ∷ 0 ∷ 0 ∷ 0 ∷ 0 ∷ 0 ∷ 0 ∷ []) gives refused_at 10 0)
    ∷ (check (rec 10 0 0 0 8 0 20) gives accepted (1 ∷ []))
    ∷ (check (rec 10 0 0 0 8 0 20 ++ (0 ∷ [])) gives refused_at 10 1)
    ∷ (check (rec 10 0 0 0 33 0 20 ++ (0 ∷ [])) gives refused_at 10 1)
    -- 3: lengths of 0 to 32, and a bit set after the length
    ∷ (check (rec 0 0 0 0 0 0 6) gives accepted (1 ∷ []))
    ∷ (check (rec 128 0 0 0 0 0 6) gives refused_at 3 0)
    ∷ (check (rec 255 255 255 255 32 0 6) gives accepted (1 ∷ []))
    ∷ (check (rec 255 255 255 255 33 0 6) gives refused_at 3 0)
    ∷ (check (rec 255 255 255 255 31 0 6) gives refused_at 3 0)
    ∷ (check (rec 255 255 255 254 31 0 6) gives accepted (1 ∷ []))
    -- 4: hops of 1 to 32,767; 3 before 4
    ∷ (check (rec 10 0 0 0 8 0 0) gives refused_at 4 0)
    ∷ (check (rec 10 0 0 0 8 0 1) gives accepted (1 ∷ []))
    ∷ (check (rec 10 0 0 0 8 0 32767) gives accepted (1 ∷ []))
    ∷ (check (rec 10 0 0 0 8 0 32768) gives refused_at 4 0)
    ∷ (check (rec 10 0 0 0 33 0 0) gives refused_at 3 0)
    -- 10 for the mark: 0, and 1 for attached; 4 before it
    ∷ (check (rec 10 0 0 0 8 1 20) gives accepted (1 ∷ []))
    ∷ (check (rec 10 0 0 0 8 2 20) gives refused_at 10 0)
    ∷ (check (rec 10 0 0 0 8 2 0) gives refused_at 4 0)
    -- 10 for the order: by address, then by length; the first record at which something is wrong
    ∷ (check two gives accepted (2 ∷ []))
    ∷ (check (rec 10 0 0 0 8 0 20 ++ rec 10 0 0 0 8 0 21) gives refused_at 10 1)
    ∷ (check (rec 10 0 0 0 8 0 20 ++ rec 10 0 0 0 9 0 21) gives accepted (2 ∷ []))
    ∷ (check (rec 10 0 0 0 9 0 20 ++ rec 10 0 0 0 8 0 21) gives refused_at 10 1)
    ∷ (check (rec 10 0 0 0 8 0 20 ++ rec 9 0 0 0 16 0 21) gives refused_at 10 1)
    ∷ (check (rec 10 0 0 0 8 0 20 ++ rec 9 0 0 0 8 2 21) gives refused_at 10 1)
    ∷ (check (rec 10 0 0 0 8 0 20 ++ (rec 9 0 0 0 8 0 21 ++ rec 11 0 0 0 33 0 22)) gives refused_at 10 1)
    -- 6: 4,096 records, and one more
    ∷ (check_many 4096 gives accepted (4096 ∷ []))
    ∷ (check_many 4097 gives refused 6)
    -- and a record at which something is wrong before 6: hop 0
    ∷ (check_zeros 4097 gives refused_at 4 0)
    -- a route read back: the input's refusals, the last record, and nothing past it
    ∷ (route (0 ∷ []) 0 gives refused_at 10 0)
    ∷ (route (rec 10 0 0 0 33 0 20) 0 gives refused_at 3 0)
    ∷ (route (rec 10 0 0 0 8 0 0) 0 gives refused_at 4 0)
    ∷ (route (rec 10 0 0 0 8 2 20) 0 gives refused_at 10 0)
    ∷ (route_many 4097 0 gives refused 6)
    ∷ (route two 1 gives accepted (ip 10 1 2 128 ∷ 25 ∷ 0 ∷ 57 ∷ []))
    ∷ (route two 2 gives accepted [])
    ∷ (route (rec 10 0 0 0 8 1 20) 0 gives accepted (ip 10 0 0 0 ∷ 8 ∷ 1 ∷ 20 ∷ []))
    -- the run: the input's refusals before 3; lengths of 0 to 32; start and count
    ∷ (run (0 ∷ []) (ip 10 0 0 0) 33 gives refused_at 10 0)
    ∷ (run (rec 10 0 0 0 33 0 20) (ip 10 0 0 0) 33 gives refused_at 3 0)
    ∷ (run (rec 10 0 0 0 8 0 0) (ip 10 0 0 0) 33 gives refused_at 4 0)
    ∷ (run (rec 10 0 0 0 8 2 20) (ip 10 0 0 0) 33 gives refused_at 10 0)
    ∷ (run_many 4097 (ip 10 0 0 0) 33 gives refused 6)
    ∷ (run two (ip 10 0 0 0) 33 gives refused 3)
    ∷ (run two (ip 10 1 2 3) 24 gives refused 3)
    ∷ (run two (ip 10 1 2 128) 32 gives accepted (2 ∷ 0 ∷ []))
    ∷ (run two (ip 10 1 2 128) 25 gives accepted (1 ∷ 1 ∷ []))
    ∷ (run two (ip 10 0 0 0) 8 gives accepted (0 ∷ 2 ∷ []))
    ∷ (run two (ip 10 0 0 0) 9 gives accepted (1 ∷ 1 ∷ []))
    ∷ (run two 0 0 gives accepted (0 ∷ 2 ∷ []))
    ∷ (run two (ip 11 0 0 0) 8 gives accepted (2 ∷ 0 ∷ []))
    -- the tally: a count for each of the 33 lengths, and 33 zeros for what is refused
    ∷ (tally (rec 0 0 0 0 0 0 6 ++ (two ++ rec 255 255 255 255 32 0 6))
    gives accepted (1 ∷ 0 ∷ 0 ∷ 0 ∷ 0 ∷ 0 ∷ 0 ∷ 0 ∷ 1 ∷ 0 ∷ 0 ∷ 0 ∷ 0 ∷ 0 ∷ 0 ∷ 0 ∷ 0 ∷ 0 ∷ 0 ∷ 0 ∷ 0 ∷ 0 ∷ 0 ∷ 0 ∷ 0 ∷ 1 ∷ 0 ∷ 0 ∷ 0 ∷ 0 ∷ 0 ∷ 0 ∷ 1 ∷ []))
    ∷ (tally (rec 10 0 0 0 8 0 20 ++ rec 11 0 0 0 8 0 0)
    gives accepted (0 ∷ 0 ∷ 0 ∷ 0 ∷ 0 ∷ 0 ∷ 0 ∷ 0 ∷ 0 ∷ 0 ∷ 0 ∷ 0 ∷ 0 ∷ 0 ∷ 0 ∷ 0 ∷ 0 ∷ 0 ∷ 0 ∷ 0 ∷ 0 ∷ 0 ∷ 0 ∷ 0 ∷ 0 ∷ 0 ∷ 0 ∷ 0 ∷ 0 ∷ 0 ∷ 0 ∷ 0 ∷ 0 ∷ []))
    ∷ (tally_many 4097
    gives accepted (0 ∷ 0 ∷ 0 ∷ 0 ∷ 0 ∷ 0 ∷ 0 ∷ 0 ∷ 0 ∷ 0 ∷ 0 ∷ 0 ∷ 0 ∷ 0 ∷ 0 ∷ 0 ∷ 0 ∷ 0 ∷ 0 ∷ 0 ∷ 0 ∷ 0 ∷ 0 ∷ 0 ∷ 0 ∷ 0 ∷ 0 ∷ 0 ∷ 0 ∷ 0 ∷ 0 ∷ 0 ∷ 0 ∷ []))
    -- load of 4,096 records and of one more, and build of so many
    ∷ (load_many 4096 gives accepted [])
    ∷ (load_many 4097 gives refused 6)
    ∷ (build_many 4097 gives refused 6)
    ∷ []
