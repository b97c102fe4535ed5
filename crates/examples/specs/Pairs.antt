-- Boxes of two parties, in the small geometry, and runs of calls on them. In both boxes the first party has room for 8 records and a limit of one chunk in
-- either pool. The first box has four chunks in either pool, of which the second party may use three, and room for 8 records of its own; the second has
-- twelve, of which it may use nine, and room for 16.
use Rattle.std.specs.Prelude.{List, [], ◌∷◌, ℕ, ◌*◌, replicate}
use Rattle.routes.specs.declared.Route.{Route}
use Rattle.sail.specs.Geometry.{small_geo}
use Rattle.sail_theory.specs.Calls.{route}
use Rattle.sail_theory.specs.CallRuns.{Call}
use Rattle.sail_theory.specs.CallRuns as call
use Rattle.pair.specs.Party.{Party, one, two}
use Rattle.pair.specs.PairLent.{PairLent, pair_lent}
use Rattle.pair.specs.PairRuns.{By}
use Rattle.pair.specs.declared.Pair.{Pair}
use Rattle.examples.specs.Lines.{ip}

-- the state before make: these limits of either party, of second and of third chunks
abbrev pub limits : ℕ → ℕ → ℕ → ℕ → Pair
limits a b c d = record { geometry = small_geo; one = record { count = 0; most2 = a; most3 = b }; two = record { count = 0; most2 = c; most3 = d } }

-- zeros: room for so many records of either party, and so many chunks of either pool
abbrev pub zeros : ℕ → ℕ → ℕ → ℕ → PairLent
zeros room1 room2 n m =
    pair_lent (replicate (room1 * 8) 0) (replicate 4096 0) (replicate 4096 0) (replicate (room2 * 8) 0) (replicate 4096 0) (replicate 4096 0)
    (replicate (n * 1024) 0) (replicate (m * 1024) 0) (replicate n 0) (replicate m 0) (replicate (n * 1024) 0)

unfoldable pub state4 : Pair
state4 = limits 1 1 3 3

unfoldable pub box4 : PairLent
box4 = zeros 8 8 4 4

unfoldable pub state12 : Pair
state12 = limits 1 1 9 9

unfoldable pub box12 : PairLent
box12 = zeros 8 16 12 12

-- the first box, with a limit of two for either party
unfoldable pub state_wide : Pair
state_wide = limits 2 2 2 2

-- 10.1.2.0/24, whose first cell is 160 and whose place in its second chunk is 64; 10.32.0.0/24, whose first cell is 162; 10.1.2.128/25
abbrev pub near : ℕ → Route
near hop = route (ip 10 1 2 0) 24 hop 0

abbrev pub far : ℕ → Route
far hop = route (ip 10 32 0 0) 24 hop 0

abbrev pub half : ℕ → Route
half hop = route (ip 10 1 2 128) 25 hop 0

abbrev pub by : Party → Call → By
by w c = record { who = w; what = c }

-- The first party's calls, next to an idle second party and next to a busy one; the last call is first.
abbrev pub idle : List By
idle = by one (call.announce (half 57)) ∷ by one (call.announce (near 44)) ∷ []

abbrev pub busy : List By
busy =
    by two (call.announce (half 3)) ∷ by one (call.announce (half 57)) ∷ by two (call.withdraw (ip 10 1 2 0) 24) ∷ by two (call.announce (far 5))
    ∷ by one (call.announce (near 44)) ∷ by two (call.announce (near 9)) ∷ []

-- both announce 10.1.2.0/24
abbrev pub first12 : List By
first12 = by two (call.announce (near 9)) ∷ by one (call.announce (near 44)) ∷ []
