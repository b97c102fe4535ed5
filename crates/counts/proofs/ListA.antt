-- What the counts are for document 01's list A: 0.0.0.0/0 to 6; 10.0.0.0/8 to 20; 10.1.0.0/16 to 31; 10.1.2.0/24 to 44; 10.1.2.128/25 to 57.
use mathlib.Core.Path.{◌≡◌, refl}
use mathlib.Core.Bool.{Bool}
use mathlib.Core.List.{List, [], ◌∷◌, map}
use Prim.Native.Nat.{ℕ, ◌+◌, ◌*◌, ◌%◌}
use native.Mathlib.Omega.{arith}
use lib.Dec.{ltb}
use lib.ListN.{get_or}
use Rattle.bits.specs.Tab.{tabulate}
use Rattle.routes.specs.Route.{key_of}
use Rattle.routes.specs.declared.Route.{Route}
use Rattle.standing.specs.Standing.{remove}
use Rattle.counts.specs.Counts.{how_many, CountedBy, tallies}

abbrev route : ℕ → ℕ → ℕ → Route
route a len hop = record { addr = a; len = len; mark = 0; hop = hop }

unfoldable list_a : List Route
list_a = route 0 0 6 ∷ route 167772160 8 20 ∷ route 167837696 16 31 ∷ route 167838208 24 44 ∷ route 167838336 25 57 ∷ []

-- without 10.1.2.128/25, and without 10.1.2.0/24 too
unfoldable without25 : List Route
without25 = remove (key_of 167838336 25) list_a

unfoldable without24 : List Route
without24 = remove (key_of 167838208 24) without25

-- a pool of two chunks of 256 cells: the first hangs from first cell 2561, and the second is free
abbrev live : ℕ → Bool
live q = ltb q 256

abbrev at : ℕ → ℕ
at q = 2561 * 256 + q % 256

-- first cells 2560 to 2562, of 16 bits; and places of the pool, of 24 bits: 1 to 3 of the first chunk, and 2 of the free one
unfoldable firsts : List Route → List ℕ
firsts rs = map (how_many rs 16) (2560 ∷ 2561 ∷ 2562 ∷ [])

unfoldable seconds : List Route → List ℕ
seconds rs = map (λ q. get_or (tallies rs 24 512 live at) q 0) (1 ∷ 2 ∷ 3 ∷ 258 ∷ [])

first-counts : map firsts (list_a ∷ without25 ∷ without24 ∷ []) ≡ (0 ∷ 2 ∷ 0 ∷ []) ∷ (0 ∷ 1 ∷ 0 ∷ []) ∷ (0 ∷ 0 ∷ 0 ∷ []) ∷ []
unfolding firsts list_a without25 without24 remove how_many
first-counts = refl

second-counts : map seconds (list_a ∷ without25 ∷ without24 ∷ []) ≡ (0 ∷ 1 ∷ 0 ∷ 0 ∷ []) ∷ (0 ∷ 0 ∷ 0 ∷ 0 ∷ []) ∷ (0 ∷ 0 ∷ 0 ∷ 0 ∷ []) ∷ []
unfolding seconds list_a without25 without24 remove how_many tallies tabulate
second-counts = refl

-- 10.1.0.0/16 is not longer than 16 bits, and not counted
not_three : how_many list_a 16 2561 ≡ 3 → ⊥
unfolding list_a how_many
not_three e = omega arith

-- counts that are true by the places alone are wrong: a free chunk's are 0
not_free : CountedBy list_a 24 512 live at (λ q. how_many list_a 24 (at q)) → ⊥
unfolding list_a how_many
not_free c = let z = c.blank 258 (omega arith) refl in omega arith
