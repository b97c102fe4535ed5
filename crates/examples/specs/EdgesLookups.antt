-- Lookups in tables of any content: each way a walk can end, with cells at both sides of each limit, and where in its pool a cell is read.
use Rattle.std.specs.Prelude.{cond, List, [], ◌∷◌, ℕ, ◌+◌, ◌*◌, ◌%◌, ◌^◌, eqb, replicate}
use Rattle.bits.specs.Tab.{tabulate}
use Rattle.routes.specs.Said.{Said, refused, hop_after, no_route_after}
use Rattle.sail.specs.Geometry.{standard_geo, small_geo, bits2, bits3}
use Rattle.sail.specs.Lent.{Lent, lent}
use Rattle.sail.specs.Sound.{fresh_table}
use Rattle.sail.specs.Walk.{lookup_said}
use Rattle.sail.specs.declared.geometry.Geometry.{Geometry}
use Rattle.examples.specs.Lines.{ip, Line, ◌gives◌}

-- a table by functions: what each cell holds, and how many chunks each pool has
pub record Content : Type 0 where
  pub geometry : Geometry
  pub chunks2 : ℕ
  pub chunks3 : ℕ
  pub first : ℕ → ℕ
  pub second : ℕ → ℕ
  pub third : ℕ → ℕ

abbrev pub many2 : Content → ℕ
many2 h = h.chunks2 * 2 ^ bits2 h.geometry

abbrev pub many3 : Content → ℕ
many3 h = h.chunks3 * 2 ^ bits3 h.geometry

unfoldable pub arrays : Content → Lent
arrays h =
    lent [] (tabulate (2 ^ h.geometry.p1) h.first) (tabulate (many2 h) h.second) (tabulate (many3 h) h.third)
    (replicate h.chunks2 0) (replicate h.chunks3 0) (replicate (2 ^ h.geometry.p1) 0) (replicate (many2 h) 0)

pub data Asked : Type 0 where
  lookup : Content → ℕ → Asked

unfoldable pub answer : Asked → Said
answer (lookup h a) = lookup_said (fresh_table h.geometry) (arrays h) a

-- cell i holds v, all others a leaf of hop 9
abbrev at : ℕ → ℕ → ℕ → ℕ
at i v q = cond (eqb q i) v (32768 + 9)

-- each cell is a leaf whose hop is its place
abbrev placed : ℕ → ℕ
placed q = 32768 + q % 32768

-- 2 second chunks and 3 third chunks of the standard geometry. The first cell of 10.1.2.200 is 2561; of each chunk it reads cell 2, then
-- cell 200
abbrev first_holds : ℕ → Content
first_holds v = record { geometry = standard_geo; chunks2 = 2; chunks3 = 3; first = at 2561 v; second = placed; third = placed }

abbrev second_holds : ℕ → Content
second_holds v = record { geometry = standard_geo; chunks2 = 2; chunks3 = 3; first = at 2561 1; second = at 2 v; third = placed }

abbrev third_holds : ℕ → Content
third_holds v = record { geometry = standard_geo; chunks2 = 2; chunks3 = 3; first = at 2561 1; second = at 2 1; third = at 200 v }

-- the largest pools, and none
abbrev largest : ℕ → ℕ → Content
largest v w = record { geometry = standard_geo; chunks2 = 4096; chunks3 = 4096; first = at 2561 v; second = at (4095 * 256 + 2) w; third = placed }

abbrev bare : ℕ → Content
bare v = record { geometry = standard_geo; chunks2 = 0; chunks3 = 0; first = at 2561 v; second = placed; third = placed }

-- the small geometry: 10.1.2.200 reads first cell 160, cell 64 of its second chunk and cell 712 of its third
abbrev small_holds : ℕ → ℕ → Content
small_holds v w = record { geometry = small_geo; chunks2 = 2; chunks3 = 2; first = at 160 v; second = at (1024 + 64) w; third = placed }

unfoldable pub edges : List (Line Asked)
edges =
    -- "A cell with its top bit set is a leaf: the low 15 bits are the hop, 0 for no route"; 5: "a chunk number is 0 or beyond its pool"
    (lookup (first_holds 32768) (ip 10 1 2 200) gives no_route_after 1)
    ∷ (lookup (first_holds 32769) (ip 10 1 2 200) gives hop_after 1 1)
    ∷ (lookup (first_holds 65535) (ip 10 1 2 200) gives hop_after 1 32767)
    ∷ (lookup (first_holds 0) (ip 10 1 2 200) gives refused 5)
    ∷ (lookup (first_holds 3) (ip 10 1 2 200) gives refused 5)
    ∷ (lookup (first_holds 32767) (ip 10 1 2 200) gives refused 5)
    -- "Chunk c begins at cell (c - 1) times the chunk size"
    ∷ (lookup (first_holds 1) (ip 10 1 2 200) gives hop_after 2 2)
    ∷ (lookup (first_holds 2) (ip 10 1 2 200) gives hop_after 2 258)
    -- the addresses at both ends, and one whose first cell holds something else
    ∷ (lookup (first_holds 0) (ip 0 0 0 0) gives hop_after 1 9)
    ∷ (lookup (first_holds 0) (ip 255 255 255 255) gives hop_after 1 9)
    ∷ (lookup (first_holds 2) (ip 10 1 255 255) gives hop_after 2 511)
    -- second cells
    ∷ (lookup (second_holds 32768) (ip 10 1 2 200) gives no_route_after 2)
    ∷ (lookup (second_holds 65535) (ip 10 1 2 200) gives hop_after 2 32767)
    ∷ (lookup (second_holds 0) (ip 10 1 2 200) gives refused 5)
    ∷ (lookup (second_holds 4) (ip 10 1 2 200) gives refused 5)
    ∷ (lookup (second_holds 32767) (ip 10 1 2 200) gives refused 5)
    ∷ (lookup (second_holds 1) (ip 10 1 2 200) gives hop_after 3 200)
    ∷ (lookup (second_holds 3) (ip 10 1 2 200) gives hop_after 3 712)
    -- third cells; 5: "a third cell is no leaf"
    ∷ (lookup (third_holds 32768) (ip 10 1 2 200) gives no_route_after 3)
    ∷ (lookup (third_holds 65535) (ip 10 1 2 200) gives hop_after 3 32767)
    ∷ (lookup (third_holds 0) (ip 10 1 2 200) gives refused 5)
    ∷ (lookup (third_holds 1) (ip 10 1 2 200) gives refused 5)
    ∷ (lookup (third_holds 32767) (ip 10 1 2 200) gives refused 5)
    -- the last of 4,096 chunks, and one beyond; no chunks at all
    ∷ (lookup (largest 4096 (32768 + 57)) (ip 10 1 2 200) gives hop_after 2 57)
    ∷ (lookup (largest 4097 (32768 + 57)) (ip 10 1 2 200) gives refused 5)
    ∷ (lookup (largest 4096 4096) (ip 10 1 2 200) gives hop_after 3 32712)
    ∷ (lookup (largest 4096 4097) (ip 10 1 2 200) gives refused 5)
    ∷ (lookup (bare 32788) (ip 10 1 2 200) gives hop_after 1 20)
    ∷ (lookup (bare 1) (ip 10 1 2 200) gives refused 5)
    -- the small geometry
    ∷ (lookup (small_holds 32788 0) (ip 10 1 2 200) gives hop_after 1 20)
    ∷ (lookup (small_holds 2 32799) (ip 10 1 2 200) gives hop_after 2 31)
    ∷ (lookup (small_holds 2 2) (ip 10 1 2 200) gives hop_after 3 1736)
    ∷ (lookup (small_holds 3 2) (ip 10 1 2 200) gives refused 5)
    ∷ (lookup (small_holds 2 3) (ip 10 1 2 200) gives refused 5)
    ∷ []
