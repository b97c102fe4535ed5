-- The maps of basic SAIL for lengths 0 to 16: one bit and one hop cell for each prefix, level after level.
use Rattle.std.specs.Prelude.{Bool, List, ◌≡◌, ℕ, suc, ◌+◌, ◌-◌, ◌*◌, ◌/◌, ◌%◌, ◌^◌, ltb, eqb, get_or}
use Rattle.bits.specs.Slot.{slot}
use Rattle.bits.specs.Bit.{bit_at, packed_bits}
use Rattle.bits.specs.Search.{first_of}
use Rattle.bits.specs.Tab.{tabulate}
use Rattle.standing.specs.Cells.{here, first, or_else}
use Rattle.routes.specs.declared.Route.{Route}

-- "level after level": the place of the prefix of l bits that are v, in the bits and in the cells alike. The levels before it have 2 ^ l - 1 places
unfoldable pub map_place : ℕ → ℕ → ℕ
map_place l v = 2 ^ l - 1 + v

-- the level of place i, the first that ends after it; and the bits of the prefix that the place is for
unfoldable pub level_of : ℕ → ℕ
level_of i = first_of (λ l. ltb i (2 ^ suc l - 1)) 17

unfoldable pub prefix_of : ℕ → ℕ
prefix_of i = i - (2 ^ level_of i - 1)

-- "one hop cell of 16 bits for each", "zero where no route stands": the hop of the route of exactly that prefix
unfoldable pub map_cell : List Route → ℕ → ℕ
map_cell rs i = or_else (first (here (level_of i) (prefix_of i)) rs) 0

-- "131,071 hop cells"
unfoldable pub map_cells : List Route → List ℕ
map_cells rs = tabulate 131071 (map_cell rs)

-- cell i holds a hop. (Past the last cell there is none.)
abbrev pub hop_there : List ℕ → ℕ → Bool
hop_there cells i = ltb 0 (get_or cells i 0)

-- "one bit for each prefix", "in 16,384 bytes, lowest bit first": it is set where the prefix's cell holds a hop. "The last bit zero": it has no cell
unfoldable pub map_bits : List ℕ → List ℕ
map_bits cells = tabulate 16384 (λ j. packed_bits (λ b. hop_there cells (8 * j + b)) 8)

-- bit i of the bytes, "lowest bit first": bit i % 8, counted from the least significant, of byte i / 8
abbrev pub is_set_at : List ℕ → ℕ → Bool
is_set_at bits i = eqb (bit_at (get_or bits (i / 8) 0) (i % 8)) 1

-- the bit, and the cell, of the first l bits of the address a
abbrev pub map_bit_for : List ℕ → ℕ → ℕ → Bool
map_bit_for bits a l = is_set_at bits (map_place l (slot l a))

abbrev pub cell_for : List ℕ → ℕ → ℕ → ℕ
cell_for cells a l = get_or cells (map_place l (slot l a)) 0

-- the sizes of the two arrays
pub record MapSizes (bits cells : ℕ) : Type 0 where
  pub bytes : bits ≡ 16384
  pub hops : cells ≡ 131071
