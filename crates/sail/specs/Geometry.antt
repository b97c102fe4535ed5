-- The two levels of a table, their limits, and the sizes that follow.
use Rattle.std.specs.Prelude.{ℕ, ◌-◌, ◌^◌, ◌≤◌, ◌<◌, Bool, ◌&&◌, ◌≡◌, leb}
use Rattle.sail.specs.declared.geometry.Geometry.{Geometry}

-- "Two have names: standard (16, 24), as in the source, and small (12, 22)"
abbrev pub standard_geo : Geometry
standard_geo = record { p1 = 16; p2 = 24 }

abbrev pub small_geo : Geometry
small_geo = record { p1 = 12; p2 = 22 }

-- a second chunk has 2 ^ bits2 cells, a third chunk 2 ^ bits3: p1, bits2 and bits3 add up to the 32 bits of an address
abbrev pub bits2 : Geometry → ℕ
bits2 g = g.p2 - g.p1

abbrev pub bits3 : Geometry → ℕ
bits3 g = 32 - g.p2

-- "p1 is 12 to 16, p2 is 22 to 26, p2 - p1 at most 10"
unfoldable pub valid_geo : Geometry → Bool
valid_geo g = leb 12 g.p1 && (leb g.p1 16 && (leb 22 g.p2 && (leb g.p2 26 && leb (bits2 g) 10)))

-- the same as facts
pub record Valid (g : Geometry) : Type 0 where
  pub p1_low : 12 ≤ g.p1
  pub p1_high : g.p1 ≤ 16
  pub p2_low : 22 ≤ g.p2
  pub p2_high : g.p2 ≤ 26
  pub near : bits2 g ≤ 10

-- r is 2 ^ k, and so at least 1, and at most m
pub record Power (r k m : ℕ) : Type 0 where
  pub is : r ≡ 2 ^ k
  pub some : 0 < r
  pub few : r ≤ m
