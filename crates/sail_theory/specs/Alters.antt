-- What a change of one prefix may alter.
use Rattle.std.specs.Prelude.{true, List, ◌≡◌, ℕ, ◌/◌, ◌^◌, ◌<◌, get_or, length}
use Rattle.bits.specs.Slot.{slot}
use Rattle.sail.specs.Geometry.{bits2, bits3}
use Rattle.sail.specs.Lent.{Lent}
use Rattle.sail.specs.Level.{Level, in_use, entry, chunks_of, whole, level1, level2, level3}
use Rattle.sail.specs.Reads.{ReadsFirst, ReadsSecond, ReadsThird}
use Rattle.sail.specs.declared.geometry.Geometry.{Geometry}

-- From l to u no cell is altered but those that serve an address under the prefix a, len, and those in chunks that are opened or closed. (A
-- cell serves x where the lookup of x reads it; a chunk that is in use before and after, or neither, is not opened or closed.)
pub record Alters (g : Geometry) (a len : ℕ) (l u : Lent) : Type 0 where
  pub first : (q : ℕ) → q < length l.first
      → ((x : ℕ) → x < 2 ^ 32 → slot len x ≡ slot len a → ReadsFirst g x q → ⊥)
      → get_or u.first q 0 ≡ get_or l.first q 0
  pub second : (q : ℕ) → q < length l.second
      → ((x : ℕ) → x < 2 ^ 32 → slot len x ≡ slot len a → ReadsSecond g (whole l) x q → ⊥)
      → in_use (entry u.own2) (q / 2 ^ bits2 g) ≡ in_use (entry l.own2) (q / 2 ^ bits2 g) → get_or u.second q 0 ≡ get_or l.second q 0
  pub third : (q : ℕ) → q < length l.third
      → ((x : ℕ) → x < 2 ^ 32 → slot len x ≡ slot len a → ReadsThird g (whole l) x q → ⊥)
      → in_use (entry u.own3) (q / 2 ^ bits3 g) ≡ in_use (entry l.own3) (q / 2 ^ bits3 g) → get_or u.third q 0 ≡ get_or l.third q 0

-- The same by cells, as a program that repaints them has it. No address under the prefix lies in cell i of level p:
unfoldable pub NoneUnder : ℕ → ℕ → ℕ → ℕ → Type 0
NoneUnder a len p i = (x : ℕ) → x < 2 ^ 32 → slot p x ≡ i → slot len x ≡ slot len a → ⊥

-- from the cells of v to those of v': a cell stays where its place is live as before, stands for the same cell, and no address under the
-- prefix lies there
pub record SamePlace (v v' : Level) (q : ℕ) : Type 0 where
  pub live : v'.live q ≡ v.live q
  pub at : v.live q ≡ true → v'.at q ≡ v.at q

pub record Framed (a len : ℕ) (v v' : Level) (cells cells' : List ℕ) : Type 0 where
  pub stays : (q : ℕ) → q < v.places → SamePlace v v' q → (v.live q ≡ true → NoneUnder a len v.bits (v.at q)) → get_or cells' q 0 ≡ get_or cells q 0

pub record Frame (g : Geometry) (a len : ℕ) (l u : Lent) : Type 0 where
  pub first : Framed a len (level1 g) (level1 g) l.first u.first
  pub second : Framed a len (level2 g (chunks_of l.own2)) (level2 g (chunks_of u.own2)) l.second u.second
  pub third : Framed a len (level3 g (chunks_of l.own2) (chunks_of l.own3)) (level3 g (chunks_of u.own2) (chunks_of u.own3)) l.third u.third
