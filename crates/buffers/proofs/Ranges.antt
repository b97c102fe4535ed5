-- The test of a range, by where an index stands: below it, in it or above it.
use mathlib.Core.Path.{◌≡◌, refl}
use mathlib.Core.Bool.{Bool, true, false, ◌&&◌}
use Prim.Native.Nat.{ℕ, ◌<◌, ◌≤◌}
use native.Mathlib.Decide.{dec_le, dec_lt}
use native.Mathlib.Omega.{arith}
use lib.Dec.{leb, ltb}
use borrow.Author.Tests.{lt-ltb, le-ltb, le-leb, lt-leb}
use Rattle.buffers.specs.Fill.{between}

pub between_in : (from to i : ℕ) → from ≤ i → i < to → between from to i ≡ true
between_in from to i a b = rw (le-leb from i a, lt-ltb i to b)

pub between-below : (from to i : ℕ) → i < from → between from to i ≡ false
between-below from to i a = rw (lt-leb from i a)

pub between-above : (from to i : ℕ) → to ≤ i → between from to i ≡ false
between-above from to i a = go (leb from i)
  where
    go : (b : Bool) → b && ltb i to ≡ false
    go true = le-ltb i to a
    go false = refl

-- where i stands
pub data Side (from to i : ℕ) : Type 0 where
  below : i < from → Side from to i
  inside : from ≤ i → i < to → Side from to i
  above : from ≤ i → to ≤ i → Side from to i

pub side : (from to i : ℕ) → Side from to i
side from to i = go (dec_le from i) (dec_lt i to)
  where
    go : Dec (from ≤ i) → Dec (i < to) → Side from to i
    go (yes a) (yes b) = inside a b
    go (yes a) (no b) = above a (omega arith)
    go (no a) q = below (omega arith)
