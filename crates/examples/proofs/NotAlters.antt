-- List A's table with one cell altered outside the prefix is not what a change may leave: one cell of each array.
use mathlib.Core.Logic.{◌≢◌}
use Prim.Native.Nat.{ℕ}
use lib.ListN.{get_or}
use native.Mathlib.Omega.{arith}
use Rattle.sail.specs.Geometry.{standard_geo}
use Rattle.sail_theory.specs.Alters.{Alters}
use Rattle.sail_theory.proofs.frames.Outside.{first-outside, second-outside, third-outside}
use Rattle.examples.specs.Lines.{ip}
use Rattle.examples.proofs.TableA.{lent_a, sound-A}
use Rattle.examples.proofs.NotSound.{first_is, second_is, third_is}

pub not_first : (v : ℕ) → v ≢ get_or lent_a.first 2562 0 → Alters standard_geo (ip 10 1 0 0) 16 lent_a (first_is 2562 v) → ⊥
not_first v = first-outside lent_a v (omega (arith, sound-A.sized.cells1))

pub not-second : (v : ℕ) → v ≢ get_or lent_a.second 3 0 → Alters standard_geo (ip 10 1 2 0) 24 lent_a (second_is 3 v) → ⊥
not-second v = second-outside lent_a v (omega (arith, sound-A.sized.cells2))

pub not_third : (v : ℕ) → v ≢ get_or lent_a.third 5 0 → Alters standard_geo (ip 10 1 2 128) 25 lent_a (third_is 5 v) → ⊥
not_third v = third-outside lent_a v (omega (arith, sound-A.sized.cells3))
