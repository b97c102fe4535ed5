-- What is not said by need. List A needs a chunk of either pool. Where one is lent, it is neither refused with 7 nor with 8 nor with anything
-- else; where none is, it is not accepted nor refused with another number, and the second pool comes first. What is for want of chunks is 7 or 8.
use mathlib.Core.Path.{◌≡◌, refl}
use mathlib.Core.Bool.{false≢true}
use mathlib.Core.List.{[], ◌∷◌}
use Prim.Native.Nat.{ℕ}
use native.Mathlib.Omega.{arith}
use Rattle.routes.specs.Said.{accepted, refused, refused_at}
use Rattle.sail.specs.Geometry.{standard_geo}
use Rattle.sail_theory.specs.Calls.{Terms}
use Rattle.sail_theory.specs.WantOfChunks.{ByNeed, ForChunks}
use Rattle.examples.proofs.TableA.{routes_a, need2, need3}

abbrev terms : ℕ → ℕ → Terms
terms m2 m3 = record { geometry = standard_geo; room = 8; most2 = m2; most3 = m3 }

-- with enough of both
pub seven-early : ByNeed (terms 1 1) routes_a (refused 7) → ⊥
seven-early b = omega (arith, need2, b.seven.0 refl)

pub eight-early : ByNeed (terms 1 1) routes_a (refused 8) → ⊥
eight-early b = omega (arith, need3, (b.eight.0 refl).1)

pub other-refusal : ByNeed (terms 1 1) routes_a (refused 6) → ⊥
other-refusal b = false≢true (b.taken.1 (omega (arith, need2), omega (arith, need3)))

-- without second chunks, and without third ones
pub seven-left-out : ByNeed (terms 0 1) routes_a (accepted []) → ⊥
seven-left-out b = omega (arith, need2, (b.taken.0 refl).0)

pub eight-for-seven : ByNeed (terms 0 0) routes_a (refused 8) → ⊥
eight-for-seven b = omega (arith, need2, (b.eight.0 refl).0)

pub eight-left-out : ByNeed (terms 1 0) routes_a (accepted []) → ⊥
eight-left-out b = omega (arith, need3, (b.taken.0 refl).1)

pub seven-for-eight : ByNeed (terms 1 0) routes_a (refused 7) → ⊥
seven-for-eight b = omega (arith, need2, b.seven.0 refl)

-- another number where a chunk more is needed: 7 and 8 are given exactly then
pub six-for-seven : ByNeed (terms 0 1) routes_a (refused 6) → ⊥
six-for-seven b =
    let e : refused 6 ≡ refused 7 = b.seven.1 (omega (arith, need2)) in
    let z : ◌≡◌ {A = ℕ} 6 7 = cc in
    omega arith

pub six-for-eight : ByNeed (terms 1 0) routes_a (refused 6) → ⊥
six-for-eight b =
    let e : refused 6 ≡ refused 8 = b.eight.1 (omega (arith, need2), omega (arith, need3)) in
    let z : ◌≡◌ {A = ℕ} 6 8 = cc in
    omega arith

-- for want of chunks: both numbers, and no other answer
pub both-for-chunks : ForChunks (refused 7) × ForChunks (refused 8)
both-for-chunks = ((omega arith, omega arith), (omega arith, omega arith))

pub six-not-for-chunks : ForChunks (refused 6) → ⊥
six-not-for-chunks f = omega (arith, f.0)

pub nine-not-for-chunks : ForChunks (refused 9) → ⊥
nine-not-for-chunks f = omega (arith, f.1)

pub index-not-for-chunks : (k : ℕ) → ForChunks (refused_at 7 k) → ⊥
index-not-for-chunks k f = f

pub taken-not-for-chunks : ForChunks (accepted (0 ∷ [])) → ⊥
taken-not-for-chunks f = f
