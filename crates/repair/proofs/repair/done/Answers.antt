-- `repair::repair::done`. Each number fits 32 bits.
use mathlib.Core.Path.{refl}
use native.Mathlib.Omega.{arith}
use Rattle.repair.specs.Answers.{means_repaired}
use Rattle.repair.proofs.repair.done.Goals as goal

pub overflow_sub-dropped : goal.overflow_sub-dropped
unfolding means_repaired
overflow_sub-dropped c = omega (arith, c.requires.fewer)

pub overflow_cast-dropped : goal.overflow_cast-dropped
unfolding means_repaired
overflow_cast-dropped c = record { fits = omega (arith, c.requires.few) }

pub overflow_cast-first : goal.overflow_cast-first
unfolding means_repaired
overflow_cast-first c = record { fits = c.requires.first }

pub overflow_cast-second : goal.overflow_cast-second
unfolding means_repaired
overflow_cast-second c = record { fits = c.requires.second }

pub overflow_cast-third : goal.overflow_cast-third
unfolding means_repaired
overflow_cast-third c = record { fits = c.requires.third }

pub returns : goal.returns
unfolding means_repaired
returns c = refl
