-- `runs::run::past_key`. The key of the first address after a prefix.
use native.Mathlib.Omega.{arith}
use Rattle.runs.proofs.Runs.{size_is}
use Rattle.runs.proofs.run.past_key.Goals as goal

pub overflow_mul-result : goal.overflow_mul-result
overflow_mul-result c = let z = size_is _ _ c.from.ensures c.requires in omega arith

pub overflow_add-result : goal.overflow_add-result
overflow_add-result c = let z = size_is _ _ c.from.ensures c.requires in omega arith

pub returns : goal.returns
returns c = let z = size_is _ _ c.from.ensures c.requires in omega arith
