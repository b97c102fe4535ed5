-- What differs from a word at a set bit alone is the word without it.
use Rattle.tree_places.proofs.Bits.{bit-cleared}
use native.Mathlib.Omega.{arith}
use Rattle.tree_places.proofs.without_bit.Goals as goal

pub returns : goal.returns
returns c = bit-cleared _ _ (omega arith) c.requires.0 c.requires.1
