-- One law for each case of the index.
use native.Mathlib.Omega.{arith}
use Rattle.basic_many.proofs.ManyReturns.{word-index, word-number}
use Rattle.basic_many.proofs.refusal_word.Goals as goal

pub returns-in-Some : goal.returns-in-Some
returns-in-Some c = rw c.in-Some.is (word-index _ _ (omega (arith, c.number.ensures, c.from-number.ensures)) (omega arith) _)

pub returns-in-None : goal.returns-in-None
returns-in-None c = rw c.in-None.is (word-number _ _ (omega (arith, c.number.ensures, c.from-number.ensures)) (omega arith))
