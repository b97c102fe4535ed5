-- One law for each case of the answer.
use native.Mathlib.Omega.{arith}
use Rattle.basic_many.proofs.ManyReturns.{word-hop, word-err}
use Rattle.basic_many.proofs.word.Goals as goal

pub returns-in-Ok : goal.returns-in-Ok
returns-in-Ok c = rw c.in-Ok.is (word-hop _ _ (omega (arith, c.from.ensures, c.unwrap_or.ensures)) (omega arith))

pub returns-in-Err : goal.returns-in-Err
returns-in-Err c = rw (c.refusal_word.ensures, c.in-Err.is) (word-err _)
