-- `lists::test::list_ok`. Each test that fails refutes one part of `Listed`; those that pass give all of it.
use native.Mathlib.Omega.{arith}
use Rattle.bits.proofs.Tells.{is-no}
use Rattle.lists.proofs.ListTest.{not_right, then-zeros}
use Rattle.lists.proofs.test.list_ok.Goals as goal

pub returns-then-list-ne0 : goal.returns-then-list-ne0
returns-then-list-ne0 c = is-no (λ h. omega arith)

pub returns-then-n-gt4096 : goal.returns-then-n-gt4096
returns-then-n-gt4096 c = is-no (λ h. omega arith)

pub returns-then-list-n : goal.returns-then-list-n
returns-then-list-n c = is-no (λ h. omega arith)

pub returns-then-not-all_right : goal.returns-then-not-all_right
returns-then-not-all_right c = search not_right

pub returns : goal.returns
returns c = search then-zeros
