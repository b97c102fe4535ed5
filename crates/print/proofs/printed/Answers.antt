-- `print::printed`: a buffer of less than a page is refused before anything is loaded.
use mathlib.Core.Path.{refl}
use native.Mathlib.Omega.{arith}
use Rattle.print.proofs.printed.Goals as goal

pub returns-then-out-lt-PAGE : goal.returns-then-out-lt-PAGE
returns-then-out-lt-PAGE c = record { roomy = λ h. absurd (omega arith); short = λ h. (refl, refl) }

pub returns : goal.returns
returns c = record { roomy = λ h. c.put_loaded.ensures; short = λ h. absurd (omega arith) }
