-- A hop of 0 says that there is none, and the layout has 0 there too.
use Rattle.std.specs.Prelude.{◌≡◌, ℕ, Option, Some, None, refl}
use Rattle.std.specs.Option.{unwrap_or}
use native.Mathlib.Omega.{arith}
use Rattle.routes.specs.Answers.{reads_and}
use Rattle.routes.specs.Said.{packed, said_plainly, value}
use Rattle.packing_images.proofs.tree_found.Goals as goal

hop-word : (n : ℕ) (o : Option ℕ) → value 1 (reads_and n o) ≡ unwrap_or o 0
hop-word n None = refl
hop-word n (Some h) = refl

reads-word : (n : ℕ) (o : Option ℕ) → value 0 (reads_and n o) ≡ n
reads-word n None = refl
reads-word n (Some h) = refl

pub returns-in-Ok : goal.returns-in-Ok
unfolding packed said_plainly
returns-in-Ok c = rw c.in-Ok.is (omega (arith, c.found_number.ensures, c.unwrap_or.ensures, hop-word c.in-Ok.f.reads c.in-Ok.f.hop, reads-word c.in-Ok.f.reads c.in-Ok.f.hop))

pub returns-in-Err : goal.returns-in-Err
unfolding packed said_plainly
returns-in-Err c = rw c.in-Err.is (omega (arith, c.from.ensures, c.number.ensures))
