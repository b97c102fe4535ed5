-- The demands of a broadcast. It changes nothing: what it is lent it takes by `&`.
use mathlib.Core.Path.{◌≡◌, refl}
use mathlib.Core.Logic.{◌↔◌}
use mathlib.Core.List.{List}
use Prim.Native.Nat.{ℕ}
use Rattle.routes.specs.Said.{Said}
use Rattle.routes.proofs.Judged.{exactly}
use Rattle.broadcast.specs.Cast.{cast_said}
use Rattle.broadcast.specs.Contract.{MeetsBroadcast}
use Rattle.broadcast.specs.Meaning.{Casting}
use Rattle.std.specs.Prelude.{Bool, Result}
use Rattle.refusals.specs.declared.Refused.{Refused}
use Rattle.broadcast.proofs.Judged.{cast-only, cast-judged}
use Rattle.broadcast.proofs.OneAnswer as broadcast

-- Demand 1. "Carries its number": 23, then the input's; and after them a broadcast is told exactly where the address is one
pub refused-number-broadcast : (version : ℕ) (input : List ℕ) (addr : ℕ) (s : Said) → (cast_said version input addr ≡ s) ↔ Casting version input addr s
refused-number-broadcast version input addr =
    exactly (Casting version input addr) _ _ refl (cast-judged version input addr) (cast-only version input addr)

-- "Show that no second answer would satisfy it."
pub one-answer-broadcast : (version : ℕ) (input : List ℕ) (addr : ℕ) (x y : Result Bool Refused) → MeetsBroadcast version input addr x
    → MeetsBroadcast version input addr y → x ≡ y
one-answer-broadcast = broadcast.one-answer-broadcast
