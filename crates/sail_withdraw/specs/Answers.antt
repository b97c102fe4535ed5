-- What each case of the answer of withdraw says.
use Rattle.std.specs.Prelude.{[], ◌∷◌}
use Rattle.bits.specs.Count.{bit}
use Rattle.routes.specs.Said.{Said, accepted, refused}
use Rattle.sail_withdraw.specs.declared.answers.Withdraw.{Withdraw}
use Rattle.sail_withdraw.specs.declared.answers.Withdraw.TheVariants as withdraw

-- whether bits were cleared
unfoldable pub means_withdraw : Withdraw → Said
means_withdraw (withdraw.Removed c) = accepted (bit c ∷ [])
means_withdraw (withdraw.Refused n) = refused n
