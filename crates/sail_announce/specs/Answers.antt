-- What each case of the answer of announce says.
use Rattle.std.specs.Prelude.{[], ◌∷◌}
use Rattle.bits.specs.Count.{bit}
use Rattle.routes.specs.Said.{Said, accepted, refused}
use Rattle.sail_announce.specs.declared.answers.Announce.{Announce}
use Rattle.sail_announce.specs.declared.answers.Announce.TheVariants as announce

-- whether bits were cleared; then 0 for added, 1 for replaced
unfoldable pub means_announce : Announce → Said
means_announce (announce.Added c) = accepted (bit c ∷ 0 ∷ [])
means_announce (announce.Replaced c) = accepted (bit c ∷ 1 ∷ [])
means_announce (announce.Refused n) = refused n
