-- What a repair says: the records dropped, and the first, second and third cells that differ.
use Rattle.std.specs.Prelude.{[], ◌∷◌}
use Rattle.routes.specs.Said.{Said, accepted, refused}
use Rattle.repair.specs.declared.repair.Repaired.{Repaired}
use Rattle.repair.specs.declared.repair.Repaired.TheVariants.{Done, Refused}

unfoldable pub means_repaired : Repaired → Said
means_repaired (Done dropped first second third) = accepted (dropped ∷ first ∷ second ∷ third ∷ [])
means_repaired (Refused n) = refused n
