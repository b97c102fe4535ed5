-- What each case of the answer to a message says.
use Rattle.std.specs.Prelude.{[], ◌∷◌}
use Rattle.routes.specs.Said.{Said, accepted, refused, refused_at}
use Rattle.sail_update.specs.declared.answers.Update.{Update}
use Rattle.sail_update.specs.declared.answers.Update.TheVariants as update

-- all entries; or the refusal for room that stopped the work, with the entries dealt with before it; or the refusal of the whole
unfoldable pub means_update : Update → Said
means_update (update.Done k) = accepted (k ∷ [])
means_update (update.Stopped n k) = refused_at n k
means_update (update.Refused n) = refused n
