-- What a party's report says where the sizes are right.
use Rattle.std.specs.Prelude.{not, cond, [], ◌∷◌}
use Rattle.routes.specs.Said.{Said, accepted, refused}
use Rattle.standing.specs.Cells.{need}
use Rattle.pair.specs.Party.{Party}
use Rattle.pair.specs.PairLent.{PairLent}
use Rattle.pair.specs.PairSound.{share_of, standing_for, pair_sound?}
use Rattle.pair.specs.declared.Pair.{Pair}

abbrev pub sound_told : Party → Pair → PairLent → Said
sound_told w t b =
    cond (not (pair_sound? t b)) (refused 5)
    (accepted ((share_of w t).count ∷ need (standing_for w t b) t.geometry.p1 ∷ need (standing_for w t b) t.geometry.p2 ∷ []))
