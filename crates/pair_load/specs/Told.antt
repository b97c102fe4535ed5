-- What a party's load says where the sizes are right.
use Rattle.std.specs.Prelude.{not, cond, List, [], ℕ}
use Rattle.routes.specs.Input.{input_said}
use Rattle.routes.specs.Said.{Said, accepted, refused, and_then}
use Rattle.sail_theory.specs.Calls.{Terms, load_fault, or_say, input_routes}
use Rattle.pair.specs.Party.{Party}
use Rattle.pair.specs.PairLent.{PairLent}
use Rattle.pair.specs.PairSound.{pair_sound?}
use Rattle.pair.specs.PairCalls.{pair_terms}
use Rattle.pair.specs.declared.Pair.{Pair}

-- of the input, by the terms
abbrev pub input_told : Terms → List ℕ → Said
input_told m input = and_then (input_said input) (or_say (load_fault m (input_routes input)) (accepted []))

abbrev pub sound_told : Party → Pair → PairLent → List ℕ → Said
sound_told w t b input = cond (not (pair_sound? t b)) (refused 5) (input_told (pair_terms w t b) input)
