-- What a word says, as an answer: what was found, or the number of a refusal.
use Rattle.std.specs.Prelude.{ℕ, Result, Ok, Err}
use Rattle.routes.specs.Said.{Said, accepted, refused}
use Rattle.routes.specs.Answers.{found_values}
use Rattle.routes.specs.declared.found.Found.{Found}

abbrev pub told_by : Result Found ℕ → Said
told_by (Ok f) = accepted (found_values f)
told_by (Err n) = refused n
