-- The statement of `run_check`, as a predicate on what was given and what is answered. It is the call's `ensures`, and that it leaves one
-- answer is shown of it in proofs/OneAnswer.antt. Those of `run` and `tally` are the records `IsRun` and `IsTally`.
use Rattle.std.specs.Prelude.{List, ◌≡◌, ℕ, Result}
use Rattle.refusals.specs.declared.Refused.{Refused}
use Rattle.runs.specs.Run.{run_said, means_run_check}
use Rattle.runs.specs.declared.run.Span.{Span}

abbrev pub MeetsRunCheck : List ℕ → ℕ → ℕ → Result Span Refused → Type 0
MeetsRunCheck list addr len r = means_run_check r ≡ run_said list addr len
