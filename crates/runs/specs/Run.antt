-- The run under a prefix, and what the check beside it says.
use Rattle.std.specs.Prelude.{ℕ, ◌+◌, ◌-◌, ◌*◌, ◌/◌, ◌^◌, ◌≡◌, cond, List, [], ◌∷◌, length, Result}
use Rattle.std.specs.Borrow.{Bor}
use Rattle.routes.specs.Route.{key_of}
use Rattle.routes.specs.Record.{part}
use Rattle.refusals.specs.declared.Refused.{Refused}
use Rattle.routes.specs.Said.{Said, accepted, refused, and_then, accepts, said_by}
use Rattle.routes.specs.Input.{proper_prefix, input_said}
use Rattle.lists.specs.Place.{place_of}
use Rattle.runs.specs.declared.run.Span.{Span}

-- the key of the first address after a prefix: every record inside the prefix is before it, and every later one is not
abbrev pub past_key : ℕ → ℕ → ℕ
past_key a l = key_of (a + 2 ^ (32 - l)) 0

-- the first record that isn't smaller than the prefix, and the first that is after everything inside it
abbrev pub run_start : List ℕ → ℕ → ℕ → ℕ
run_start s a l = place_of s (length s / 8) (key_of a l)

abbrev pub run_end : List ℕ → ℕ → ℕ → ℕ
run_end s a l = place_of s (length s / 8) (past_key a l)

abbrev pub run_count : List ℕ → ℕ → ℕ → ℕ
run_count s a l = run_end s a l - run_start s a l

-- the input's refusals first, then the prefix (3); then where the run starts, and how many records it has
unfoldable pub run_said : List ℕ → ℕ → ℕ → Said
run_said s a l =
    and_then (input_said s) (cond (proper_prefix a l) (accepted (run_start s a l ∷ run_count s a l ∷ [])) (refused 3))

-- where it starts, and how many records it has
abbrev pub run_values : Span → List ℕ
run_values r = r.start ∷ r.count ∷ []

abbrev pub means_run_check : Result Span Refused → Said
means_run_check = said_by run_values

-- the records of the run; none where it is refused
unfoldable pub run_of : List ℕ → ℕ → ℕ → List ℕ
run_of s a l = cond (accepts (run_said s a l)) (part s (run_start s a l) (run_count s a l)) []

-- the record of the list that the run stands before; the list's first where it is refused
unfoldable pub run_at : List ℕ → ℕ → ℕ → ℕ
run_at s a l = cond (accepts (run_said s a l)) (run_start s a l) 0

-- r is the run, and no copy of it: it lies in the list's own memory, from record run_at on
pub record IsRun (list r : Bor (List ℕ)) (a l : ℕ) : Type 0 where
  pub holds : r.now ≡ run_of list.now a l
  pub stands : r.ref_ptr ≡ (list.ref_ptr.0, list.ref_ptr.1 + run_at list.now a l * 8)
