-- What each answer of `longest` says.
use mathlib.Core.Path.{◌≡◌, sym}
use mathlib.Core.List.{List}
use Prim.Native.Nat.{ℕ, ◌+◌, ◌*◌, ◌≤◌, ◌<◌}
use native.Mathlib.Omega.{arith}
use lib.ListN.{length}
use Rattle.std.specs.Prelude.{Some, None, Ok, Err}
use Rattle.refusals.specs.declared.Refused.{Refused}
use Rattle.routes.specs.Answers.{means_input, means_got}
use Rattle.routes.specs.Input.{input_said}
use Rattle.routes.specs.Record.{record_at, GoodInput}
use Rattle.routes.specs.Said.{said_by}
use Rattle.routes.specs.declared.Route.{Route}
use Rattle.routes.proofs.Inputs.{input-ok, input-err, input-records}
use Rattle.routes.proofs.Saids.{and-then-told}
use Rattle.longest.specs.Longest.{LongestRecord}
use Rattle.longest.specs.Said.{longest_said}
use Rattle.longest.proofs.Bests.{best-record}

-- the record that is found is one of them
pub its-place : {s : List ℕ} {n a low k : ℕ} → LongestRecord s n a low (Some k) → k < n
its-place (LongestRecord.one k u w) = u

pub its-bytes : {s : List ℕ} {n a low k : ℕ} → GoodInput s n → LongestRecord s n a low (Some k) → (k + 1) * 8 ≤ length s
its-bytes ok found = omega (arith, its-place found, ok.whole)

module _ (s : List ℕ) (a : ℕ) where
  module _ (n : ℕ) (e : means_input (Ok n) ≡ input_said s) where
    pub says-nothing : LongestRecord s n a 0 None → means_got (Ok None) ≡ longest_said s a
    unfolding said_by longest_said
    says-nothing found = rw (input-ok s n e, best-record s n a (input-records s n e) found)

    module _ (k : ℕ) (found : LongestRecord s n a 0 (Some k)) where
      pub says-one : (r : Route) → r ≡ record_at s k → means_got (Ok (Some r)) ≡ longest_said s a
      unfolding said_by longest_said
      says-one r er = rw (input-ok s n e, best-record s n a (input-records s n e) found, er)

  pub says-refused : (w : Refused) → means_input (Err w) ≡ input_said s → means_got (Err w) ≡ longest_said s a
  unfolding said_by longest_said
  says-refused w e = rw (input-err s w e) (sym (and-then-told w _))
