-- What each answer of a lookup in bit maps says.
use mathlib.Core.Path.{◌≡◌, ◌∙◌, refl, sym}
use mathlib.Core.Bool.{Bool, true, false, not}
use mathlib.Core.List.{List}
use Prim.Native.Nat.{ℕ}
use lib.ListN.{length}
use borrow.Author.Tests.{not-true, not-false}
use Rattle.std.specs.Prelude.{Option, Some, None, Result, Ok, Err}
use Rattle.refusals.specs.declared.Refusal.TheVariants as refusal
use Rattle.refusals.specs.declared.Refused.{Refused}
use Rattle.routes.specs.Input.{hop_fine}
use Rattle.routes.specs.Record.{routes_in}
use Rattle.routes.specs.Said.{said_by}
use Rattle.routes.proofs.Saids.{and-then-told}
use Rattle.basic.specs.Walk.{as_met, basic_walk, met_said}
use Rattle.basic.specs.Calls.{ready_said, means_ready, basic_said, means_basic_found}
use Rattle.basic.proofs.Checks.{ready-ok, ready-err}

-- what the walk says
pub told-none : means_basic_found (Ok None) ≡ met_said (as_met None)
unfolding said_by met_said
told-none = refl

module _ (h : ℕ) (t : Bool) (et : t ≡ hop_fine h) where
  pub told-hop : not t ≡ false → means_basic_found (Ok (Some h)) ≡ met_said (as_met (Some h))
  unfolding said_by met_said
  told-hop u = rw (← et, not-false t u)

  pub told-broken : not t ≡ true → means_basic_found (Err (record { why = refusal.Broken; at = None })) ≡ met_said (as_met (Some h))
  unfolding said_by met_said
  told-broken u = rw (← et, not-true t u)

-- the ways out of a lookup
module _ (s bs cs : List ℕ) (a : ℕ) where
  pub look-good : (n : ℕ) → means_ready (Ok n) ≡ ready_said s (length bs) (length cs) → (met : Option ℕ) (y : Result (Option ℕ) Refused)
      → as_met met ≡ basic_walk (routes_in s) bs cs a → means_basic_found y ≡ met_said (as_met met) → means_basic_found y ≡ basic_said s bs cs a
  unfolding basic_said
  look-good n e met y ew p = p ∙ rw (ready-ok s (length bs) (length cs) n e, ew)

  pub look-refused : (w : Refused) → means_ready (Err w) ≡ ready_said s (length bs) (length cs)
      → means_basic_found (Err w) ≡ basic_said s bs cs a
  unfolding basic_said said_by
  look-refused w e = rw (ready-err s (length bs) (length cs) w e) (sym (and-then-told w _))
