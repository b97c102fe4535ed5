-- A word that is a refusal's says nothing that was found.
use Rattle.std.specs.Prelude.{◌≡◌, ℕ, ◌/◌, ◌%◌, Bool, true, false, cond, [], ◌∷◌, eqb, Result, Ok, Err, Some, None}
use borrow.Author.Tests.{eq-eqb}
use Rattle.routes.specs.Said.{Said, accepted, refused}
use Rattle.routes.specs.declared.found.Found.{Found}
use Rattle.standing.specs.Served.{hop_said}
use Rattle.sail.specs.Word.{FoundIn, said_of}
use Rattle.sail_lookup.specs.Told.{told_by}

either : (n : ℕ) (b : Bool) (x y : Said) → (refused n ≡ x → ⊥) → (refused n ≡ y → ⊥) → refused n ≡ cond b x y → ⊥
either n true x y p q e = p e
either n false x y p q e = q e

module _ (w : ℕ) (r : Result Found ℕ) (e : told_by r ≡ said_of w) where
  pub found-of : (f : Found) → r ≡ Ok f → FoundIn w (Some f)
  found-of f q = rw q at e

  pub none-of : (n : ℕ) → r ≡ Err n → FoundIn w None
  unfolding said_of hop_said
  none-of n q z =
      let h = rw (q, eq-eqb (w % 256) 0 z) at e in
      either n (eqb (w / 65536) 0) (accepted (w / 256 % 256 ∷ [])) (accepted (w / 256 % 256 ∷ w / 65536 ∷ [])) (λ k. cc) (λ k. cc) h
