-- What the judge of a message answers, at each way out of it.
use Rattle.std.proofs.Common.{◌≡◌, ℕ, Bool, true, false, not, List, sym, ◌∙◌, arith}
use borrow.Author.Tests.{not-true, not-false}
use Rattle.fields.specs.Message.{MessageChecked}
use Rattle.sail.specs.Lent.{Lent}
use Rattle.sail.specs.Sizes.{sizes_fault, SizesTold}
use Rattle.sail.specs.declared.table.Table.{Table}
use Rattle.sail_theory.specs.SoundTest.{sound?}
use Rattle.sail_sound.specs.TableTest.{TriedWith}
use Rattle.sail_sound.proofs.TableTest.{tried-sound}
use Rattle.update_theory.proofs.Faults.{fault-sizes, fault-unsound, fault-message}
use Rattle.update_theory.specs.Update.{fault_of}
use Rattle.sail_update.specs.Steps.{UpdateJudged}

module _ (t : Table) (l : Lent) (wd re : List ℕ) (hop : ℕ) (ws par : List ℕ) where
  -- a refusal
  off : (r : ℕ) → (r ≡ 0 → ⊥) → r ≡ fault_of t l wd re hop → UpdateJudged t l wd re hop r ws par
  off r n e = record { number = e; ready = λ z. absurd (n z); readable = λ z. absurd (n z) }

  module _ (z : ℕ) (told : SizesTold z t.geometry l) where
    pub stop-sizes : (z ≡ 0 → ⊥) → UpdateJudged t l wd re hop z ws par
    stop-sizes n = off z n (told.number ∙ sym (fault-sizes (sizes_fault t.geometry l) (sound? t l) wd re hop (λ e. n (told.number ∙ e))))

    module _ (e : z ≡ 0) (d : Bool) (k : TriedWith d t l ws par) where
      fits : sizes_fault t.geometry l ≡ 0
      fits = sym told.number ∙ e

      pub stop-sound : not d ≡ true → UpdateJudged t l wd re hop 5 ws par
      stop-sound y =
          off 5 (λ q. omega arith)
          (sym (fault-unsound (sizes_fault t.geometry l) (sound? t l) wd re hop fits (sym k.tried.is ∙ not-true d y)))

      pub goes_on : not d ≡ false → (r : ℕ) → MessageChecked wd re hop r → UpdateJudged t l wd re hop r ws par
      goes_on y r c = record {
        number = c.number
            ∙ sym (fault-message (sizes_fault t.geometry l) (sound? t l) wd re hop fits (sym k.tried.is ∙ not-false d y));
        ready = λ _. record { sound = tried-sound t l d k.tried y; chain = k.chained (not-false d y) };
        readable = c.on;
      }
