-- What the judge of a withdrawal answers.
use mathlib.Core.Path.{◌≡◌, refl, sym, ◌∙◌}
use mathlib.Core.Bool.{Bool, true, false, not, true≢false}
use mathlib.Core.List.{List}
use Prim.Native.Nat.{ℕ, ◌≤◌}
use native.Mathlib.Omega.{arith}
use borrow.Author.Tests.{not-true, not-false}
use Rattle.routes.specs.Record.{routes_of, Records}
use Rattle.routes.specs.Route.{key_of, Prefix}
use Rattle.routes.specs.Input.{proper_prefix}
use Rattle.routes.specs.Said.{refused}
use Rattle.standing.specs.Standing.{stands}
use Rattle.routes.proofs.Meaning.{prefix-true, true-prefix}
use Rattle.lists.specs.Place.{place_of}
use Rattle.lists.proofs.EditPlaces.{found}
use Rattle.sail.specs.Lent.{Lent}
use Rattle.sail.specs.Sizes.{SizesTold}
use Rattle.sail.specs.Sound.{Sound}
use Rattle.sail.specs.declared.table.Table.{Table}
use Rattle.sail_theory.specs.Calls.{withdraw_said}
use Rattle.sail_theory.specs.Cases.{Withdraw}
use Rattle.sail_theory.proofs.calls.OneCase.{withdraw-only}
use Rattle.sail_sound.specs.TableTest.{Tried}
use Rattle.sail_sound.proofs.TableTest.{tried-sound}
use Rattle.sail_theory.proofs.Judges.{judged-off, or-said}
use Rattle.sail_judge.specs.Withdraw.{RecordFound, WithdrawJudged}
use Rattle.sail_judge.specs.declared.withdraw.WithdrawVerdict.{WithdrawVerdict}

-- the record of a prefix among n records: x is its key, at the key's place, and c tells whether a route of the key stands
module _ (s : List ℕ) (n a len : ℕ) (h : Records s n) (x at : ℕ) (key : x ≡ key_of a len) (placed : at ≡ place_of s n x) (c : Bool) (f : c ≡ stands x (routes_of s n)) where
  pub record-stands : c ≡ true → RecordFound s n a len (record { number = 0; at = at })
  record-stands y =
      let here = found s n at x (record { records = h; place = placed }) (sym f ∙ y) in
      record { on = λ _. (here.0, here.1 ∙ key, rw (← key, ← f) y); off = λ z. absurd (z refl) }

  pub record-absent : c ≡ false → RecordFound s n a len (record { number = 9; at = 0 })
  record-absent y = record { on = λ z. absurd (omega arith); off = λ _. (refl, rw (← key, ← f) y) }

module _ (t : Table) (l : Lent) (a len : ℕ) where
  -- what is told with the number n and the place at
  abbrev Left : ℕ → ℕ → Type 0
  Left n at = WithdrawJudged t l a len (record { number = n; at = at })

  no : (n : ℕ) → 1 ≤ n → Withdraw t l a len (refused n) → Left n 0
  no n h x = judged-off n _ _ h (withdraw-only t l a len (refused n) x)

  -- a sound table, in which the prefix was looked for
  pub found-judged : Prefix a len → Sound t l → (f : WithdrawVerdict) → RecordFound l.list t.count a len f → WithdrawJudged t l a len f
  found-judged p s f r = record {
    off = λ h. let x = r.off h in withdraw-only t l a len _ (rw x.0 (Withdraw.absent p s x.1));
    on = λ z. let x = r.on z in record { may = record { prefix = p; sound = s; old = x.2 }; place = x.0; named = x.1 };
  }

  module _ (z : ℕ) (check : SizesTold z t.geometry l) where
    pub leave-sizes : (z ≡ 0 → ⊥) → Left z 0
    unfolding withdraw_said
    leave-sizes h = record { off = λ _. or-said _ z _ check.number h; on = λ e. absurd (h e) }

    module _ (h : z ≡ 0) (b : Bool) (e : b ≡ proper_prefix a len) where
      pub leave-prefix : not b ≡ true → Left 3 0
      leave-prefix n = no 3 (omega arith) (Withdraw.bad_prefix (check.facts h) (λ q. true≢false (sym (true-prefix a len q) ∙ sym e ∙ not-true b n)))

      module _ (p : not b ≡ false) (d : Bool) (k : Tried d t l) where
        is-prefix : Prefix a len
        is-prefix = prefix-true a len (sym e ∙ not-false b p)

        pub leave-sound : not d ≡ true → Left 5 0
        leave-sound n = no 5 (omega arith) (Withdraw.unsound (check.facts h) is-prefix (λ s. true≢false (sym (k.tells.1 s) ∙ not-true d n)))

        pub leave-found : not d ≡ false → (f : WithdrawVerdict) → RecordFound l.list t.count a len f → WithdrawJudged t l a len f
        leave-found q f r = found-judged is-prefix (tried-sound t l d k q) f r
