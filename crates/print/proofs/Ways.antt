-- What is written at each way through the load.
use mathlib.Core.Path.{◌≡◌, refl, sym, ap, subst}
use mathlib.Core.Bool.{true, false, true≢false}
use mathlib.Core.List.{List, []}
use Prim.Native.Nat.{ℕ}
use Rattle.std.specs.Prelude.{Option, Some, None, Result, Ok, Err}
use Rattle.refusals.specs.declared.Refused.{Refused}
use Rattle.routes.specs.Said.{Said, accepted, refused_by, told, said_by, accepts}
use Rattle.sail.specs.Lent.{Lent}
use Rattle.sail.specs.Sound.{Sound}
use Rattle.sail.specs.declared.table.Table.{Table}
use Rattle.sail_theory.specs.After.{state_after}
use Rattle.sail_theory.specs.Calls.{Out, out, Ends, loaded}
use Rattle.sail_theory.proofs.calls.Load.{load-holds}
use Rattle.sail_load.specs.Answers.{means_loaded}
use Rattle.text_pieces.specs.Wrote.{Wrote}
use Rattle.text.specs.Text.{said_text}
use Rattle.print_said.specs.Standing.{standing_text}
use Rattle.print.specs.Printed.{small_table, small_lent, line_or, out_text, printed_text}

-- what is refused is told by its line
line-or : (s : Said) (t : List ℕ) → accepts s ≡ false → line_or s t ≡ said_text s
unfolding line_or
line-or (Said.accepted vs) t h = absurd (true≢false h)
line-or (Said.refused n) t h = refl
line-or (Said.refused_at n k) t h = refl

-- and what is accepted by the table's text
pub line-none : (s : Said) (t : List ℕ) → accepts s ≡ true → line_or s t ≡ t
unfolding line_or
line-none (Said.accepted vs) t h = refl
line-none (Said.refused n) t h = absurd (true≢false (sym h))
line-none (Said.refused_at n k) t h = absurd (true≢false (sym h))

-- a refusal accepts nothing
refused-by : (n : ℕ) (i : Option ℕ) → accepts (refused_by n i) ≡ false
refused-by n None = refl
refused-by n (Some k) = refl

told-refused : (x : Refused) → accepts (told x) ≡ false
told-refused x = refused-by _ x.at

-- What load says and leaves is what is printed.
module _ (input : List ℕ) (r : Result Table Refused) (v : Lent)
    (e : Ends (means_loaded r) (state_after small_table r) v (loaded small_table small_lent input)) where
  whole : out_text (out (means_loaded r) (state_after small_table r) v) ≡ printed_text input
  unfolding printed_text
  whole = ap out_text e

  module _ (u : Table) (q : r ≡ Ok u) where
    ends : out (accepted []) u v ≡ loaded small_table small_lent input
    unfolding said_by
    ends = rw q at e

    pub done-sound : Sound u v
    done-sound =
        let s : accepts (loaded small_table small_lent input).said ≡ true = sym (ap (λ (o : Out). accepts o.said) ends) in
        subst (λ (o : Out). Sound o.table o.lent) (sym ends) (load-holds small_table small_lent input s).sound

    pub done-wrote : {o o₁ : List ℕ} {m : ℕ} → Wrote o 0 (standing_text u v) m o₁ → Wrote o 0 (printed_text input) m o₁
    unfolding out_text said_by
    done-wrote w = rw (← whole, q, line-none (accepted []) (standing_text u v) refl) w

  pub refused-wrote : (x : Refused) → r ≡ Err x → {o o₁ : List ℕ} {m : ℕ} → Wrote o 0 (said_text (means_loaded (Err x))) m o₁
      → Wrote o 0 (printed_text input) m o₁
  unfolding out_text said_by
  refused-wrote x q w = rw (← whole, q, line-or (told x) (standing_text small_table v) (told-refused x)) w
