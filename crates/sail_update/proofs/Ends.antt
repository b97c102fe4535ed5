-- How a message ends.
use Rattle.std.proofs.Common.{◌≡◌, ℕ, ◌%◌, ◌^◌, List, [], ◌∷◌, sym, ap, ◌∙◌, eq-eqb, ne_eqb}
use Rattle.routes.specs.Said.{accepted, refused, refused_at}
use Rattle.sail.specs.Lent.{Lent}
use Rattle.sail.specs.declared.table.Table.{Table}
use Rattle.sail_theory.specs.Calls.{Out, out}
use Rattle.update_theory.specs.Deal.{Dealt}
use Rattle.update_theory.proofs.Loops.{message-is}
use Rattle.update_theory.specs.Update.{Kept, kept, turn, fault_of, dealt_out, updated}
use Rattle.sail_update.specs.Answers.{means_update}
use Rattle.sail_update.specs.Steps.{UpdateJudged, AllGone, AllCame}
use Rattle.sail_update.specs.declared.answers.Update.TheVariants as update

module _ (t : Table) (l : Lent) (wd re : List ℕ) (hop : ℕ) {f : ℕ} {ws par : List ℕ} (judged : UpdateJudged t l wd re hop f ws par) where
  pub end_refused : (f ≡ 0 → ⊥) → out (means_update (update.Refused f)) t l ≡ updated t l wd re hop
  unfolding updated means_update
  end_refused n = rw (← judged.number, ne_eqb f 0 n)

  module _ (z : f ≡ 0) {k : ℕ} {u : Table} {e : Lent} {ws' par' : List ℕ} (gone : AllGone t l wd k u e ws' par')
      {number j : ℕ} {v : Table} {b : Lent} (came : AllCame u e re hop k number j v b) where
    -- where all entries lead
    end_is : (r : Out) → ((d : Dealt Kept) → d.stop ≡ number → j ≡ d.dealt % 2 ^ 32 → d.state ≡ kept v b → r ≡ dealt_out d) → r ≡ updated t l wd re hop
    unfolding updated
    end_is r q =
        let x = message-is turn (kept t l) (kept u e) wd re hop gone.gone came in
        rw (eq-eqb (fault_of t l wd re hop) 0 (sym judged.number ∙ z)) (q x.0 x.2 x.3 x.4 ∙ sym (ap dealt_out x.1))

    pub end-stopped : (number ≡ 0 → ⊥) → out (means_update (update.Stopped number j)) v b ≡ updated t l wd re hop
    unfolding means_update
    end-stopped n =
        end_is _
        (λ d p q r. rw (p, ne_eqb number 0 n, r) (ap (λ (y : ℕ). out (refused_at number y) v b) q))

    pub end-done : number ≡ 0 → out (means_update (update.Done j)) v b ≡ updated t l wd re hop
    unfolding means_update
    end-done n =
        end_is _
        (λ d p q r. rw (p, eq-eqb number 0 n, r) (ap (λ (y : ℕ). out (accepted (y ∷ [])) v b) q))
