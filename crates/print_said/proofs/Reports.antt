-- What is written of a sound table's report, and of a load's answer.
use mathlib.Core.Path.{◌≡◌, ◌∙◌}
use mathlib.Core.List.{List, [], ◌∷◌}
use Prim.Native.Nat.{ℕ, ◌+◌, ◌*◌, ◌≤◌, zero-le}
use native.Mathlib.Omega.{arith}
use lib.ListN.{length}
use Rattle.std.specs.Prelude.{Result, Ok, Err}
use Rattle.refusals.specs.declared.Refusal.{Refusal}
use Rattle.standing.specs.Cells.{need}
use Rattle.routes.specs.Record.{routes_of}
use Rattle.routes.specs.Said.{accepted, said_plainly}
use Rattle.numbered.specs.declared.ByNumber.{ByNumber}
use Rattle.numbered.specs.Numbers.{told_so, said_numbered}
use Rattle.sail.specs.Lent.{Lent}
use Rattle.sail.specs.Sound.{Sound, standing}
use Rattle.sail.specs.declared.table.Table.{Table}
use Rattle.sail_theory.specs.After.{no_values}
use Rattle.sail_theory.specs.Calls.{reported}
use Rattle.sail_theory.specs.Cases.{Report}
use Rattle.sail_theory.proofs.calls.OneCase.{report-only}
use Rattle.sail_sound.specs.Report.{means_reported}
use Rattle.sail_sound.specs.declared.report.Standing.{Standing}
use Rattle.text_pieces.specs.Wrote.{Wrote}
use Rattle.text_pieces.proofs.Writes.{wrote_none}
use Rattle.text.specs.Text.{table_text, said_text, Printable}
use Rattle.print_said.specs.Standing.{standing_text}

-- The report of a sound table gives its route count and both needs, and is not refused.
module _ (t : Table) (l : Lent) (k : Sound t l) (r : Result Standing Refusal) (e : means_reported r ≡ reported t l) where
  counts : means_reported r ≡ accepted (t.count ∷ need (standing t l) t.geometry.p1 ∷ need (standing t l) t.geometry.p2 ∷ [])
  counts = e ∙ report-only t l _ (Report.counts k)

  module _ (s : Standing) (q : r ≡ Ok s) where
    tells : accepted (s.routes ∷ s.second ∷ s.third ∷ []) ≡ accepted (t.count ∷ need (standing t l) t.geometry.p1 ∷ need (standing t l) t.geometry.p2 ∷ [])
    unfolding said_plainly
    tells = rw q at counts

    -- the list has its records, and the buffer has room for them
    pub standing-printable : (o : List ℕ) → 64 + 35 * t.count ≤ length o → Printable l.list s.routes o
    standing-printable o h =
        let c : s.routes ≡ t.count = cc tells in
        record { records = rw c k.listed.records.room; room = rw c h }

    pub standing-wrote : {o o₁ : List ℕ} {m : ℕ} → Wrote o 0 (table_text (routes_of l.list s.routes) s.second s.third) m o₁
        → Wrote o 0 (standing_text t l) m o₁
    unfolding standing_text
    standing-wrote w =
        let a : s.routes ≡ t.count = cc tells in
        let b : s.second ≡ need (standing t l) t.geometry.p1 = cc tells in
        let d : s.third ≡ need (standing t l) t.geometry.p2 = cc tells in
        rw (a, b, d) at w

  pub never-refused : (x : Refusal) → r ≡ Err x → ⊥
  unfolding said_plainly
  never-refused x q = let z : ◌≡◌ {A = ℕ} 0 1 = cc counts in omega arith

-- The line of what a load says.
module _ {S E : Type 0} (by_number : E → ByNumber) (a : Result S E) {o : List ℕ} where
  pub no_line : (v : S) → a ≡ Ok v → Wrote o 0 (said_text (said_numbered by_number no_values a)) 0 o
  unfolding said_numbered said_text
  no_line v q = rw q (wrote_none zero-le)

  pub refusal-line : (e : E) → a ≡ Err e → {o₁ : List ℕ} {m : ℕ} → Wrote o 0 (said_text (told_so (by_number e))) m o₁
      → Wrote o 0 (said_text (said_numbered by_number no_values a)) m o₁
  unfolding said_numbered
  refusal-line e q w = rw q w
