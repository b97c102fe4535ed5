-- What is wrong with a table, and the report.
use Rattle.std.specs.Prelude.{cond, List, [], ◌∷◌, ◌≡◌, ℕ, eqb, Result}
use Rattle.refusals.specs.declared.Refusal.{Refusal}
use Rattle.routes.specs.Said.{Said, said_plainly}
use Rattle.sail.specs.Lent.{Lent}
use Rattle.sail.specs.Sizes.{sizes_fault}
use Rattle.sail.specs.Sound.{Sound}
use Rattle.sail.specs.declared.table.Table.{Table}
use Rattle.sail_theory.specs.SoundTest.{sound?}
use Rattle.sail_sound.specs.declared.report.Standing.{Standing}

-- 1, 2, 5: the geometry, a size, or soundness; 0 where nothing is wrong
unfoldable pub table_fault : Table → Lent → ℕ
table_fault t l = cond (eqb (sizes_fault t.geometry l) 0) (cond (sound? t l) 0 5) (sizes_fault t.geometry l)

-- the number, and what holds where it is 0
pub record ReportJudged (r : ℕ) (t : Table) (l : Lent) : Type 0 where
  pub number : r ≡ table_fault t l
  pub facts : r ≡ 0 → Sound t l

-- what the code's answer says: the route count and both needs
abbrev pub needs_told : Standing → List ℕ
needs_told s = s.routes ∷ s.second ∷ s.third ∷ []

abbrev pub means_reported : Result Standing Refusal → Said
means_reported = said_plainly needs_told
