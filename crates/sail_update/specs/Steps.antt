-- What the steps of the call are asked and answer.
use Rattle.std.specs.Prelude.{◌≡◌, ℕ, List}
use Rattle.fields.specs.Message.{Readable}
use Rattle.sail.specs.Lent.{Lent}
use Rattle.sail.specs.declared.table.Table.{Table}
use Rattle.sail_theory.specs.Facts.{SameSize}
use Rattle.sail_deal.specs.Dealt.{Ready}
use Rattle.update_theory.specs.Loops.{Gone, Came}
use Rattle.update_theory.specs.Update.{kept, turn, fault_of}

-- the judge: the number, and if it is 0, what the work rests on
pub record UpdateJudged (t : Table) (l : Lent) (withdrawn reach : List ℕ) (hop r : ℕ) (ws par : List ℕ) : Type 0 where
  pub number : r ≡ fault_of t l withdrawn reach hop
  pub ready : r ≡ 0 → Ready t l ws par
  pub readable : r ≡ 0 → Readable withdrawn reach hop

-- the prefixes of a field are withdrawn: the table is ready for the next, and the rest of the message follows
pub record AllGone (t : Table) (l : Lent) (field : List ℕ) (k : ℕ) (u : Table) (e : Lent) (ws par : List ℕ) : Type 0 where
  pub ready : Ready u e ws par
  pub size : SameSize l e
  pub gone : Gone turn (kept t l) field k (kept u e)

-- those of a field are announced, after so many entries, which `from` has in 32 bits
abbrev pub AllCame : Table → Lent → List ℕ → ℕ → ℕ → ℕ → ℕ → Table → Lent → Type 0
AllCame t l field hop from number k u e = Came turn (kept t l) field hop from number k (kept u e)
