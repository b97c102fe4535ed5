-- What each return of withdraw says. The address x is cut to the length before the prefix is judged.
use mathlib.Core.Path.{◌≡◌, refl, sym, ◌∙◌, ap}
use mathlib.Core.Bool.{Bool, not}
use Prim.Native.Nat.{ℕ}
use lib.Dec.{eqb}
use Rattle.bits.specs.Slot.{cut}
use Rattle.routes.specs.Said.{refused}
use Rattle.sail.specs.Lent.{Lent}
use Rattle.sail.specs.declared.table.Table.{Table}
use Rattle.sail_theory.specs.Calls.{Ends, out_with_flag, withdrawn}
use Rattle.sail_theory.proofs.calls.Cleared.{withdraw-off}
use Rattle.sail_judge.specs.Withdraw.{WithdrawJudged}
use Rattle.sail_judge.specs.declared.withdraw.WithdrawVerdict.{WithdrawVerdict}
use Rattle.sail_take.specs.Taken.{TakenIn}
use Rattle.sail_take.proofs.TakesAlone.{taken-alone}
use Rattle.sail_withdraw.specs.Answers.{means_withdraw}
use Rattle.sail_withdraw.specs.declared.answers.Withdraw.TheVariants as withdraw

module _ (t : Table) (l : Lent) (a len x : ℕ) (e : x ≡ cut len a) where
  -- a refusal leaves all as it was
  pub withdraw-refused : (f : WithdrawVerdict) → WithdrawJudged t l x len f → (f.number ≡ 0 → ⊥)
      → Ends (means_withdraw (withdraw.Refused f.number)) t l (withdrawn t l a len)
  unfolding means_withdraw
  withdraw-refused f k h = sym (withdraw-off t l a len (refused f.number) (rw e at (k.off h)) refl)

  -- what is taken is the cleared prefix, and bits were cleared where the address is another; nobody else uses the pools
  pub withdraw-removed : {f : WithdrawVerdict} → WithdrawJudged t l x len f → f.number ≡ 0 → {u : Table} {k : Lent} → TakenIn t l x len u k
      → (c : Bool) → c ≡ not (eqb x a) → Ends (means_withdraw (withdraw.Removed c)) u k (withdrawn t l a len)
  unfolding means_withdraw withdrawn
  withdraw-removed j h q c d = ap (out_with_flag c) (taken-alone (j.on h).may q) ∙ rw (d, e)
