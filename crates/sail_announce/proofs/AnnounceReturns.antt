-- What each return of announce says. The address x is cut to its length before the route is judged.
use mathlib.Core.Path.{◌≡◌, refl, sym, ◌∙◌, ap}
use mathlib.Core.Bool.{Bool, not}
use mathlib.Core.List.{[], ◌∷◌}
use Prim.Native.Nat.{ℕ}
use lib.Dec.{eqb}
use Rattle.bits.specs.Count.{bit}
use Rattle.bits.specs.Slot.{cut}
use Rattle.routes.specs.Said.{accepted, refused}
use Rattle.sail.specs.Lent.{Lent}
use Rattle.sail.specs.declared.table.Table.{Table}
use Rattle.sail_theory.specs.Calls.{route, Ends, out_with_flag, announced}
use Rattle.sail_theory.proofs.calls.Cleared.{announce-off}
use Rattle.sail_judge.specs.Announce.{ToAdd, AnnounceJudged}
use Rattle.sail_judge.specs.declared.announce.AnnounceVerdict.{AnnounceVerdict}
use Rattle.sail_add.specs.Added.{MeetsAdd}
use Rattle.sail_announce.specs.Answers.{means_announce}
use Rattle.sail_announce.specs.declared.answers.Announce.{Announce}
use Rattle.sail_announce.specs.declared.answers.Announce.TheVariants as announce

module _ (t : Table) (l : Lent) (a len hop mark x : ℕ) (e : x ≡ cut len a) (f : AnnounceVerdict) where
  -- a refusal leaves all as it was
  pub announce-refused : AnnounceJudged t l (route x len hop mark) f → (f.number ≡ 0 → ⊥)
      → Ends (means_announce (announce.Refused f.number)) t l (announced t l (route a len hop mark))
  unfolding means_announce
  announce-refused k h = sym (announce-off t l (route a len hop mark) (refused f.number) (rw e at (k.off h)) refl)

  -- what is added is the cleared route, and bits were cleared where the address is another
  pub announce-added : ToAdd t l (route x len hop mark) f → {u : Table} {k : Lent} → MeetsAdd t l (route x len hop mark) u k
      → (c : Bool) → c ≡ not (eqb x a) → (n : Announce) → means_announce n ≡ accepted (bit c ∷ bit f.stands ∷ [])
      → Ends (means_announce n) u k (announced t l (route a len hop mark))
  unfolding announced
  announce-added ready q c d n m = rw (m, ready.found.stood) (ap (out_with_flag c) q ∙ rw (d, e))
