-- A refused call on a table leaves the state and all that is lent; and a call that tells beside its answer whether bits were cleared says s exactly
-- where the case beside s holds.
use mathlib.Core.Path.{◌≡◌, sym, ◌∙◌, ap, subst}
use mathlib.Core.Logic.{◌↔◌}
use mathlib.Core.Bool.{Bool, false}
use mathlib.Core.List.{List}
use Prim.Native.Nat.{ℕ}
use Rattle.routes.specs.Said.{Said, accepts}
use Rattle.routes.specs.declared.Route.{Route}
use Rattle.sail.specs.Lent.{Lent}
use Rattle.sail.specs.declared.table.Table.{Table}
use Rattle.sail_theory.specs.Calls.{Out, out, made, with_flag, announced, withdrawn, loaded}
use Rattle.sail_theory.proofs.calls.Cleared.{telling-once, announce-refused, withdraw-refused}
use Rattle.sail_theory.proofs.calls.Make.{make-refused}
use Rattle.sail_theory.proofs.calls.Load.{load-refused}

pub told-exactly : (b : Bool) (P : Said → Type 0) (x y : Said) → x ≡ with_flag b y → P y → ((s : Said) → P s → y ≡ s)
    → (s : Said) → (x ≡ with_flag b s) ↔ P s
told-exactly b P x y q h only s = ((λ e. subst P (telling-once b y s (sym q ∙ e)) h), (λ c. q ∙ ap (with_flag b) (only s c)))

-- the state and all that is lent are as they were
abbrev Left : Out → Table → Lent → Type 0
Left o t l = (o.table ≡ t) × (o.lent ≡ l)

pub leaves : (o : Out) (s : Said) (t : Table) (l : Lent) → o ≡ out s t l → Left o t l
leaves o s t l e = (ap (λ (x : Out). x.table) e, ap (λ (x : Out). x.lent) e)

module _ (t : Table) (l : Lent) where
  pub make-leaves : accepts (made t l).said ≡ false → Left (made t l) t l
  make-leaves e = leaves _ _ t l (make-refused t l e)

  pub load-leaves : (input : List ℕ) → accepts (loaded t l input).said ≡ false → Left (loaded t l input) t l
  load-leaves input e = leaves _ _ t l (load-refused t l input e)

  pub announce-leaves : (r : Route) → accepts (announced t l r).said ≡ false → Left (announced t l r) t l
  announce-leaves r e = leaves _ _ t l (announce-refused t l r e)

  pub withdraw-leaves : (a len : ℕ) → accepts (withdrawn t l a len).said ≡ false → Left (withdrawn t l a len) t l
  withdraw-leaves a len e = leaves _ _ t l (withdraw-refused t l a len e)
