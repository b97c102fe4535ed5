-- What a judge tells, by the number that it answers.
use mathlib.Core.Path.{◌≡◌, sym, ap}
use Prim.Native.Nat.{ℕ, zero, suc, ◌≤◌}
use native.Mathlib.Omega.{arith}
use Rattle.routes.specs.Said.{Said, refused}
use Rattle.sail_theory.specs.Calls.{or_say}
use Rattle.sail_theory.specs.Judge.{Judged}

-- a refusal
pub judged-off : (n : ℕ) (s : Said) (P : Type 0) → 1 ≤ n → s ≡ refused n → Judged n s P
judged-off n s P h e = record { off = λ _. e; on = λ z. absurd (omega arith) }

-- the sizes' refusal comes first
pub or-said : (f z : ℕ) (s : Said) → z ≡ f → (z ≡ 0 → ⊥) → or_say f s ≡ refused z
or-said zero z s e h = absurd (h e)
or-said (suc f) z s e h = ap refused (sym e)
