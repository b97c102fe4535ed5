-- Answers that tell whether something holds, and what follows from them.
use mathlib.Core.Path.{◌≡◌, refl, sym, ◌∙◌}
use mathlib.Core.Bool.{Bool, true, false, not, true≢false, false≢true}
use borrow.Author.Tests.{not-true, not-false}
use Rattle.bits.specs.Tab.{Tells}

pub is-no : {P : Type 0} → (P → ⊥) → Tells false P
is-no f = (λ e. absurd (false≢true e), λ x. absurd (f x))

pub is-yes : {P : Type 0} → P → Tells true P
is-yes x = (λ e. x, λ y. refl)

-- what is told of one thing is told of another that holds at the same time
pub tells-same : {P Q : Type 0} {b : Bool} → (P → Q) → (Q → P) → Tells b P → Tells b Q
tells-same f g t = (λ e. f (t.0 e), λ q. t.1 (g q))

-- a part failed, so the whole does not hold
pub refuted : {P Q : Type 0} {b : Bool} → Tells b P → not b ≡ true → (Q → P) → Tells false Q
refuted {P} {Q} {b} t e f = is-no (λ q. true≢false (sym (t.1 (f q)) ∙ not-true b e))

pub passed : {P : Type 0} {b : Bool} → Tells b P → not b ≡ false → P
passed {P} {b} t e = t.0 (not-false b e)
