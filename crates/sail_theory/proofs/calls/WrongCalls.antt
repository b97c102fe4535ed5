-- Wrong versions of the calls, and the fact that refuses each: an announcement that changes nothing, a withdrawal that leaves a hole or a chunk too
-- many, and chunk numbers that are not the lowest.
use mathlib.Core.Path.{◌≡◌, refl, sym, ◌∙◌}
use mathlib.Core.Logic.{◌≢◌}
use mathlib.Core.Bool.{false}
use mathlib.Core.List.{List, [], ◌∷◌}
use Prim.Native.Nat.{ℕ, suc, ◌^◌, ◌<◌}
use native.Mathlib.Omega.{arith}
use lib.ListN.{get_or, set}
use borrow.Author.Tests.{eq-eqb}
use Rattle.routes.specs.Route.{key}
use Rattle.standing.specs.Cells.{long, best, need}
use Rattle.routes.specs.Said.{accepted}
use Rattle.standing.specs.Standing.{absent, stood, route_at}
use Rattle.routes.specs.declared.Route.{Route}
use Rattle.sail.specs.Lent.{Lent}
use Rattle.sail.specs.Sound.{Sound, standing, used}
use Rattle.sail.specs.declared.table.Table.{Table}
use Rattle.sail.proofs.Sounds.{chunks-need}
use Rattle.sail_theory.specs.Calls.{cut_route}
use Rattle.sail_theory.specs.CallRuns.{announce}
use Rattle.sail_theory.proofs.runs.AfterRun.{Leaves}

-- an announcement that changes nothing is sound, and within its frame: what it leaves standing refuses it
pub idle-refused : (t : Table) (l : Lent) (r : Route) → route_at (key (cut_route r)) (standing t l) ≡ absent
    → Leaves t l (announce r) (record { said = accepted (0 ∷ 0 ∷ []); table = t; lent = l }) → ⊥
idle-refused t l r none w =
    let k = key (cut_route r) in
    let f : absent ≡ stood (cut_route r) = sym none ∙ w.says_so k ∙ rw (eq-eqb k k refl) in
    let z : ◌≡◌ {A = ℕ} 0 1 = cc in
    omega arith

-- a withdrawal that leaves no route where a shorter route covers is not sound
pub blank-refused : (t : Table) (l : Lent) (q : ℕ) → q < 2 ^ t.geometry.p1 → long (standing t l) t.geometry.p1 q ≡ false
    → best (standing t l) t.geometry.p1 q ≢ 0 → get_or l.first q 0 ≡ 32768 → Sound t l → ⊥
blank-refused t l q h e b w s = b (omega (arith, s.serves.first.leaf q h refl e))

-- a withdrawal that closes no chunk has more in use than are needed
pub kept-refused : (t : Table) (l : Lent) → need (standing t l) t.geometry.p1 < used l.own2 → Sound t l → ⊥
kept-refused t l h s = omega (arith, (chunks-need t l s).0)

-- numbers taken highest first: chunk 1 of two free ones, where chunk 0 is the lowest
abbrev two_free : List ℕ
two_free = 0 ∷ 0 ∷ []

pub highest-refused : (q : ℕ) → ((c x : ℕ) → get_or two_free c 0 ≡ 0 → get_or (set two_free 1 (suc q)) c 0 ≡ suc x → (j : ℕ) → j < c → get_or two_free j 0 ≢ 0) → ⊥
highest-refused q h = h 1 q refl refl 0 (omega arith) refl
