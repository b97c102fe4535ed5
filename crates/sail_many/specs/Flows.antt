-- Many addresses on their way through a table at once: how far each is after so many turns, and after a pass over a range.
use Rattle.std.specs.Prelude.{List, ◌⊎◌, ◌≡◌, ℕ, ◌+◌, ◌≤◌, ◌<◌, length, get_or}
use Rattle.sail_step.specs.Words.{step1, step2, step3}

-- the answer for the address at place k
abbrev pub answer_at : ℕ → ℕ → List ℕ → List ℕ → ℕ → List ℕ → ℕ → List ℕ → ℕ → ℕ
answer_at p1 p2 first second m2 third m3 ads k = step3 p2 third m3 ads k (step2 p1 p2 second m2 ads k (step1 p1 first ads k))

-- after j turns: those before j have their answers, eight stand at their second cells, and eight at their first
pub record Flowing (f1 : ℕ → ℕ) (f2 f3 : ℕ → ℕ → ℕ) (j : ℕ) (out : List ℕ) : Type 0 where
  pub done : (k : ℕ) → k < j → get_or out k 0 ≡ f3 k (f2 k (f1 k))
  pub deep : (k : ℕ) → j ≤ k → k < j + 8 → get_or out k 0 ≡ f2 k (f1 k)
  pub near : (k : ℕ) → j + 8 ≤ k → k < j + 16 → get_or out k 0 ≡ f1 k

-- the same of the words of a table's lookups: there is one for each address, and j turns are done
pub record Flows (p1 p2 : ℕ) (first second : List ℕ) (m2 : ℕ) (third : List ℕ) (m3 : ℕ) (ads : List ℕ) (j : ℕ) (out : List ℕ) : Type 0 where
  pub even : length out ≡ length ads
  pub flowing : Flowing (step1 p1 first ads) (step2 p1 p2 second m2 ads) (step3 p2 third m3 ads) j out

-- the words of a range went one step on, and no others
pub record Swept (f : ℕ → ℕ → ℕ) (from to : ℕ) (out ys : List ℕ) : Type 0 where
  pub size : length ys ≡ length out
  pub went : (k : ℕ) → from ≤ k → k < to → get_or ys k 0 ≡ f k (get_or out k 0)
  pub kept : (k : ℕ) → (k < from) ⊎ (to ≤ k) → get_or ys k 0 ≡ get_or out k 0

-- there are addresses from one place up to another, and a word for each address
pub record AddrRange (from to : ℕ) (ads out : List ℕ) : Type 0 where
  pub order : from ≤ to
  pub inside : to ≤ length ads
  pub even : length out ≡ length ads

-- every cell fits 16 bits, as its type says
abbrev pub Halves : List ℕ → Type 0
Halves xs = (i : ℕ) → get_or xs i 0 < 65536
