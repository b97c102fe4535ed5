-- What the calls on a record input can say, case by case and in order, in document 01's words; each case has all that then holds. The cases
-- exclude each other, and a call says what stands beside the one that holds (`input-checked`, `check-only`, `route-judged`, `route-only`).
use Rattle.std.specs.Prelude.{false, List, [], ◌∷◌, ◌≢◌, ◌≡◌, ℕ, ◌-◌, ◌*◌, ◌/◌, ◌%◌, ◌≤◌, ◌<◌, length}
use Rattle.routes.specs.Route.{key, Prefix, Fine}
use Rattle.routes.specs.Record.{record_at, Records}
use Rattle.routes.specs.Said.{Said, accepted, refused, refused_at, accepts}
use Rattle.routes.specs.Answers.{values_of}
use Rattle.routes.specs.declared.Route.{Route}

-- what is wrong with a route by itself
pub data WrongRoute (r : Route) : ℕ → Type 0 where
  prefix : (Prefix r.addr r.len → ⊥) → WrongRoute r 3
  hop : Prefix r.addr r.len → (1 ≤ r.hop → r.hop ≤ 32767 → ⊥) → WrongRoute r 4
  mark : Prefix r.addr r.len → 1 ≤ r.hop → r.hop ≤ 32767 → 1 < r.mark → WrongRoute r 10

-- what is wrong with record k: by itself, or with its order
pub data WrongRecord (s : List ℕ) (k : ℕ) : ℕ → Type 0 where
  itself : {f : ℕ} → WrongRoute (record_at s k) f → WrongRecord s k f
  order : Fine (record_at s k) → 0 < k → key (record_at s k) ≤ key (record_at s (k - 1)) → WrongRecord s k 10

-- record k is fine and comes after the one before it
pub record RightRecord (s : List ℕ) (k : ℕ) : Type 0 where
  pub fine : Fine (record_at s k)
  pub after : 0 < k → key (record_at s (k - 1)) < key (record_at s k)

-- the answer of the check, in order: the length of the input; the first record at which something is wrong; too many records; good
pub data Checked (s : List ℕ) : Said → Type 0 where
  ragged : length s % 8 ≢ 0 → Checked s (refused_at 10 (length s / 8))
  stopped : (k f : ℕ) → length s % 8 ≡ 0 → k < length s / 8 → ((j : ℕ) → j < k → RightRecord s j) → WrongRecord s k f → 0 < f → Checked s (refused_at f k)
  many : length s % 8 ≡ 0 → ((j : ℕ) → j < length s / 8 → RightRecord s j) → 4096 < length s / 8 → Checked s (refused 6)
  good : (n : ℕ) → length s ≡ n * 8 → Records s n → Checked s (accepted (n ∷ []))

-- An input that is refused: what its check says, which accepts nothing.
pub record BadInput (s : List ℕ) (x : Said) : Type 0 where
  pub checked : Checked s x
  pub not_accepted : accepts x ≡ false

-- and one that passes, with n records
abbrev pub Passes : List ℕ → ℕ → Type 0
Passes s n = Checked s (accepted (n ∷ []))

-- route_at: the input's alone
pub data RouteRead (s : List ℕ) (k : ℕ) : Said → Type 0 where
  bad_input : (x : Said) → BadInput s x → RouteRead s k x
  there : (n : ℕ) → Passes s n → k < n → RouteRead s k (accepted (values_of (record_at s k)))
  past : (n : ℕ) → Passes s n → n ≤ k → RouteRead s k (accepted [])
