-- What the judge of a call answers before anything is written.
use Rattle.std.specs.Prelude.{◌≡◌, ℕ}
use Rattle.routes.specs.Said.{Said, refused}

-- the number with which the call refuses; or 0, and then P holds
pub record Judged (r : ℕ) (said : Said) (P : Type 0) : Type 0 where
  pub off : (r ≡ 0 → ⊥) → said ≡ refused r
  pub on : r ≡ 0 → P
