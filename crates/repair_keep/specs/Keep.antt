-- What keeping records asks and leaves.
use Rattle.std.specs.Prelude.{List, ◌≡◌, ℕ, ◌*◌, ◌≤◌, length, take}
use Rattle.routes.specs.Record.{written}
use Rattle.repair_theory.specs.Repair.{kept_of}

-- n records, and room for as many as a list has
pub record Keeps (s : List ℕ) (n : ℕ) (out : List ℕ) : Type 0 where
  pub inside : n * 8 ≤ length s
  pub few : n ≤ 4096
  pub room : length out ≡ 32768

-- of the first n records m are kept, and their bytes are the first of `out`
pub record KeptIn (s : List ℕ) (n : ℕ) (out : List ℕ) (m : ℕ) : Type 0 where
  pub count : m ≡ length (kept_of s n)
  pub few : m ≤ n
  pub bytes : take (m * 8) out ≡ written (kept_of s n) m
