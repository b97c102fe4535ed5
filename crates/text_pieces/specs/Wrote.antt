-- What a call writes into a lent buffer.
use Rattle.std.specs.Prelude.{ℕ, ◌+◌, ◌≤◌, List, ◌++◌, ◌≡◌, length, take, drop}

-- the buffer with the text in it from a place on, and all else as it was
unfoldable pub spelled : List ℕ → ℕ → List ℕ → List ℕ
spelled out at text = take at out ++ text ++ drop (at + length text) out

-- there is room for the text from a place on
pub record TextRoom (out : List ℕ) (at : ℕ) (text : List ℕ) : Type 0 where
  pub room : at + length text ≤ length out

-- the text stands in the buffer from a place on, up to the place that is answered
pub record Wrote (before : List ℕ) (at : ℕ) (text : List ℕ) (next : ℕ) (after : List ℕ) : Type 0 where
  pub ends : next ≡ at + length text
  pub inside : next ≤ length after
  pub holds : after ≡ spelled before at text
