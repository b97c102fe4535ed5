-- What bases have to be like to be raised or lowered, and a word without one of its bits.
use Rattle.std.specs.Prelude.{◌≡◌, false, List, ℕ, ◌+◌, ◌*◌, ◌^◌, ◌≤◌, ◌<◌, length, get_or}
use Rattle.tree_image.specs.Node.{is_set}
use Rattle.tree_node.specs.NodeRuns.{WithBit}

-- there is a word d of each node from a up to b
pub record WordsLent (ws : List ℕ) (d a b : ℕ) : Type 0 where
  pub word : d < 3
  pub order : a ≤ b
  pub room : 3 * b ≤ length ws

-- these words can be one more, and one less
pub record Raisable (ws : List ℕ) (d a b : ℕ) : Type 0 where
  pub stretch : WordsLent ws d a b
  pub fits : (i : ℕ) → a ≤ i → i < b → get_or ws (3 * i + d) 0 + 1 < 2 ^ 32

pub record Lowerable (ws : List ℕ) (d a b : ℕ) : Type 0 where
  pub stretch : WordsLent ws d a b
  pub some : (i : ℕ) → a ≤ i → i < b → 1 ≤ get_or ws (3 * i + d) 0

-- what a call answers of each of these words is what g has
abbrev pub AnswersAs : (ℕ → ℕ → Type 0) → (ℕ → ℕ) → List ℕ → ℕ → ℕ → ℕ → Type 0
AnswersAs post g ws d a b =
    (i y : ℕ) → a ≤ i → i < b → post (get_or ws (3 * i + d) 0) y → y ≡ g (get_or ws (3 * i + d) 0)

-- v is the word w without the bit b
abbrev pub WithoutBit : ℕ → ℕ → ℕ → Type 0
WithoutBit v b w = WithBit v b w × (is_set v b ≡ false) × (v < 2 ^ 32)
