-- The words of a list with their chain, and room for both.
use Rattle.std.specs.Prelude.{◌≡◌, List, ℕ, ◌<◌, ◌≤◌, length, get_or, take}
use Rattle.routes.specs.Record.{routes_of, Records}
use Rattle.chain.specs.Words.{word_at, words_of, routes_of_words}
use Rattle.chain.specs.Cover.{Parents, ChainReady}

-- good records, and room for as many words as there are, their parents and the heads
pub record ChainRoom (s ws par : List ℕ) : Type 0 where
  pub records : Records s (length ws)
  pub room : length par ≡ 4353

-- the words of the first n records, with their chain
pub record Chained (s : List ℕ) (n : ℕ) (ws par : List ℕ) : Type 0 where
  pub words : ws ≡ words_of s n
  pub routes : routes_of_words ws ≡ routes_of s n
  pub ready : ChainReady ws par

-- room for the words of any list, and for their chain
pub record Scratch (ws par : List ℕ) : Type 0 where
  pub words : length ws ≡ 4096
  pub chain : length par ≡ 4353

-- the words of the first n records with their chain, at the front of such room
pub record ChainedFront (s : List ℕ) (n : ℕ) (ws par : List ℕ) : Type 0 where
  pub room : Scratch ws par
  pub chained : Chained s n (take n ws) par

-- of the words of the first n records, those before k stand at the front of such room, with their parents: from there the chain is gone on with
pub record ChainedBelow (s : List ℕ) (n k : ℕ) (ws par : List ℕ) : Type 0 where
  pub records : Records s n
  pub place : k ≤ n
  pub room : Scratch ws par
  pub words : (j : ℕ) → j < k → get_or ws j 0 ≡ word_at s j
  pub parents : Parents ws par k
