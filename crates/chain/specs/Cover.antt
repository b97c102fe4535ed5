-- The last word that covers a cell, and the chain that leads to it.
use Rattle.std.specs.Prelude.{◌≡◌, true, false, List, Option, None, Some, ℕ, ◌+◌, ◌-◌, ◌*◌, ◌<◌, ◌≤◌, length, get_or}
use Rattle.bits.specs.Slot.{slot}
use Rattle.standing.specs.Cells.{covers}
use Rattle.chain.specs.Words.{addr_of, route_of_word, Words}
use Rattle.chain.specs.Place.{KeysBelow}

-- the address of word k
abbrev pub addr_in : List ℕ → ℕ → ℕ
addr_in ws k = addr_of (get_or ws k 0)

-- r is 1 + the last of the words before j that covers cell i of level p; 0 where none does
pub record LastCover (ws : List ℕ) (j p i r : ℕ) : Type 0 where
  pub to : r ≤ j
  pub one : 0 < r → covers p i (route_of_word (get_or ws (r - 1) 0)) ≡ true
  pub none : (k : ℕ) → r ≤ k → k < j → covers p i (route_of_word (get_or ws k 0)) ≡ false

-- how an entry of 16 bits holds a place, or none: 1 + the place, or 0
abbrev pub entry_of : Option ℕ → ℕ
entry_of None = 0
entry_of (Some k) = k + 1

-- for each of the first n words, 1 + the last word before it that covers its address, or 0
pub record Parents (ws par : List ℕ) (n : ℕ) : Type 0 where
  pub each : (k : ℕ) → k < n → LastCover ws k 32 (addr_in ws k) (get_or par k 0)

-- the first k of the words have their parents
pub record ParentsBelow (ws par : List ℕ) (k : ℕ) : Type 0 where
  pub place : k ≤ length ws
  pub parents : Parents ws par k

-- what it takes to go up the chain from word j: no word before j lies past cell i of level p
pub record Climb (ws par : List ℕ) (j p i : ℕ) : Type 0 where
  pub words : Words ws
  pub level : p ≤ 32
  pub to : j ≤ length ws
  pub room : j ≤ length par
  pub parents : Parents ws par j
  pub upto : (k : ℕ) → k < j → slot p (addr_in ws k) ≤ i

-- after 4,096 entries of par: for each first byte below n, how many words have a smaller one
pub record Heads (ws par : List ℕ) (n : ℕ) : Type 0 where
  pub each : (b : ℕ) → b < n → KeysBelow ws (b * 4294967296) (get_or par (4096 + b) 0)

-- at most 4,096 words, and as many entries as their parents and heads take
pub record WordsRoom (ws par : List ℕ) : Type 0 where
  pub words : Words ws
  pub few : length ws ≤ 4096
  pub room : length par ≡ 4353

-- at most 4,096 words, with the parent of each and the heads of the 256 first bytes, and the end
pub record ChainReady (ws par : List ℕ) : Type 0 where
  pub words : Words ws
  pub few : length ws ≤ 4096
  pub room : length par ≡ 4353
  pub parents : Parents ws par (length ws)
  pub heads : Heads ws par 257
