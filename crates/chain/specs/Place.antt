-- Places in a list of words, by their keys.
use Rattle.std.specs.Prelude.{◌≡◌, true, false, List, ℕ, ◌+◌, ◌-◌, ◌*◌, ◌^◌, ◌<◌, ◌≤◌, length, get_or}
use Rattle.routes.specs.Route.{key_of}
use Rattle.standing.specs.Cells.{within}
use Rattle.chain.specs.Words.{route_of_word, key_in, Words}

-- r words have a smaller key, and the others not
pub record KeysBelow (ws : List ℕ) (key r : ℕ) : Type 0 where
  pub to : r ≤ length ws
  pub below : (j : ℕ) → j < r → key_in (get_or ws j 0) < key
  pub above : (j : ℕ) → r ≤ j → j < length ws → key ≤ key_in (get_or ws j 0)

-- the words before lo have a smaller key, those from hi on not: the place is between
pub record Between (ws : List ℕ) (key lo hi : ℕ) : Type 0 where
  pub words : Words ws
  pub from : lo ≤ hi
  pub to : hi ≤ length ws
  pub below : (j : ℕ) → j < lo → key_in (get_or ws j 0) < key
  pub above : (j : ℕ) → hi ≤ j → j < length ws → key ≤ key_in (get_or ws j 0)

-- the least key of a route that is longer than p and has the bits of cell i of level p
abbrev pub under_key : ℕ → ℕ → ℕ
under_key p i = key_of (i * 2 ^ (32 - p)) (p + 1)

-- i is a cell of level p
pub record InLevel (p i : ℕ) : Type 0 where
  pub level : p ≤ 32
  pub inside : i < 2 ^ p

-- lo is where the run of words under cell i of level p begins, or would
pub record RunFrom (ws : List ℕ) (p i lo : ℕ) : Type 0 where
  pub level : p ≤ 32
  pub place : KeysBelow ws (under_key p i) lo

-- the words from lo up to r, and no others, are longer than p and have the bits of cell i of level p
pub record Run (ws : List ℕ) (p i lo r : ℕ) : Type 0 where
  pub from : lo ≤ r
  pub to : r ≤ length ws
  pub before : (j : ℕ) → j < lo → within p i (route_of_word (get_or ws j 0)) ≡ false
  pub inside : (j : ℕ) → lo ≤ j → j < r → within p i (route_of_word (get_or ws j 0)) ≡ true
  pub past : (j : ℕ) → r ≤ j → j < length ws → within p i (route_of_word (get_or ws j 0)) ≡ false
