-- What the header step can answer and leave, case by case and in order, each case with all that then holds.
use Rattle.std.specs.Prelude.{true, false, List, ◌≡◌, ℕ, ◌/◌, ◌%◌, ◌≤◌, ◌<◌, length, get_or}
use Rattle.routes.specs.Said.{Said, refused}
use Rattle.sail.specs.Word.{has_hop}
use Rattle.header.specs.Sums.{right_sum}
use Rattle.header.specs.Header.{lowered}
use Rattle.header.specs.Step.{StepOut, step_out, destination}

-- "version 4, header length 5 words": the two halves of the first byte
pub record Version4 (p : List ℕ) : Type 0 where
  pub version : get_or p 0 0 / 16 ≡ 4
  pub words : get_or p 0 0 % 16 ≡ 5

-- "19, fewer than 20 bytes; 20, version or header length; 21, checksum; 22, time to live 0 or 1"
pub data WrongHeader (p : List ℕ) : ℕ → Type 0 where
  short : length p < 20 → WrongHeader p 19
  version : 20 ≤ length p → (Version4 p → ⊥) → WrongHeader p 20
  checksum : 20 ≤ length p → Version4 p → right_sum p ≡ false → WrongHeader p 21
  life : 20 ≤ length p → Version4 p → right_sum p ≡ true → get_or p 8 0 < 2 → WrongHeader p 22

pub record FineHeader (p : List ℕ) : Type 0 where
  pub room : 20 ≤ length p
  pub version : Version4 p
  pub right : right_sum p ≡ true
  pub alive : 2 ≤ get_or p 8 0

-- two packets with the same header
pub record SameHeader (p q : List ℕ) : Type 0 where
  pub room : 20 ≤ length p
  pub room' : 20 ≤ length q
  pub bytes : (j : ℕ) → j < 20 → get_or p j 0 ≡ get_or q j 0

-- the header's own refusal; a lookup without a hop, refused or not; a lookup with one
pub data Step (look : ℕ → Said) (p : List ℕ) : StepOut → Type 0 where
  wrong : (n : ℕ) → WrongHeader p n → Step look p (step_out (refused n) p)
  left : FineHeader p → has_hop (look (destination p)) ≡ false → Step look p (step_out (look (destination p)) p)
  lowers : FineHeader p → has_hop (look (destination p)) ≡ true → Step look p (step_out (look (destination p)) (lowered p))
