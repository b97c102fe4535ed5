-- What a lookup says as one number, which fits 32 bits. A refusal is packed the same everywhere (`packed`).
use Rattle.std.specs.Prelude.{Bool, false, cond, Option, Some, None, ◌&&◌, ◌≡◌, ℕ, ◌+◌, ◌*◌, ◌/◌, ◌%◌, eqb, leb, ltb, length}
use Rattle.routes.specs.Said.{Said, accepted, refused, refused_at}
unfoldable pub use Rattle.routes.specs.Said.{packed}
pub use Rattle.routes.specs.Said.{value}
use Rattle.routes.specs.Answers.{found_values}
use Rattle.routes.specs.declared.found.Found.{Found}
use Rattle.standing.specs.Served.{hop_said}

-- a lookup's reads in bits 8 to 15, its hop in 16 to 31
abbrev pub pack_found : Said → ℕ
pack_found = packed (λ vs. value 0 vs * 256 + value 1 vs * 65536)

-- what a lookup's number says
unfoldable pub said_of : ℕ → Said
said_of w = cond (eqb (w % 256) 0) (hop_said (w / 256 % 256) (w / 65536)) (refused (w % 256))

-- w is the number for s, and says nothing else
pub record Word (w : ℕ) (s : Said) : Type 0 where
  pub packs : w ≡ pack_found s
  pub back : said_of w ≡ s

-- what is read in a word: what was found, or that it is a refusal's
abbrev pub FoundIn : ℕ → Option Found → Type 0
FoundIn w None = w % 256 ≡ 0 → ⊥
FoundIn w (Some f) = accepted (found_values f) ≡ said_of w

-- a lookup's answer has a hop where it has two values
abbrev pub has_hop : Said → Bool
has_hop (accepted vs) = ltb 1 (length vs)
has_hop (refused n) = false
has_hop (refused_at n k) = false

-- the same of its number: no refusal, and something in the hop's bits
abbrev pub hop_in_word : ℕ → Bool
hop_in_word w = eqb (w % 256) 0 && leb 65536 w
