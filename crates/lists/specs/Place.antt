-- The place of a key in a list of records.
use Rattle.std.specs.Prelude.{ℕ, Bool, List, leb}
use Rattle.bits.specs.Search.{first_of}
use Rattle.routes.specs.Route.{key}
use Rattle.routes.specs.Record.{record_at}

-- record j is not before the key k
abbrev pub from_key : List ℕ → ℕ → ℕ → Bool
from_key s k j = leb k (key (record_at s j))

-- the first of n records that is not before the key k; n where there is none
unfoldable pub place_of : List ℕ → ℕ → ℕ → ℕ
place_of s n k = first_of (from_key s k) n
