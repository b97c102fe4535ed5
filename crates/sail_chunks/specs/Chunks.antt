-- A chunk opened or closed, where that is asked: at most one owner changes, and a closed chunk's cells are 0.
use Rattle.std.specs.Prelude.{Bool, true, not, ◌&&◌, cond, List, ◌≡◌, ℕ, ◌+◌, ◌*◌, ◌^◌, ◌≤◌, ◌<◌, ltb, length, set}
use Rattle.bits.specs.Slot.{slot}
use Rattle.standing.specs.Cells.{long}
use Rattle.routes.specs.declared.Route.{Route}
use Rattle.buffers.specs.Fill.{filled}

-- chunk c with the owner o
unfoldable pub with_owner : Bool → ℕ → ℕ → List ℕ → List ℕ
with_owner opens c o own = cond opens (set own c o) own

-- chunk c without an owner
unfoldable pub without_owner : Bool → ℕ → List ℕ → List ℕ
without_owner closes c own = cond closes (set own c 0) own

-- and its 2 ^ d cells
unfoldable pub blanked : Bool → ℕ → ℕ → List ℕ → List ℕ
blanked closes c d cells = cond closes (filled cells (c * 2 ^ d) (c * 2 ^ d + 2 ^ d) 0) cells

-- where a chunk is to be opened, c is one
pub record FreeToOpen (opens : Bool) (c : ℕ) (own : List ℕ) : Type 0 where
  pub some : opens ≡ true → c < length own

-- where chunk c is to be closed, it is one of a pool of chunks of 2 ^ d cells
pub record Closing (closes : Bool) (own cells : List ℕ) (c d : ℕ) : Type 0 where
  pub one : closes ≡ true → c < length own
  pub few : length own ≤ 4096
  pub size : d ≤ 10
  pub whole : length cells ≡ length own * 2 ^ d

-- The prefix of len bits of a is longer than p, and no route longer than p has its first p bits. So it alone needs a chunk for its cell of
-- level p: one that is to be opened, where rs are the routes before it comes, and to be closed, where they are those after it is gone.
unfoldable pub alone : List Route → ℕ → ℕ → ℕ → Bool
alone rs p a len = ltb p len && not (long rs p (slot p a))
