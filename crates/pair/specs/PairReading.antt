-- When a box is sound, said of the cells, owners and counts as they are. It holds exactly if `PairSound` does (`sound-reads`, `reads-sound`,
-- proofs/PairReading.antt), so a reader need not believe the tables that the parties see.
use Rattle.std.specs.Prelude.{true, List, ◌≡◌, ℕ, suc, ◌+◌, ◌/◌, ◌^◌, ◌≤◌, ◌<◌, get_or, length}
use Rattle.routes.specs.Record.{Listed}
use Rattle.standing.specs.Cells.{need}
use Rattle.counts.specs.Counts.{how_many}
use Rattle.sail.specs.Geometry.{bits2, bits3}
use Rattle.sail.specs.Level.{chunks_of, level1, level2}
use Rattle.sail.specs.Sizes.{Sized}
use Rattle.sail.specs.Sound.{Serves, Counted}
use Rattle.pair.specs.Party.{Party, owner_of, view}
use Rattle.pair.specs.PairLent.{PairLent, side, mine, seen_by}
use Rattle.pair.specs.PairSound.{share_of, standing_for}
use Rattle.pair.specs.declared.Pair.{Pair}

-- Whose chunk an owner o is. "An owner's top bit is 1 for the second party; owner 0 is nobody's"
pub data Whose (o : ℕ) : Type 0 where
  nobodys : o ≡ 0 → Whose o
  hangs : (w : Party) (q : ℕ) → suc q < 2147483648 → o ≡ owner_of w q → Whose o

-- "A free chunk has owner 0 and all cells 0": an array over a pool of chunks of 2 ^ d cells is 0 in every chunk with owner 0
pub record FreeBlank (own : List ℕ) (d : ℕ) (xs : List ℕ) : Type 0 where
  pub blank : (q : ℕ) → q < length xs → get_or own (q / 2 ^ d) 0 ≡ 0 → get_or xs q 0 ≡ 0

-- One party's own: its list is good; its first cells, and the pools' cells in its chunks, serve its routes, and each of its chunks hangs from the cell
-- that names it; and the counts of its first cells, and those in its chunks, are true.
pub record PartyReads (w : Party) (t : Pair) (b : PairLent) : Type 0 where
  pub listed : Listed (side w b).list (share_of w t).count
  pub serves : Serves (standing_for w t b) t.geometry (seen_by w b)
  pub counted1 : Counted (standing_for w t b) (level1 t.geometry) (side w b).long1
  pub counted2 : (q : ℕ) → q < length b.long2 → mine w b.own2 (bits2 t.geometry) q ≡ true
      → get_or b.long2 q 0 ≡ how_many (standing_for w t b) t.geometry.p2 ((level2 t.geometry (chunks_of (view w b.own2))).at q)

-- "Soundness is of both together, with needs within limits and limits that fit the pools"
pub record BoxReads (t : Pair) (b : PairLent) : Type 0 where
  pub sized : (w : Party) → Sized t.geometry (side w b)
  pub each : (w : Party) → PartyReads w t b
  -- each chunk is one party's or nobody's
  pub whose2 : (c : ℕ) → c < length b.own2 → Whose (get_or b.own2 c 0)
  pub whose3 : (c : ℕ) → c < length b.own3 → Whose (get_or b.own3 c 0)
  -- a chunk of nobody is blank, in its cells and in its counts
  pub blank2 : FreeBlank b.own2 (bits2 t.geometry) b.second
  pub blank3 : FreeBlank b.own3 (bits3 t.geometry) b.third
  pub uncounted : FreeBlank b.own2 (bits2 t.geometry) b.long2
  -- "with needs within limits"
  pub within2 : (w : Party) → need (standing_for w t b) t.geometry.p1 ≤ (share_of w t).most2
  pub within3 : (w : Party) → need (standing_for w t b) t.geometry.p2 ≤ (share_of w t).most3
  -- "and limits that fit the pools"
  pub fit2 : t.one.most2 + t.two.most2 ≤ length b.own2
  pub fit3 : t.one.most3 + t.two.most3 ≤ length b.own3
