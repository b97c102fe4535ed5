-- What the soundness test of a box goes through: each party's own, the pools of both, and the limits.
use Rattle.std.specs.Prelude.{Bool, true, List, ◌≡◌, ℕ, ◌≤◌, length}
use Rattle.bits.specs.Tab.{Tells}
use Rattle.chain.specs.List.{ChainedFront}
use Rattle.sail.specs.Geometry.{bits2, bits3, Valid}
use Rattle.sail.specs.Lent.{Lent, lent}
use Rattle.sail.specs.Sizes.{Sized}
use Rattle.sail.specs.Sound.{used}
use Rattle.sail.specs.declared.geometry.Geometry.{Geometry}
use Rattle.sail.specs.declared.table.Table.{Table}
use Rattle.sail_cells_test.specs.Pool.{FreeAll, Chunked}
use Rattle.sail_counts_test.specs.CountsTest.{Idle}
use Rattle.sail_sound.specs.Seen.{SeenRight}
use Rattle.pair.specs.Party.{Party, view}
use Rattle.pair.specs.PairLent.{PairLent, side}
use Rattle.pair.specs.PairSound.{share_of, Nobodys, PairSound, pair_sound?}
use Rattle.pair.specs.declared.Pair.{Pair}

-- what is lent to a party, with the owners as it sees them
abbrev pub among : Party → Lent → Lent
among w l = lent l.list l.first l.second l.third (view w l.own2) (view w l.own3) l.long1 l.long2

-- a party's own: its table among others is right, and the chunks that it uses are within its limits
pub record PartyRight (w : Party) (t : Table) (most2 most3 : ℕ) (l : Lent) : Type 0 where
  pub right : SeenRight t (among w l)
  pub within2 : used (view w l.own2) ≤ most2
  pub within3 : used (view w l.own3) ≤ most3

-- the answer; the owners as the party sees them; and where it is true, the words of its routes with their chain
pub record PartyTold (r : Bool) (w : Party) (t : Table) (most2 most3 : ℕ) (l : Lent) (see2 see3 ws par : List ℕ) : Type 0 where
  pub tells : Tells r (PartyRight w t most2 most3 l)
  pub seen2 : see2 ≡ view w l.own2
  pub seen3 : see3 ≡ view w l.own3
  pub chained : r ≡ true → ChainedFront l.list t.count ws par

-- room for what a party sees of these owners
pub record Sight (own2 own3 see2 see3 : List ℕ) : Type 0 where
  pub room2 : length see2 ≡ length own2
  pub room3 : length see3 ≡ length own3

-- the pools of both: owners that are a party's or 0, free chunks zero, and what names no chunk counts 0
pub record PoolsRight (g : Geometry) (second third own2 own3 long2 : List ℕ) : Type 0 where
  pub nobodys2 : Nobodys own2
  pub nobodys3 : Nobodys own3
  pub free2 : FreeAll (bits2 g) own2 second
  pub free3 : FreeAll (bits3 g) own3 third
  pub idle : Idle second long2

pub record PoolsReady (g : Geometry) (second third own2 own3 long2 : List ℕ) : Type 0 where
  pub valid : Valid g
  pub chunked2 : Chunked (bits2 g) own2 second
  pub chunked3 : Chunked (bits3 g) own3 third
  pub counts : length long2 ≡ length second

-- both parties' sizes are right
pub record BothSized (g : Geometry) (b : PairLent) : Type 0 where
  pub each : (w : Party) → Sized g (side w b)

-- what the test leaves for the party w: the owners as it sees them, and the words of its routes with their chain
pub record BoxSight (w : Party) (t : Pair) (b : PairLent) (see2 see3 ws par : List ℕ) : Type 0 where
  pub seen2 : see2 ≡ view w b.own2
  pub seen3 : see3 ≡ view w b.own3
  pub chain : ChainedFront (side w b).list (share_of w t).count ws par

-- the answer tells whether the box is sound, and is that of the test by which the calls are defined
pub record BoxTold (r : Bool) (w : Party) (t : Pair) (b : PairLent) (see2 see3 ws par : List ℕ) : Type 0 where
  pub tells : Tells r (PairSound t b)
  pub is : r ≡ pair_sound? t b
  pub sight : r ≡ true → BoxSight w t b see2 see3 ws par
