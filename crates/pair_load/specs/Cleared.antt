-- A party's chunks closed, in pools that both share: owners, cells and counts 0, and all other chunks as they were.
use Rattle.std.specs.Prelude.{cond, List, ◌≡◌, ℕ, ◌*◌, ◌^◌, ◌≤◌, length, get_or}
use Rattle.bits.specs.Tab.{tabulate}
use Rattle.sail.specs.Geometry.{bits2, bits3, Valid}
use Rattle.sail.specs.Level.{entry, in_use, live_in}
use Rattle.sail.specs.declared.geometry.Geometry.{Geometry}
use Rattle.sail_theory.specs.Render.{laid}
use Rattle.pair.specs.Party.{Party, one, two, view}

-- what a party adds to the owners that it writes
abbrev pub top_of : Party → ℕ
top_of one = 0
top_of two = 2147483648

-- the owners of a pool with 0 at each chunk that is in use among `see`
unfoldable pub freed : List ℕ → List ℕ → List ℕ
freed see own = tabulate (length own) (λ c. cond (in_use (entry see) c) 0 (get_or own c 0))

-- an array over the pool, of chunks of 2 ^ d cells, with 0 at the cells of these
unfoldable pub emptied : List ℕ → ℕ → List ℕ → List ℕ
emptied see d xs = laid xs (live_in (entry see) d) (λ q. 0)

-- what closing them asks
pub record ClosableAll (see own cells : List ℕ) (d : ℕ) : Type 0 where
  pub many : length see ≡ length own
  pub few : length own ≤ 4096
  pub size : d ≤ 10
  pub whole : length cells ≡ length own * 2 ^ d

-- in both pools
pub record ClearReady (g : Geometry) (second third own2 own3 long2 : List ℕ) : Type 0 where
  pub valid : Valid g
  pub few2 : length own2 ≤ 4096
  pub few3 : length own3 ≤ 4096
  pub cells2 : length second ≡ length own2 * 2 ^ bits2 g
  pub cells3 : length third ≡ length own3 * 2 ^ bits3 g
  pub counts2 : length long2 ≡ length own2 * 2 ^ bits2 g

pub record SideCleared (w : Party) (g : Geometry) (second third own2 own3 long2 second' third' own2' own3' long2' : List ℕ) : Type 0 where
  pub cells2 : second' ≡ emptied (view w own2) (bits2 g) second
  pub cells3 : third' ≡ emptied (view w own3) (bits3 g) third
  pub freed2 : own2' ≡ freed (view w own2) own2
  pub freed3 : own3' ≡ freed (view w own3) own3
  pub counts2 : long2' ≡ emptied (view w own2) (bits2 g) long2
