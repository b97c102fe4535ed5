-- What a message to a table can say, case by case and in the order of refusals, each case with all that then holds. The cases exclude each other, and
-- the call says what is written next to the one that holds (`refused-number-update`).
use Rattle.std.specs.Prelude.{List, [], ◌∷◌, ◌≡◌, ℕ, ◌%◌, ◌^◌, ◌<◌, length}
use Rattle.routes.specs.Said.{Said, accepted, refused, refused_at}
use Rattle.fields.specs.Field.{Net}
use Rattle.fields.specs.Message.{BothFields, HopOk}
use Rattle.sail.specs.Cases.{Sizing}
use Rattle.sail.specs.Lent.{Lent}
use Rattle.sail.specs.Sizes.{Sized}
use Rattle.sail.specs.Sound.{Sound}
use Rattle.sail.specs.declared.table.Table.{Table}
use Rattle.sail_theory.specs.Calls.{route}
use Rattle.sail_theory.specs.Cases.{Announce}
use Rattle.update_theory.specs.Deal.{Entry, comes, all_entries, after_first, NthEntry}
use Rattle.update_theory.specs.Update.{Kept, kept, turn}

-- "The first refusal for room": 6, 7 and 8
pub data ForRoom : ℕ → Type 0 where
  six : ForRoom 6
  seven : ForRoom 7
  eight : ForRoom 8

module _ (t : Table) (l : Lent) (withdrawn reach : List ℕ) (hop : ℕ) where
  -- the message may be dealt: the table is sound, both fields are fields, and a route may have the hop
  pub record Dealable : Type 0 where
    pub sound : Sound t l
    pub fields : BothFields withdrawn reach
    pub hop_ok : HopOk hop

  abbrev all : List Entry
  all = all_entries withdrawn reach

  -- the table after the first k entries
  abbrev pub at_entry : ℕ → Kept
  at_entry k = after_first (turn hop) k (kept t l) all

  -- none of the first k entries stops
  abbrev pub Passed : ℕ → Type 0
  Passed k = (j : ℕ) (e : Entry) → j < k → NthEntry all j e → (turn hop (at_entry j) e).stop ≡ 0

  -- entry k is the first that stops: it is the announcement of n, which the table after exactly those before it refuses with this number
  pub record StopsAt (k number : ℕ) : Type 0 where
    pub net : Net
    pub here : NthEntry all k (comes net)
    pub passed : Passed k
    pub refuses : Announce (at_entry k).table (at_entry k).lent (route net.addr net.len hop 0) (refused number)
    pub room : ForRoom number

  pub data Update : Said → Type 0 where
    sizing : (n : ℕ) → Sizing t l n → Update (refused n)
    unsound : Sized t.geometry l → (Sound t l → ⊥) → Update (refused 5)
    no_field : Sound t l → (BothFields withdrawn reach → ⊥) → Update (refused 17)
    no_hop : Sound t l → BothFields withdrawn reach → (HopOk hop → ⊥) → Update (refused 4)
    stopped : (k number : ℕ) → Dealable → StopsAt k number → Update (refused_at number (k % 2 ^ 32))
    done : Dealable → Passed (length all) → Update (accepted (length all % 2 ^ 32 ∷ []))
