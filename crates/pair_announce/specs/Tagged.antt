-- A chunk that a party opened, in the owners of both.
use Rattle.std.specs.Prelude.{Bool, true, cond, List, ◌≡◌, ℕ, ◌-◌, ◌≤◌, ◌<◌, get_or, length, set}
use Rattle.pair.specs.Party.{Party, owner_of}

-- chunk c, where it was opened, has the owner that the party writes for what it sees there: 1 + the place that the chunk hangs from
unfoldable pub tagged : Party → Bool → ℕ → List ℕ → List ℕ → List ℕ
tagged w opens c see own = cond opens (set own c (owner_of w (get_or see c 0 - 1))) own

-- what a party sees in the owner of a chunk of its own leaves the top bit free
pub record OwnSeen (o : ℕ) : Type 0 where
  pub some : 1 ≤ o
  pub small : o < 2147483648

-- where it was opened, c is a chunk, and the party sees it as its own
pub record TagReady (opens : Bool) (c : ℕ) (see own : List ℕ) : Type 0 where
  pub there : opens ≡ true → c < length own
  pub seen : opens ≡ true → c < length see
  pub mine : opens ≡ true → OwnSeen (get_or see c 0)
