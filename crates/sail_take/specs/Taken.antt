-- A route taken out of a table whose pools others may use too: what is asked, and what is left. The table alone is sound, and has the route.
use Rattle.std.specs.Prelude.{List, ◌≡◌, ℕ, ◌<◌}
use Rattle.routes.specs.Route.{key, key_of}
use Rattle.routes.specs.Record.{record_at}
use Rattle.routes.specs.declared.Route.{Route}
use Rattle.standing.specs.Standing.{remove}
use Rattle.sail.specs.Lent.{Lent}
use Rattle.sail.specs.Sound.{standing}
use Rattle.sail.specs.declared.table.Table.{Table}
use Rattle.sail_theory.specs.Calls.{state_of, lent_of, owners_of, owners_kept}
use Rattle.sail_theory.specs.Facts.{Withdrawable}
use Rattle.sail_theory.specs.Shared.{alone, mixed_in}

-- of the table alone the prefix may be withdrawn, and record `at` of the list has it
pub record ToTakeIn (t : Table) (l : Lent) (a len at : ℕ) : Type 0 where
  pub may : Withdrawable t (alone t.geometry l) a len
  pub place : at < t.count
  pub named : key (record_at l.list at) ≡ key_of a len

-- the routes that then stand, and all that the table alone then holds
abbrev pub routes_left : Table → Lent → ℕ → ℕ → List Route
routes_left t l a len = remove (key_of a len) (standing t l)

abbrev pub lent_left : Table → Lent → ℕ → ℕ → Lent
lent_left t l a len = lent_of t l (routes_left t l a len) (owners_kept t.geometry (routes_left t l a len) (owners_of l))

-- the state u is that of these routes, and all that is lent e holds this table, and what others held in its pools
pub record TakenIn (t : Table) (l : Lent) (a len : ℕ) (u : Table) (e : Lent) : Type 0 where
  pub state : u ≡ state_of t (routes_left t l a len)
  pub lent : e ≡ mixed_in t.geometry l (lent_left t l a len)
