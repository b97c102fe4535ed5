-- One prefix more or less in a sound table: what is asked, and what is left.
use Rattle.std.specs.Prelude.{Bool, true, ◌&&◌, List, ◌≡◌, ℕ, ◌+◌, ◌*◌, ◌≤◌, eqb, length}
use Rattle.routes.specs.Record.{record_at}
use Rattle.routes.specs.declared.Route.{Route}
use Rattle.chain.specs.List.{ChainedFront}
use Rattle.sail.specs.Lent.{Lent}
use Rattle.sail.specs.Sound.{Sound}
use Rattle.sail.specs.declared.table.Table.{Table}
use Rattle.sail_theory.specs.Calls.{Out, adding, taking}
use Rattle.sail_theory.specs.Facts.{SameSize}
use Rattle.update_theory.specs.Deal.{stop_of}

-- a sound table, and the words of its list with their chain
pub record Ready (t : Table) (l : Lent) (ws par : List ℕ) : Type 0 where
  pub sound : Sound t l
  pub chain : ChainedFront l.list t.count ws par

-- record k is in the list, if its prefix stands
pub record IsIn (list : List ℕ) (k : ℕ) (stands : Bool) : Type 0 where
  pub inside : stands ≡ true → (k + 1) * 8 ≤ length list

-- the prefix of record k stands, with the hop and the mark of r
abbrev pub stands_so : List ℕ → ℕ → Bool → Route → Bool
stands_so list k stands r = stands && (eqb (record_at list k).hop r.hop && eqb (record_at list k).mark r.mark)

-- the state u and all that is lent e are those of the outcome o, of the same sizes, and the next prefix can be dealt with
pub record Leaves (l : Lent) (o : Out) (u : Table) (e : Lent) (ws par : List ℕ) : Type 0 where
  pub table : u ≡ o.table
  pub lent : e ≡ o.lent
  pub ready : Ready u e ws par
  pub size : SameSize l e

pub record RouteDealt (t : Table) (l : Lent) (r : Route) (number : ℕ) (u : Table) (e : Lent) (ws par : List ℕ) : Type 0 where
  pub stop : number ≡ stop_of (adding t l r).said
  pub left : Leaves l (adding t l r) u e ws par

pub record PrefixDealt (t : Table) (l : Lent) (a len : ℕ) (u : Table) (e : Lent) (ws par : List ℕ) : Type 0 where
  pub left : Leaves l (taking t l a len) u e ws par
