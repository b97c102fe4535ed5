-- What a repair leaves: of any table, of a sound one, and of one that a load has left.
use Rattle.std.specs.Prelude.{true, [], ◌∷◌, ◌≡◌, ℕ, ◌^◌, ◌<◌}
use Rattle.routes.specs.Said.{accepted, accepts}
use Rattle.sail.specs.Lent.{Lent}
use Rattle.sail.specs.Sound.{standing}
use Rattle.sail.specs.Walk.{lookup_said}
use Rattle.sail.specs.declared.table.Table.{Table}
use Rattle.sail_theory.specs.Calls.{Out, out}
use Rattle.sail_theory.specs.Facts.{SameSize}
use Rattle.repair_theory.specs.Repair.{kept_routes, reloaded, differ, dropped, repaired}

module _ (t : Table) (l : Lent) where
  -- "It loads what was kept": that load is accepted, and what it leaves is left
  pub record Loads : Type 0 where
    pub loads : (reloaded t l).said ≡ accepted []
    pub table : (repaired t l).table ≡ (reloaded t l).table
    pub lent : (repaired t l).lent ≡ (reloaded t l).lent

  -- "A sound table keeps all its records": it is accepted and drops none; then the same routes stand, and every address is served as before
  pub record SoundKeeps : Type 0 where
    pub accepted_so : accepts (repaired t l).said ≡ true
    pub keeps_all : kept_routes t l ≡ standing t l
    pub drops_none : dropped t l ≡ 0
    pub stands : standing (repaired t l).table (repaired t l).lent ≡ standing t l
    pub serves : (a : ℕ) → a < 2 ^ 32 → lookup_said (repaired t l).table (repaired t l).lent a ≡ lookup_said t l a

-- nothing is dropped, no cell differs, and all is left as it was
abbrev pub untouched : Table → Lent → Out
untouched t l = out (accepted (0 ∷ 0 ∷ 0 ∷ 0 ∷ [])) t l

-- a fault that spares the list: anything else may be in the cells, the owners and the counts
pub record Spared (l d : Lent) : Type 0 where
  pub size : SameSize l d
  pub list : d.list ≡ l.list

-- what was in l is there again, where d was found: no record is dropped, and the cells that were damaged are counted
abbrev pub undone : Table → Lent → Lent → Out
undone t l d = out (accepted (0 ∷ differ d.first l.first ∷ differ d.second l.second ∷ differ d.third l.third ∷ [])) t l
