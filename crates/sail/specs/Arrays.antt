-- What the arrays hold that a call is lent as one value.
use Rattle.std.specs.Prelude.{◌≡◌}
use Rattle.sail.specs.Lent.{Lent, lent}
use Rattle.sail.specs.declared.arrays.Arrays.{Arrays}
use Rattle.sail.specs.declared.arrays.ArraysMut.{ArraysMut}

abbrev pub lent_by : Arrays → Lent
lent_by a = lent a.list.now a.first.now a.second.now a.third.now a.own2.now a.own3.now a.long1.now a.long2.now

abbrev pub held_by : ArraysMut → Lent
held_by a = lent a.list.now a.first.now a.second.now a.third.now a.own2.now a.own3.now a.long1.now a.long2.now

-- each array is still the one that was lent
pub record SameArrays (a b : ArraysMut) : Type 0 where
  pub list : b.list.ghost_name ≡ a.list.ghost_name
  pub first : b.first.ghost_name ≡ a.first.ghost_name
  pub second : b.second.ghost_name ≡ a.second.ghost_name
  pub third : b.third.ghost_name ≡ a.third.ghost_name
  pub own2 : b.own2.ghost_name ≡ a.own2.ghost_name
  pub own3 : b.own3.ghost_name ≡ a.own3.ghost_name
  pub long1 : b.long1.ghost_name ≡ a.long1.ghost_name
  pub long2 : b.long2.ghost_name ≡ a.long2.ghost_name
