-- Which records are looked at, and how many of them are kept.
use mathlib.Core.Path.{◌≡◌}
use Prim.Native.Nat.{◌+◌, ◌≤◌}
use native.Mathlib.Omega.{arith}
use lib.ListN.{length}
use Rattle.routes.specs.Route.{Good}
use Rattle.sail.specs.Lent.{Lent}
use Rattle.sail.specs.declared.table.Table.{Table}
use Rattle.sail_theory.specs.Render.{room_of}
use Rattle.repair_theory.specs.Repair.{looked, kept_routes, dropped}
use Rattle.repair_theory.specs.Keeping.{Looks}
use Rattle.repair_theory.proofs.Kept as keeping

module _ (t : Table) (l : Lent) where
  pub looks : Looks t l
  unfolding looked
  looks = record { to_count = λ h. omega arith; to_room = λ h. omega arith; inside = omega arith }

  pub kept-good : Good (kept_routes t l)
  unfolding kept_routes
  kept-good = keeping.kept-good l.list 0 0 (looked t l)

  pub kept-few : length (kept_routes t l) ≤ looked t l
  unfolding kept_routes
  kept-few = keeping.kept-few l.list 0 0 (looked t l)

  -- a record that is looked at is kept or dropped
  pub kept-dropped : length (kept_routes t l) + dropped t l ≡ looked t l
  kept-dropped = omega (arith, kept-few)

  pub kept-room : length (kept_routes t l) ≤ room_of l
  kept-room = omega (arith, kept-few, looks.inside)
