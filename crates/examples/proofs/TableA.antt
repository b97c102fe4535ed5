-- List A's table, in arrays of two chunks a pool, of which one is free: its routes and its owners, and that it is sound.
use mathlib.Core.Path.{◌≡◌, refl, subst}
use mathlib.Core.List.{List, [], ◌∷◌}
use Prim.Native.Nat.{ℕ}
use native.Mathlib.Omega.{arith}
use lib.ListN.{replicate, length-replicate}
use Rattle.bits.specs.Slot.{cut}
use Rattle.bits.specs.Search.{first_from, first_of}
use Rattle.bits.specs.Tab.{tabulate}
use Rattle.standing.specs.Cells.{any, need}
use Rattle.routes.specs.Route.{Good}
use Rattle.routes.specs.Record.{record_at, routes_of}
use Rattle.routes.specs.Input.{proper_prefix, hop_fine, route_fault, in_order, fault_at, input_said}
use Rattle.routes.specs.Said.{accepted}
use Rattle.routes.specs.declared.Route.{Route}
use Rattle.routes.proofs.Meaning.{input-good}
use Rattle.routes.proofs.Rows.{records-good}
use Rattle.sail.specs.Geometry.{standard_geo}
use Rattle.sail.specs.Lent.{Lent, lent}
use Rattle.sail.specs.Level.{chunk_for}
use Rattle.sail.specs.Sizes.{Sized}
use Rattle.sail.specs.Sound.{Sound, standing, fresh_table}
use Rattle.sail.specs.declared.table.Table.{Table}
use Rattle.sail_theory.specs.Render.{rendered}
use Rattle.sail_theory.specs.Calls.{Owners, grant, open_at, owners_after, no_owners, state_of, lent_of}
use Rattle.sail_theory.specs.Facts.{Loadable, TableHolds}
use Rattle.sail_theory.proofs.calls.Load.{loadable-holds}
use Rattle.routes.specs.ListA.{list_a}

pub good_a : input_said list_a ≡ accepted (5 ∷ [])
unfolding list_a input_said first_of first_from fault_at route_fault in_order proper_prefix hop_fine record_at cut
good_a = refl

-- its routes
abbrev pub routes_a : List Route
routes_a = routes_of list_a 5

pub routes-good : Good routes_a
routes-good = records-good list_a 5 (input-good list_a 5 good_a).1

-- the state, the owners, and all that is lent
abbrev pub state_a : Table
state_a = record { geometry = standard_geo; count = 5 }

abbrev pub owners_a : Owners
owners_a = record { own2 = 2562 ∷ 0 ∷ []; own3 = 3 ∷ 0 ∷ [] }

abbrev pub lent_a : Lent
lent_a = rendered standard_geo 8 routes_a owners_a.own2 owners_a.own3

-- blank arrays of these sizes
blank : Lent
blank =
    lent (replicate 64 0) (replicate 65536 0) (replicate 512 0) (replicate 512 0) (0 ∷ 0 ∷ []) (0 ∷ 0 ∷ []) (replicate 65536 0) (replicate 512 0)

blank-sized : Sized standard_geo blank
unfolding blank
blank-sized = record {
  valid = record { p1_low = omega arith; p1_high = omega arith; p2_low = omega arith; p2_high = omega arith; near = omega arith };
  whole = refl;
  room = omega arith;
  cells1 = length-replicate {A = ℕ} 65536 0;
  few2 = omega arith;
  cells2 = length-replicate {A = ℕ} 512 0;
  few3 = omega arith;
  cells3 = length-replicate {A = ℕ} 512 0;
  counts1 = length-replicate {A = ℕ} 65536 0;
  counts2 = refl;
}

pub need2 : need routes_a 16 ≡ 1
unfolding list_a routes_of tabulate record_at need any
need2 = refl

pub need3 : need routes_a 24 ≡ 1
unfolding list_a routes_of tabulate record_at need any
need3 = refl

loadable : Loadable (fresh_table standard_geo) blank routes_a
unfolding blank list_a routes_of tabulate
loadable = record { sized = blank-sized; good = routes-good; roomy = omega arith; enough2 = omega (arith, need2); enough3 = omega (arith, need3) }

settled-A : owners_after standard_geo (no_owners blank) routes_a ≡ owners_a
unfolding blank list_a routes_of tabulate record_at owners_after open_at grant chunk_for first_of first_from
settled-A = refl

abbrev loaded_state : Table
loaded_state = state_of (fresh_table standard_geo) routes_a

holds : TableHolds (fresh_table standard_geo) blank routes_a loaded_state
    (lent_of (fresh_table standard_geo) blank routes_a (owners_after standard_geo (no_owners blank) routes_a))
holds = loadable-holds (fresh_table standard_geo) blank routes_a loadable

pub sound-A : Sound state_a lent_a
unfolding blank list_a routes_of tabulate
sound-A = subst (λ (o : Owners). Sound state_a (rendered standard_geo 8 routes_a o.own2 o.own3)) settled-A holds.sound

-- these routes stand in it
pub standing-A : standing state_a lent_a ≡ routes_a
unfolding blank list_a routes_of tabulate
standing-A = subst (λ (o : Owners). standing state_a (rendered standard_geo 8 routes_a o.own2 o.own3) ≡ routes_a) settled-A holds.routes
