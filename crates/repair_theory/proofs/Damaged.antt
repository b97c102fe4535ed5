-- Which records of a damaged list A are kept, computed.
use mathlib.Core.Path.{◌≡◌, refl}
use mathlib.Core.List.{List, map}
use Prim.Native.Nat.{ℕ}
use Rattle.bits.specs.Slot.{cut}
use Rattle.routes.specs.ListA.{list_a}
use Rattle.routes.specs.Record.{record_at}
use Rattle.routes.specs.Input.{proper_prefix, hop_fine, route_fault}
use Rattle.repair_theory.specs.Repair.{kept_from}
use Rattle.repair_theory.specs.Damaged.{Damage, list_of, kept_hops, damages}

pub damages-hold : map kept_hops damages ≡ map {B = List ℕ} (λ (d : Damage). d.hops) damages
unfolding damages kept_hops list_of list_a kept_from record_at route_fault proper_prefix hop_fine cut
damages-hold = refl
