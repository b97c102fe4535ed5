-- Wrong versions of a repair, and the fact that refuses each.
use mathlib.Core.Path.{◌≡◌, refl, sym, ◌∙◌, ap}
use mathlib.Core.Bool.{false, true≢false}
use mathlib.Core.List.Memᴰ
use mathlib.Core.List.{List, [], ◌∷◌, ◌++◌}
use Prim.Native.Nat.{ℕ, ◌<◌}
use native.Mathlib.Omega.{arith}
use lib.ListN.{length}
use Rattle.bits.specs.Slot.{cut}
use Rattle.routes.specs.Route.{Good}
use Rattle.routes.specs.Record.{record_at, routes_of}
use Rattle.routes.specs.Input.{proper_prefix, hop_fine, route_fault}
use Rattle.routes.specs.Said.{accepts}
use Rattle.routes.proofs.Rows.{length-routes}
use Rattle.sail.specs.Lent.{Lent}
use Rattle.sail.specs.Sound.{Sound}
use Rattle.sail.specs.declared.table.Table.{Table}
use Rattle.repair_theory.specs.Repair.{kept_from, kept_of, kept_routes, repaired}
use Rattle.repair_theory.proofs.Repairs.{sound-kept, repair-sound-keeps}

-- one that keeps nothing, of a sound table with a route
pub none-refused : (t : Table) (l : Lent) → Sound t l → 0 < t.count → kept_routes t l ≡ [] → ⊥
none-refused t l s h e = omega (arith, sym (length-routes l.list t.count) ∙ ap length (sym (sound-kept t l s) ∙ e))

-- one that refuses a sound table
pub refusing-refused : (t : Table) (l : Lent) → Sound t l → accepts (repaired t l).said ≡ false → ⊥
refusing-refused t l s e = true≢false (sym (repair-sound-keeps t l s).accepted_so ∙ e)

-- one that keeps a record that is equal to the last one kept: 10.0.0.0/8 to 20 stands twice, and once is kept
abbrev ten : List ℕ
ten = 10 ∷ 0 ∷ 0 ∷ 0 ∷ 8 ∷ 0 ∷ 0 ∷ 20 ∷ []

kept-once : length (kept_of (ten ++ ten) 2) ≡ 1
unfolding kept_from record_at route_fault proper_prefix hop_fine cut
kept-once = refl

pub equal-refused : kept_of (ten ++ ten) 2 ≡ routes_of (ten ++ ten) 2 → ⊥
equal-refused e = omega (arith, sym kept-once ∙ ap length e ∙ length-routes (ten ++ ten) 2)

-- one that compares a record with the one before it, which may have been dropped: after 10.0.0.0/8 comes 0.0.0.0/0, which is dropped, and 1.0.0.0/8
-- is larger than that; kept beside 10.0.0.0/8 it would stand in no good list
abbrev one : List ℕ
one = 1 ∷ 0 ∷ 0 ∷ 0 ∷ 8 ∷ 0 ∷ 0 ∷ 7 ∷ []

abbrev three : List ℕ
three = ten ++ (0 ∷ 0 ∷ 0 ∷ 0 ∷ 0 ∷ 0 ∷ 0 ∷ 6 ∷ []) ++ one

pub kept-first : kept_of three 3 ≡ record_at three 0 ∷ []
unfolding kept_from record_at route_fault proper_prefix hop_fine cut
kept-first = refl

pub before-refused : Good (record_at three 0 ∷ record_at three 2 ∷ []) → ⊥
unfolding Good record_at
before-refused g = omega (arith, g.1 (record_at three 2) (Memᴰ.head refl))
