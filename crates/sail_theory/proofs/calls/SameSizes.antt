-- Arrays of the same sizes: what a call says of sizes and of what there is for routes is the same of both; and load and make read nothing
-- else of the old table.
use mathlib.Core.Path.{◌≡◌, refl, sym, ◌∙◌, ap, ap₂}
use mathlib.Core.Bool.{true}
use mathlib.Core.List.{List, []}
use Prim.Native.Nat.{ℕ, ◌*◌, ◌^◌}
use Rattle.routes.specs.Input.{input_said}
use Rattle.routes.specs.Said.{accepted, and_then, accepts}
use Rattle.routes.specs.declared.Route.{Route}
use Rattle.sail.specs.Geometry.{bits2, bits3}
use Rattle.sail.specs.Lent.{Lent}
use Rattle.sail.specs.Sizes.{sizes_fit, sizes_fault, Sized}
use Rattle.sail.specs.Sound.{fresh_table, fresh_lent}
use Rattle.sail.specs.declared.geometry.Geometry.{Geometry}
use Rattle.sail.specs.declared.table.Table.{Table}
use Rattle.sail_theory.specs.Calls.{
  owners_after,
  no_owners,
  Terms,
  terms_of,
  load_fault,
  or_say,
  make_said,
  load_said,
  input_routes,
  Out,
  state_of,
  lent_of,
  loaded,
}
use Rattle.sail_theory.specs.Facts.{SameSize}
use Rattle.sail_theory.proofs.calls.Outcomes.{outcome-accepted}

pub size-refl : (l : Lent) → SameSize l l
size-refl l = record { list = refl; first = refl; second = refl; third = refl; chunks2 = refl; chunks3 = refl; counts1 = refl; counts2 = refl }

pub size-sym : (l u : Lent) → SameSize l u → SameSize u l
size-sym l u a = record {
  list = sym a.list;
  first = sym a.first;
  second = sym a.second;
  third = sym a.third;
  chunks2 = sym a.chunks2;
  chunks3 = sym a.chunks3;
  counts1 = sym a.counts1;
  counts2 = sym a.counts2;
}

pub size-trans : (l u v : Lent) → SameSize l u → SameSize u v → SameSize l v
size-trans l u v a b = record {
  list = b.list ∙ a.list;
  first = b.first ∙ a.first;
  second = b.second ∙ a.second;
  third = b.third ∙ a.third;
  chunks2 = b.chunks2 ∙ a.chunks2;
  chunks3 = b.chunks3 ∙ a.chunks3;
  counts1 = b.counts1 ∙ a.counts1;
  counts2 = b.counts2 ∙ a.counts2;
}

pub sized_same : (g : Geometry) (l u : Lent) → Sized g l → SameSize l u → Sized g u
sized_same g l u z s = record {
  valid = z.valid;
  whole = rw s.list z.whole;
  room = rw s.list z.room;
  cells1 = s.first ∙ z.cells1;
  few2 = rw s.chunks2 z.few2;
  cells2 = s.second ∙ z.cells2 ∙ ap (λ (n : ℕ). n * 2 ^ bits2 g) (sym s.chunks2);
  few3 = rw s.chunks3 z.few3;
  cells3 = s.third ∙ z.cells3 ∙ ap (λ (n : ℕ). n * 2 ^ bits3 g) (sym s.chunks3);
  counts1 = s.counts1 ∙ z.counts1;
  counts2 = s.counts2 ∙ z.counts2 ∙ sym s.second;
}

module _ (t : Table) (l : Lent) (u : Table) (v : Lent) (geo : u.geometry ≡ t.geometry) (s : SameSize l v) where
  pub terms-same : terms_of u v ≡ terms_of t l
  terms-same = rw (geo, s.list, s.chunks2, s.chunks3)

  pub fault-same : sizes_fault u.geometry v ≡ sizes_fault t.geometry l
  unfolding sizes_fault sizes_fit
  fault-same = rw (geo, s.list, s.first, s.second, s.third, s.chunks2, s.chunks3, s.counts1, s.counts2)

  none-same : no_owners v ≡ no_owners l
  none-same = rw (s.chunks2, s.chunks3)

  -- what make says and leaves depends on the geometry and the sizes alone
  pub make-blind : (make_said u v ≡ make_said t l) × (fresh_table u.geometry ≡ fresh_table t.geometry) × (fresh_lent v ≡ fresh_lent l)
  unfolding make_said fresh_lent
  make-blind = (rw fault-same, rw geo, rw (s.list, s.first, s.second, s.third, s.chunks2, s.chunks3, s.counts1, s.counts2))

  -- "Load takes its geometry from the state and reads nothing else of the old table"
  module _ (input : List ℕ) where
    abbrev rs : List Route
    rs = input_routes input

    pub load-says : load_said u v input ≡ load_said t l input
    unfolding load_said
    load-says = ap₂ (λ (n : ℕ) (m : Terms). or_say n (and_then (input_said input) (or_say (load_fault m rs) (accepted [])))) fault-same terms-same

    same : ◌≡◌ {A = Out} (record { said = load_said u v input; table = state_of u rs; lent = lent_of u v rs (owners_after u.geometry (no_owners v) rs) })
        (record { said = load_said t l input; table = state_of t rs; lent = lent_of t l rs (owners_after t.geometry (no_owners l) rs) })
    same = rw (load-says, geo, s.list, none-same)

    pub load-blind : accepts (load_said t l input) ≡ true → loaded u v input ≡ loaded t l input
    unfolding loaded
    load-blind e = outcome-accepted _ u v _ _ (rw load-says e) ∙ same ∙ sym (outcome-accepted _ t l _ _ e)
