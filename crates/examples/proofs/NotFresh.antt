-- What does not serve as a fresh load does, beside list A's table: a load that is refused, a table with another mark in its list, one with another
-- hop at one address, one with another number of chunks in use, and one with another count at a first cell or at a second place.
use mathlib.Core.Path.{◌≡◌, refl, sym, ◌∙◌, ap}
use mathlib.Core.Bool.{false≢true}
use mathlib.Core.List.{List, [], ◌∷◌}
use Prim.Native.Nat.{ℕ, ◌-◌}
use native.Mathlib.Omega.{arith}
use lib.ListN.{get_or, set, length-set}
use lib.Seq.{get_or-set_same}
use Rattle.bits.specs.Tab.{tabulate}
use Rattle.bits.specs.Count.{count}
use Rattle.routes.specs.Record.{record_at, bytes_of, routes_of, written}
use Rattle.routes.specs.Said.{accepted, refused}
use Rattle.routes.specs.declared.Route.{Route}
use Rattle.standing.specs.Cells.{any, first, best}
use Rattle.sail.specs.Geometry.{standard_geo}
use Rattle.sail.specs.Sizes.{Sized}
use Rattle.sail.specs.Sound.{cells_read}
use Rattle.standing.specs.Served.{hop_said}
use Rattle.sail.specs.Lent.{Lent}
use Rattle.sail.specs.Walk.{lookup_said, walk_counts}
use Rattle.sail.proofs.Sounds.{sail-serves}
use Rattle.sail_theory.specs.Calls.{out}
use Rattle.sail_theory.specs.CallRuns.{AsFresh}
use Rattle.sail.specs.Cases.{Lookup}
use Rattle.sail.proofs.Judged.{lookup-only}
use Rattle.examples.specs.Lines.{ip}
use Rattle.routes.specs.ListA.{list_a}
use Rattle.examples.proofs.TableA.{state_a, lent_a, sound-A, standing-A}
use Rattle.examples.proofs.NotSound.{
  list_is,
  first_is,
  own2_is,
  own3_is,
  long1_is,
  long2_is,
  in_list,
  at_first,
  at-long1,
  at-long2,
  none_here,
  names-one,
  one-longer,
}

-- refused
pub load-refused : (n : ℕ) → AsFresh state_a lent_a (out (refused n) state_a lent_a) → ⊥
load-refused n f = false≢true f.accepted_too

-- the route of 10.1.0.0/16 attached: the mark is byte 5 of record 2, and no address is served otherwise
unmarked : get_or lent_a.list 21 0 ≡ 0
unfolding list_a routes_of tabulate record_at bytes_of written
unmarked = refl

pub other-mark : AsFresh state_a lent_a (out (accepted []) state_a (list_is (set lent_a.list 21 1))) → ⊥
other-mark f =
    let e : get_or (set lent_a.list 21 1) 21 0 ≡ 1 = get_or-set_same lent_a.list 21 1 0 (rw in_list (omega arith)) in
    let g = ap (λ (xs : List ℕ). get_or xs 21 0) f.lists in
    omega (arith, unmarked, e, g)

-- 192.0.2.1 gets hop 6, and hop 7 where its first cell says so
six : lookup_said state_a lent_a (ip 192 0 2 1) ≡ accepted (1 ∷ 6 ∷ [])
unfolding list_a routes_of tabulate record_at any best first hop_said
six =
    sail-serves state_a lent_a sound-A (ip 192 0 2 1) (omega arith)
    ∙ ap (λ (rs : List Route). hop_said (cells_read standard_geo rs (ip 192 0 2 1)) (best rs 32 (ip 192 0 2 1))) standing-A

sized : Sized standard_geo (first_is 49152 32775)
sized = record {
  valid = sound-A.sized.valid;
  whole = sound-A.sized.whole;
  room = sound-A.sized.room;
  cells1 = rw length-set sound-A.sized.cells1;
  few2 = sound-A.sized.few2;
  cells2 = sound-A.sized.cells2;
  few3 = sound-A.sized.few3;
  cells3 = sound-A.sized.cells3;
  counts1 = sound-A.sized.counts1;
  counts2 = sound-A.sized.counts2;
}

seven : lookup_said state_a (first_is 49152 32775) (ip 192 0 2 1) ≡ accepted (1 ∷ 7 ∷ [])
unfolding hop_said
seven =
    let e = at_first 49152 32775 (omega arith) in
    lookup-only state_a (first_is 49152 32775) (ip 192 0 2 1) _ (Lookup.first_leaf sized (omega (arith, e)))
    ∙ ap (λ (v : ℕ). hop_said 1 (v - 32768)) e

pub other-hop : AsFresh state_a lent_a (out (accepted []) state_a (first_is 49152 32775)) → ⊥
other-hop f =
    let e : accepted (1 ∷ 6 ∷ []) ≡ accepted (1 ∷ 7 ∷ []) = sym six ∙ f.lookups (ip 192 0 2 1) (omega arith) ∙ seven in
    let z : ◌≡◌ {A = ℕ} 6 7 = cc in
    omega arith

-- another chunk of a pool in use
pub more-second : AsFresh state_a lent_a (out (accepted []) state_a (own2_is (2562 ∷ 7 ∷ []))) → ⊥
unfolding count
more-second f = omega (arith, f.chunks2)

pub more-third : AsFresh state_a lent_a (out (accepted []) state_a (own3_is (3 ∷ 7 ∷ []))) → ⊥
unfolding count
more-third f = omega (arith, f.chunks3)

-- another count at a first cell
pub more-long : AsFresh state_a lent_a (out (accepted []) state_a (long1_is 0 1)) → ⊥
more-long f = omega (arith, none_here, at-long1 0 1 (omega arith), ap (λ (xs : List ℕ). get_or xs 0 0) f.longs1)

-- another count at second place 2, which the lookup of 10.1.2.5 reads: no other clause speaks of it
walked : (l : Lent) → get_or l.first 2561 0 ≡ 1 → walk_counts standard_geo l (ip 10 1 2 5) ≡ get_or l.long1 2561 0 ∷ get_or l.long2 2 0 ∷ []
unfolding walk_counts
walked l e = rw e refl

abbrev second_of : List ℕ → ℕ
second_of (x ∷ y ∷ xs) = y
second_of (x ∷ []) = 0
second_of [] = 0

pub less-long2 : AsFresh state_a lent_a (out (accepted []) state_a (long2_is 2 0)) → ⊥
less-long2 f =
    let e = sym (walked lent_a names-one) ∙ f.longs2 (ip 10 1 2 5) (omega arith) ∙ walked (long2_is 2 0) names-one in
    let z : get_or lent_a.long2 2 0 ≡ get_or (set lent_a.long2 2 0) 2 0 = ap second_of e in
    omega (arith, one-longer, at-long2 2 0 (omega arith), z)
