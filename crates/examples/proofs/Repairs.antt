-- Tables and answers that meet what the theorems on a repair suppose, and answers that its statement refuses: list A's table as it was loaded, the
-- same with one cell or one owner made another, and a geometry that no table has.
use mathlib.Core.Path.{◌≡◌, refl, sym, ◌∙◌, ap}
use mathlib.Core.Bool.{true, false}
use mathlib.Core.List.{[], ◌∷◌}
use Prim.Native.Nat.{ℕ, ◌<◌}
use native.Mathlib.Omega.{arith}
use lib.ListN.{get_or, length, set, length-set, length-replicate}
use lib.Seq.{get_or-set_same}
use Rattle.routes.specs.ListA.{list_a}
use Rattle.routes.specs.Said.{accepted, accepts}
use Rattle.sail.specs.Geometry.{valid_geo}
use Rattle.sail.specs.Lent.{Lent, lent}
use Rattle.sail.specs.Sizes.{sizes_fault}
use Rattle.sail.specs.Sound.{fresh_table}
use Rattle.sail.specs.declared.table.Table.{Table}
use Rattle.sail_theory.specs.Calls.{out, loaded}
use Rattle.sail_theory.specs.CallRuns.{done, after}
use Rattle.sail_theory.proofs.runs.AfterRun.{run_is}
use Rattle.repair_theory.specs.Repair.{repair_said, repaired}
use Rattle.repair_theory.specs.Leaves.{untouched, Spared}
use Rattle.repair_theory.proofs.Differs.{differ_same, differ-one}
use Rattle.repair_theory.proofs.Repairs.{repair-said, repair-undoes, repair-fresh}
use Rattle.repair.specs.Answers.{means_repaired}
use Rattle.repair.specs.Contract.{MeetsRepair}
use Rattle.repair.specs.declared.repair.Repaired.{Repaired}
use Rattle.repair.specs.declared.repair.Repaired.TheVariants.{Done}
use Rattle.repair.specs.declared.repair.RepairedTable.{RepairedTable}
use Rattle.demands.proofs.Repairs.{one-answer-repair}
use Rattle.examples.specs.Blank.{geo}
use Rattle.examples.specs.Starred.{table, arrays, bare, loaded_a, answer, starred}
use Rattle.examples.proofs.Starred.{sized}
use Rattle.examples.proofs.Witness.{line, t, l}

-- list A's table
abbrev u : Table
u = t loaded_a

abbrev v : Lent
v = l loaded_a

loads : accepts (loaded (t []) (l []) list_a).said ≡ true
unfolding starred answer after done
loads = ap accepts (line 0)

-- as it is: nothing is dropped, no cell differs, and nothing is altered
pub repair-A : repaired u v ≡ untouched u v
unfolding after done
repair-A = repair-fresh (t []) (l []) list_a loads

in-first : length v.first ≡ 65536
unfolding arrays
in-first = (run_is table arrays sized loaded_a).size.first ∙ length-replicate {A = ℕ} 65536 0

-- with a first cell or an owner that holds another value
abbrev pub first_set : ℕ → ℕ → Lent
first_set q x = lent v.list (set v.first q x) v.second v.third v.own2 v.own3 v.long1 v.long2

abbrev pub own_set : ℕ → ℕ → Lent
own_set q x = lent v.list v.first v.second v.third (set v.own2 q x) v.own3 v.long1 v.long2

first-spared : (q x : ℕ) → Spared v (first_set q x)
first-spared q x = record {
  size = record {
    list = refl;
    first = length-set v.first q x;
    second = refl;
    third = refl;
    chunks2 = refl;
    chunks3 = refl;
    counts1 = refl;
    counts2 = refl;
  };
  list = refl;
}

own-spared : (q x : ℕ) → Spared v (own_set q x)
own-spared q x = record {
  size = record {
    list = refl;
    first = refl;
    second = refl;
    third = refl;
    chunks2 = length-set v.own2 q x;
    chunks3 = refl;
    counts1 = refl;
    counts2 = refl;
  };
  list = refl;
}

-- "the cells that differ from before": one first cell, whichever it is
pub repair-first : (q x : ℕ) → q < 65536 → (x ≡ get_or v.first q 0 → ⊥) → repaired u (first_set q x) ≡ out (accepted (0 ∷ 1 ∷ 0 ∷ 0 ∷ [])) u v
unfolding after done
repair-first q x h n =
    repair-undoes (t []) (l []) list_a loads (first_set q x) (first-spared q x)
    ∙ rw (
      differ-one v.first q x (rw in-first h) n,
      differ_same v.second v.second refl,
      differ_same v.third v.third refl,
    )

-- owners are put right and not counted
pub repair-own : (q x : ℕ) → repaired u (own_set q x) ≡ untouched u v
unfolding after done
repair-own q x =
    repair-undoes (t []) (l []) list_a loads (own_set q x) (own-spared q x)
    ∙ rw (differ_same v.first v.first refl, differ_same v.second v.second refl, differ_same v.third v.third refl)

-- One answer: the table as it is, the one with a cell made another, and a refusal.
pub repaired-A : MeetsRepair u v (record { answer = Done 0 0 0 0; table = u }) v
unfolding means_repaired
repaired-A = sym repair-A

pub repaired-first : (q x : ℕ) → q < 65536 → (x ≡ get_or v.first q 0 → ⊥) → MeetsRepair u (first_set q x) (record { answer = Done 0 1 0 0; table = u }) v
unfolding means_repaired
repaired-first q x h n = sym (repair-first q x h n)

pub refused-repair : accepts (repaired (fresh_table (geo 16 27)) (bare (geo 16 27))).said ≡ false
unfolding repair_said sizes_fault valid_geo
refused-repair = ap accepts (repair-said (fresh_table (geo 16 27)) (bare (geo 16 27)))

-- What the statement refuses: a repair that leaves the cell as it found it, one that does not count it, and one that tells it of the second cells
module _ (q x : ℕ) (h : q < 65536) (n : x ≡ get_or v.first q 0 → ⊥) where
  pub not_left : (r : RepairedTable) → MeetsRepair u (first_set q x) r (first_set q x) → ⊥
  not_left r m = n (same (one-answer-repair u (first_set q x) r _ (first_set q x) v m (repaired-first q x h n)).1)
    where
      same : first_set q x ≡ v → x ≡ get_or v.first q 0
      same e = sym (get_or-set_same v.first q x 0 (rw in-first h)) ∙ ap (λ (w : Lent). get_or w.first q 0) e

  pub not-uncounted : MeetsRepair u (first_set q x) (record { answer = Done 0 0 0 0; table = u }) v → ⊥
  not-uncounted m =
      let e : ◌≡◌ {A = Repaired} (Done 0 0 0 0) (Done 0 1 0 0)
      = ap (λ (r : RepairedTable). r.answer) (one-answer-repair u (first_set q x) _ _ v v m (repaired-first q x h n)).0 in
      let z : ◌≡◌ {A = ℕ} 0 1 = cc in
      omega arith

  pub not-second : MeetsRepair u (first_set q x) (record { answer = Done 0 0 1 0; table = u }) v → ⊥
  not-second m =
      let e : ◌≡◌ {A = Repaired} (Done 0 0 1 0) (Done 0 1 0 0)
      = ap (λ (r : RepairedTable). r.answer) (one-answer-repair u (first_set q x) _ _ v v m (repaired-first q x h n)).0 in
      let z : ◌≡◌ {A = ℕ} 0 1 = cc in
      omega arith
