-- The whole call: what it refuses, what counting the cells asks, and what it leaves.
use mathlib.Core.Path.{◌≡◌, sym, ◌∙◌, ap}
use mathlib.Core.List.{List, [], ◌∷◌}
use Prim.Native.Nat.{ℕ, ◌-◌, ◌*◌, ◌/◌, ◌^◌, ◌≤◌}
use native.Mathlib.Omega.{arith}
use lib.ListN.{length, take, replicate, length-replicate}
use Rattle.std.specs.Prelude.{Result, Ok, Err, refl}
use Rattle.std.specs.Result.{result_unwrap_or}
use Rattle.refusals.specs.Numbers.{number_of}
use Rattle.refusals.specs.declared.Refusal.{Refusal}
use Rattle.refusals.specs.declared.Refused.{Refused}
use Rattle.routes.specs.Said.{accepted, refused}
use Rattle.routes.specs.declared.Route.{Route}
use Rattle.sail.specs.Geometry.{bits2, bits3}
use Rattle.sail.specs.Lent.{Lent}
use Rattle.sail.specs.declared.table.Table.{Table}
use Rattle.sail.proofs.Fitting.{none_is}
use Rattle.sail_theory.specs.After.{state_after}
use Rattle.sail_theory.specs.Calls.{owners_after, no_owners, input_routes, Out, out, lent_of, loaded}
use Rattle.sail_theory.specs.Facts.{Loadable}
use Rattle.sail_theory.specs.CallRuns.{Carries}
use Rattle.sail_theory.proofs.calls.Load.{Fronts, settles, fronts-none}
use Rattle.sail_load.specs.Answers.{means_loaded}
use Rattle.repair_theory.specs.Repair.{looked, kept_routes, kept_bytes, reloaded, differ, dropped, changes, repair_said, repaired}
use Rattle.repair_theory.proofs.Looks.{kept-few, looks}
use Rattle.repair_theory.proofs.Judged.{accepted-loadable}
use Rattle.repair_theory.proofs.Repairs.{carried-routes, kept-carried, reload-is, repair-is}
use Rattle.repair.specs.Answers.{means_repaired}
use Rattle.repair_levels.specs.Levels.{Differing, wanted}
use Rattle.repair_differs.specs.Differs.{fresh_owners, DiffReady}
use Rattle.repair_judge.specs.Judge.{KeptIs}
use Rattle.repair_judge.proofs.Judging.{looks-so, keeps-so, input-so}
use Rattle.repair.specs.Told.{Small, numbers}
use Rattle.repair_levels.specs.declared.Differs.{Differs}
use Rattle.repair_judge.specs.declared.Kept.{Kept}
use Rattle.repair.specs.declared.repair.Repaired.{Repaired}
use Rattle.repair.specs.declared.repair.Repaired.TheVariants as answer

-- the state after a load that is refused is the one before
or-before : (t : Table) (b : Result Table Refused) → result_unwrap_or b t ≡ state_after t b
or-before t (Ok u) = refl
or-before t (Err why) = refl

module _ (t : Table) (l : Lent) where
  pub repair-refuses : (why : Refusal) (z : ℕ) → repair_said t l ≡ refused (number_of why) → z ≡ number_of why
      → out (means_repaired (answer.Refused z)) t l ≡ repaired t l
  unfolding means_repaired repaired
  repair-refuses why z e q = rw (q, e)

  module _ (bytes : List ℕ) (j : Kept) (k : KeptIs t l bytes j) where
    abbrev rs : List Route
    rs = kept_routes t l

    abbrev input : List ℕ
    input = take (j.kept * 8) bytes

    abbrev n2 : ℕ
    n2 = length l.own2

    abbrev n3 : ℕ
    n3 = length l.own3

    loadable : Loadable t l rs
    unfolding repair_said
    loadable = accepted-loadable t l (rw (none_is t.geometry l k.sized, k.enough))

    looked-so : j.looked ≡ looked t l
    looked-so = looks-so t l bytes j k.keeping

    kept-input : input ≡ kept_bytes t l
    kept-input = input-so t l bytes j k.keeping

    carries : Carries input rs
    carries = rw kept-input (kept-carried t l (omega (arith, loadable.roomy, loadable.sized.room)))

    routes : input_routes input ≡ rs
    routes = carried-routes input rs carries

    many : j.kept ≡ length rs
    many = keeps-so t l bytes j k.keeping

    pub input-fits : j.kept * 8 ≤ 32768
    input-fits = omega (arith, many, loadable.roomy, loadable.sized.room)

    pub input-inside : length bytes ≡ 32768 → j.kept * 8 ≤ length bytes
    input-inside e = omega (arith, input-fits)

    pub input-room : j.kept * 8 ≡ length input
    input-room = omega (arith, many, carries.whole)

    ends : Fronts t l rs [] (owners_after t.geometry (no_owners l) rs)
    ends = (settles (accepted []) t l rs [] (no_owners l) (fronts-none t l rs loadable)).ends

    pub counts-ask : DiffReady t.geometry input n2 n3 l.first l.second l.third
    counts-ask =
        let s = loadable.sized in
        let e2 = length-replicate {A = ℕ} n2 0 in
        let e3 = length-replicate {A = ℕ} n3 0 in
        let m : length input / 8 ≡ length rs = omega (arith, carries.whole) in
        record {
          whole = rw m carries.whole;
          ownable = record {
            valid = s.valid;
            records = rw m carries.records;
            few2 = omega (arith, s.few2);
            few3 = omega (arith, s.few3);
            enough2 = rw routes (omega (arith, loadable.enough2));
            enough3 = rw routes (omega (arith, loadable.enough3));
            none2 = ap (λ (x : ℕ). replicate {A = ℕ} x 0) (sym e2);
            none3 = ap (λ (x : ℕ). replicate {A = ℕ} x 0) (sym e3);
          };
          celled = record {
            valid = s.valid;
            cells1 = s.cells1;
            few2 = omega (arith, s.few2);
            cells2 = s.cells2 ∙ ap (λ (x : ℕ). x * 2 ^ bits2 t.geometry) (sym e2);
            few3 = omega (arith, s.few3);
            cells3 = s.cells3 ∙ ap (λ (x : ℕ). x * 2 ^ bits3 t.geometry) (sym e3);
          };
          fits2 = rw routes ends.fits2;
          fits3 = rw routes ends.fits3;
        }

    module _ (d : Differs)
        (differs : Differing d l.first l.second l.third (wanted t.geometry (input_routes input) (fresh_owners t.geometry input n2 n3))) where
      pub numbers_fit : Small j d
      numbers_fit = record {
        fewer = omega (arith, looked-so, many, kept-few t l);
        few = omega (arith, looked-so, (looks t l).inside, loadable.sized.room);
        first = differs.few_first;
        second = differs.few_second;
        third = differs.few_third;
      }

      -- what is loaded has the cells that were asked for
      asked-so : wanted t.geometry (input_routes input) (fresh_owners t.geometry input n2 n3)
          ≡ wanted t.geometry rs (owners_after t.geometry (no_owners l) rs)
      asked-so = ap (λ (xs : List Route). wanted t.geometry xs (owners_after t.geometry (no_owners l) xs)) routes

      left_so : (reloaded t l).lent ≡ lent_of t l rs (owners_after t.geometry (no_owners l) rs)
      left_so = ap (λ (o : Out). o.lent) (reload-is t l loadable)

      first_so : d.first ≡ differ l.first (reloaded t l).lent.first
      first_so = differs.is_first ∙ ap (differ l.first) (ap (λ (x : Lent). x.first) asked-so ∙ sym (ap (λ (x : Lent). x.first) left_so))

      second_so : d.second ≡ differ l.second (reloaded t l).lent.second
      second_so = differs.is_second ∙ ap (differ l.second) (ap (λ (x : Lent). x.second) asked-so ∙ sym (ap (λ (x : Lent). x.second) left_so))

      third-so : d.third ≡ differ l.third (reloaded t l).lent.third
      third-so = differs.is_third ∙ ap (differ l.third) (ap (λ (x : Lent). x.third) asked-so ∙ sym (ap (λ (x : Lent). x.third) left_so))

      dropped-so : j.looked - j.kept ≡ dropped t l
      dropped-so = rw (looked-so, many)

      told-so : numbers j d ≡ changes t l
      told-so = λ i. dropped-so i ∷ first_so i ∷ second_so i ∷ third-so i ∷ []

      pub repair-done : (a : Repaired) → means_repaired a ≡ accepted (numbers j d) → (b : Result Table Refused) (u : Table) → u ≡ result_unwrap_or b t
          → (v : Lent) → out (means_loaded b) (state_after t b) v ≡ loaded t l input → out (means_repaired a) u v ≡ repaired t l
      repair-done a says b u put v loads =
          let r = loads ∙ ap (loaded t l) kept-input in
          let w = says ∙ ap accepted told-so in
          (λ i. record { said = w i; table = (put ∙ or-before t b ∙ ap (λ (o : Out). o.table) r) i; lent = (r i).lent }) ∙ sym (repair-is t l loadable)
