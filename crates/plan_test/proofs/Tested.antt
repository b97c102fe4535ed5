-- A part that stands for a block of cells which lie in a cell, from the run of words under it and the hop that it inherits.
use mathlib.Core.Path.{◌≡◌, refl}
use mathlib.Core.Bool.{Bool}
use mathlib.Core.List.{List}
use Prim.Native.Nat.{ℕ, ◌-◌, ◌<◌}
use lib.ListN.{take, drop}
use Rattle.bits.specs.Tab.{Tells}
use Rattle.standing.specs.Cells.{best}
use Rattle.chain.specs.Words.{routes_of_words}
use Rattle.chain.specs.Place.{Run}
use Rattle.plan.specs.Plan.{planned_from}
use Rattle.plan.specs.Under.{Block}
use Rattle.plan.proofs.Unders.{run-plans, run-planned}
use Rattle.plan_test.specs.Part.{Matches, Right, Beside, Judges}
use Rattle.plan_test.proofs.Rights.{tells-right}

module _ (ws par : List ℕ) (l i p base n lo hi h : ℕ) (b : Block ws par l i p base n) (run : Run ws l i lo hi)
    (is : (h ≡ best (routes_of_words ws) l i) × (h < 32768)) where
  abbrev part_run : List ℕ
  part_run = take (hi - lo) (drop lo ws)

  pub run-judges : (o : ℕ) (part want : List ℕ) → Beside p o part want → Judges part_run h p o part want
  run-judges o part want q = record { plans = run-plans ws par l i p base n lo hi h b run is; beside = q }

  pub run-right : (part own : List ℕ) (o : ℕ) (r : Bool) → Tells r (Matches part o (planned_from h (routes_of_words part_run) p base n) own)
      → Tells r (Right (routes_of_words ws) p base part own o n)
  run-right part own o r =
      tells-right (routes_of_words ws) p base part own o n r _ (run-planned ws par l i p base n lo hi h b run is _ refl)
