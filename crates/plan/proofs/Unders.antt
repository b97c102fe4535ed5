-- A block of cells that lie in a cell, from the run of words under it and the hop that it inherits.
use mathlib.Core.Path.{◌≡◌, ◌∙◌}
use mathlib.Core.List.{List}
use Prim.Native.Nat.{ℕ, ◌-◌, ◌<◌}
use native.Mathlib.Omega.{arith}
use lib.ListN.{take, drop}
use Rattle.standing.specs.Cells.{best}
use Rattle.chain.specs.Words.{routes_of_words}
use Rattle.chain.specs.Place.{Run}
use Rattle.chain.proofs.Decodes.{words-part}
use Rattle.plan.specs.Plan.{planned, planned_from}
use Rattle.plan.specs.Paint.{Plans}
use Rattle.plan.specs.Under.{Block}
use Rattle.plan.proofs.PlanUnder.{planned-run}

module _ (ws par : List ℕ) (l i p base n lo hi h : ℕ) (b : Block ws par l i p base n) (run : Run ws l i lo hi)
    (is : (h ≡ best (routes_of_words ws) l i) × (h < 32768)) where
  abbrev part_run : List ℕ
  part_run = take (hi - lo) (drop lo ws)

  pub run-plans : Plans part_run h p
  run-plans = record { words = words-part ws lo hi run.to b.ready.words; deep = b.deep; hop_ok = let u = is.1 in omega arith }

  all-planned : planned_from h (routes_of_words part_run) p base n ≡ planned (routes_of_words ws) p base n
  all-planned = planned-run ws b.ready.words l i lo hi run h p b.deeper b.deep is.0 base n b.from b.to

  pub run-planned : (after : List ℕ) → after ≡ planned_from h (routes_of_words part_run) p base n → after ≡ planned (routes_of_words ws) p base n
  run-planned after e = e ∙ all-planned
