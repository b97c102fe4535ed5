-- The numbers that a repair tells, from what was judged and what was counted.
use Rattle.std.specs.Prelude.{List, [], ◌∷◌, ℕ, ◌-◌, ◌^◌, ◌≤◌, ◌<◌}
use Rattle.repair_judge.specs.declared.Kept.{Kept}
use Rattle.repair_levels.specs.declared.Differs.{Differs}

-- numbers that an answer has room for
pub record Small (j : Kept) (d : Differs) : Type 0 where
  pub fewer : j.kept ≤ j.looked
  pub few : j.looked ≤ 4096
  pub first : d.first < 2 ^ 32
  pub second : d.second < 2 ^ 32
  pub third : d.third < 2 ^ 32

-- what is told: the records dropped, and the cells that differ
abbrev pub numbers : Kept → Differs → List ℕ
numbers j d = (j.looked - j.kept) ∷ d.first ∷ d.second ∷ d.third ∷ []
