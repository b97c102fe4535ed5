-- Refusals for want of chunks, 7 and 8, of a change after which the routes rs would stand, on the terms m.
use Rattle.std.specs.Prelude.{true, List, ◌↔◌, ◌≡◌, ℕ, ◌≤◌, ◌<◌}
use Rattle.routes.specs.Said.{Said, accepted, refused, refused_at, accepts}
use Rattle.routes.specs.declared.Route.{Route}
use Rattle.standing.specs.Cells.{need}
use Rattle.sail_theory.specs.Calls.{Terms}

-- what the change says, by what is wanting: second chunks; third chunks alone; neither
pub data Wanting (m : Terms) (rs : List Route) : Said → Type 0 where
  second : m.most2 < need rs m.geometry.p1 → Wanting m rs (refused 7)
  third : need rs m.geometry.p1 ≤ m.most2 → m.most3 < need rs m.geometry.p2 → Wanting m rs (refused 8)
  neither : need rs m.geometry.p1 ≤ m.most2 → need rs m.geometry.p2 ≤ m.most3 → (vs : List ℕ) → Wanting m rs (accepted vs)

-- The same both ways: 7 exactly when they need more second chunks than there are, 8 exactly when they need more third chunks alone, and accepted
-- exactly when they need no more of either.
pub record ByNeed (m : Terms) (rs : List Route) (s : Said) : Type 0 where
  pub seven : (s ≡ refused 7) ↔ (m.most2 < need rs m.geometry.p1)
  pub eight : (s ≡ refused 8) ↔ ((need rs m.geometry.p1 ≤ m.most2) × (m.most3 < need rs m.geometry.p2))
  pub taken : (accepts s ≡ true) ↔ ((need rs m.geometry.p1 ≤ m.most2) × (need rs m.geometry.p2 ≤ m.most3))

-- 7 or 8
abbrev pub ForChunks : Said → Type 0
ForChunks (accepted vs) = ⊥
ForChunks (refused n) = (7 ≤ n) × (n ≤ 8)
ForChunks (refused_at n k) = ⊥
