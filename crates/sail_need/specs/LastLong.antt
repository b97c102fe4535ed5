-- What a program keeps that passes over an ascending list of routes once.
use Rattle.std.specs.Prelude.{cond, List, [], ◌∷◌, ℕ, suc, ltb}
use Rattle.bits.specs.Slot.{slot}
use Rattle.routes.specs.declared.Route.{Route}

-- 1 + the cell of level p of the last route that is longer than p; d where there is none
unfoldable pub last_long : ℕ → ℕ → List Route → ℕ
last_long p d [] = d
last_long p d (r ∷ rs) = last_long p (cond (ltb p r.len) (suc (slot p r.addr)) d) rs
