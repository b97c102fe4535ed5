-- What a cell of a level is planned to hold.
use Rattle.std.specs.Prelude.{cond, List, ℕ, ◌+◌}
use Rattle.bits.specs.Tab.{tabulate}
use Rattle.standing.specs.Cells.{covers, long, best, last_hop}
use Rattle.routes.specs.declared.Route.{Route}

-- cell i of level p: 0 where it is long, for then it names a chunk; else a leaf with the hop of the longest route that covers it
unfoldable pub plan : List Route → ℕ → ℕ → ℕ
plan rs p i = cond (long rs p i) 0 (32768 + best rs p i)

-- n cells of level p, from base on
unfoldable pub planned : List Route → ℕ → ℕ → ℕ → List ℕ
planned rs p base n = tabulate n (λ j. plan rs p (base + j))

-- cell i of level p where the hop h is inherited and the routes are painted over it in list order: the last that covers it stays
unfoldable pub plan_from : ℕ → List Route → ℕ → ℕ → ℕ
plan_from h rs p i = cond (long rs p i) 0 (32768 + last_hop (covers p i) rs h)

unfoldable pub planned_from : ℕ → List Route → ℕ → ℕ → ℕ → List ℕ
planned_from h rs p base n = tabulate n (λ j. plan_from h rs p (base + j))
