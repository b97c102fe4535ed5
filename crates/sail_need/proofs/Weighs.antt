-- Whether records find room: each way through the code says what the definition does.
use mathlib.Core.Path.{◌≡◌}
use mathlib.Core.List.{List}
use Prim.Native.Nat.{ℕ, ◌<◌, ◌≤◌}
use borrow.Author.Tests.{lt-ltb, le-ltb}
use Rattle.standing.specs.Cells.{need}
use Rattle.routes.specs.Record.{routes_of}
use Rattle.routes.specs.declared.Route.{Route}
use Rattle.routes.proofs.Rows.{length-routes}
use Rattle.sail.specs.declared.geometry.Geometry.{Geometry}
use Rattle.sail_theory.specs.Calls.{chunks_fault, load_fault}
use Rattle.sail_need.specs.Weigh.{terms}

-- 6, 7 and 8
module _ (g : Geometry) (s : List ℕ) (n room most2 most3 : ℕ) where
  abbrev rs : List Route
  rs = routes_of s n

  pub weigh-six : room < n → 6 ≡ load_fault (terms g room most2 most3) rs
  unfolding load_fault
  weigh-six h = rw (length-routes s n, lt-ltb room n h)

  module _ (h : n ≤ room) (m : ℕ) (first : m ≡ need rs g.p1) where
    pub weigh-seven : most2 < m → 7 ≡ load_fault (terms g room most2 most3) rs
    unfolding load_fault chunks_fault
    weigh-seven a = rw (length-routes s n, le-ltb room n h, ← first, lt-ltb most2 m a)

    module _ (a : m ≤ most2) (k : ℕ) (second : k ≡ need rs g.p2) where
      pub weigh-eight : most3 < k → 8 ≡ load_fault (terms g room most2 most3) rs
      unfolding load_fault chunks_fault
      weigh-eight b = rw (length-routes s n, le-ltb room n h, ← first, le-ltb most2 m a, ← second, lt-ltb most3 k b)

      pub weigh-none : k ≤ most3 → 0 ≡ load_fault (terms g room most2 most3) rs
      unfolding load_fault chunks_fault
      weigh-none b = rw (length-routes s n, le-ltb room n h, ← first, le-ltb most2 m a, ← second, le-ltb most3 k b)
