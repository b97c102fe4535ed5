-- What a build is worth: the arrays that it leaves are the maps of the input's routes, and a lookup in them serves every address. Whatever the
-- arrays held before.
use mathlib.Core.Path.{◌≡◌}
use mathlib.Core.Bool.{true}
use mathlib.Core.List.{List}
use Prim.Native.Nat.{ℕ, ◌/◌, ◌^◌, ◌<◌}
use lib.ListN.{length}
use Rattle.routes.specs.Route.{Good}
use Rattle.routes.specs.Record.{routes_in}
use Rattle.routes.specs.Said.{accepts}
use Rattle.routes.proofs.Rows.{records-good}
use Rattle.basic.specs.Calls.{basic_said}
use Rattle.basic.specs.Meaning.{MapsOf, MapsServe}
use Rattle.basic.proofs.Checks.{ready-is}
use Rattle.basic.proofs.Serves.{map-sizes, maps-of, maps-serve}
use Rattle.basic_build.specs.Built.{basic_built}
use Rattle.basic_build.proofs.BuildReturns.{built-accepts}

module _ (s bs cs : List ℕ) (e : accepts (basic_built s bs cs).said ≡ true) where
  pub built-good-routes : Good (routes_in s)
  built-good-routes = records-good s (length s / 8) (built-accepts s bs cs e).ready.input.records

  pub basic-built : MapsOf (routes_in s) (basic_built s bs cs).bits (basic_built s bs cs).cells
  basic-built = rw (built-accepts s bs cs e).arrays (maps-of (routes_in s) built-good-routes)

  -- "For every good record input, the arrays built from it and every address, its hop equals that of the covering rule"
  pub basic-serves : (a : ℕ) → a < 2 ^ 32 → MapsServe (routes_in s) a (basic_said s (basic_built s bs cs).bits (basic_built s bs cs).cells a)
  unfolding basic_said
  basic-serves a b =
      let m = built-accepts s bs cs e in
      let ok = ready-is s _ _ (length s / 8) m.ready.input (map-sizes (routes_in s)) in
      rw (m.arrays, ok) (maps-serve (routes_in s) built-good-routes a b)
