-- The counts of a table after a route was put into its list: one step where it was added, and none where it replaced another.
use Rattle.std.specs.Prelude.{Bool, true, false, List, ◌≡◌, ℕ}
use Rattle.routes.specs.declared.Route.{Route}
use Rattle.sail.specs.declared.geometry.Geometry.{Geometry}
use Rattle.sail_counts.specs.Tick.{Tickable, CountsMoved}
use Rattle.sail_counts.specs.declared.tick.Left.{Left}

pub record Bookable (added : Bool) (g : Geometry) (r : Route) (first long1 long2 : List ℕ) : Type 0 where
  pub ticks : added ≡ true → Tickable g r.addr r.len first long1 long2 true

pub data Booked (added : Bool) (g : Geometry) (r : Route) (first long1 long2 long1' long2' : List ℕ) : Type 0 where
  more : added ≡ true → (left : Left) → CountsMoved g r.addr r.len first long1 long2 true long1' long2' left
      → Booked added g r first long1 long2 long1' long2'
  same : added ≡ false → long1' ≡ long1 → long2' ≡ long2 → Booked added g r first long1 long2 long1' long2'
