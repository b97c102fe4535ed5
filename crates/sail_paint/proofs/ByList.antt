-- The cells of a table are painted again from the words of its list, which stand with their chain at the front of the room for them.
use mathlib.Core.List.{List}
use Prim.Native.Nat.{ℕ}
use lib.ListN.{take}
use Rattle.routes.specs.Record.{routes_of}
use Rattle.chain.specs.Words.{routes_of_words}
use Rattle.chain.specs.List.{ChainedFront}
use Rattle.sail.specs.Lent.{Cells}
use Rattle.sail.specs.declared.geometry.Geometry.{Geometry}
use Rattle.sail_paint.specs.Stale.{Stale, Repainted}
use Rattle.sail_paint.specs.Pending.{Pending}

module _ {g : Geometry} {n a len : ℕ} {s : List ℕ} {l : Cells} (w : Pending g n a len s l) {ws par : List ℕ} (f : ChainedFront s n ws par) where
  pub front-stale : Stale g (take n ws) par a len l
  front-stale = w.stale _ _ f.chained.ready f.chained.routes

  -- what is painted from the words is painted from the routes of the list
  pub from_list : {first second third : List ℕ} → Repainted g (routes_of_words (take n ws)) l first second third
      → Repainted g (routes_of s n) l first second third
  from_list r = rw f.chained.routes at r
