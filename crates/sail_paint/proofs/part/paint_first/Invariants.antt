-- `sail_paint::part::paint_first`. The invariant: the cells from the first that meets the prefix up to `lo` are painted.
use mathlib.Core.Path.{◌≡◌}
use Prim.Native.Nat.{◌-◌, ◌≤◌}
use Rattle.chain.specs.Words.{routes_of_words}
use Rattle.buffers.specs.Fill.{between}
use Rattle.sail.specs.Level.{itself}
use Rattle.sail_paint.specs.Paint.{overpainted}
use Rattle.sail_paint.proofs.part.paint_first.Given as goal

abbrev pub invariant-loop-lo : goal.invariant-loop-lo
invariant-loop-lo l =
    (l.from ≤ l.lo) × (l.lo ≤ l.end) × (l.first ≡ overpainted (routes_of_words l.ws) l.p (between l.from l.lo) itself l.initial.first)

abbrev pub decreases-loop-lo : goal.decreases-loop-lo
decreases-loop-lo l = l.end - l.lo
