-- `sail_need::count_need`: the chunks that records need, in one pass. The invariant: the need of the records passed, and the last of their
-- long cells.
use Prim.Native.Nat.{◌≤◌}
use Rattle.routes.specs.Record.{routes_of}
use Rattle.sail_need.proofs.Needs.{NeedCounted}
use Rattle.sail_need.proofs.count_need.Given as goal

abbrev pub invariant-loop-k : goal.invariant-loop-k
invariant-loop-k l = (l.m ≤ l.k) × NeedCounted (routes_of l.list l.k) l.p l.m l.last
