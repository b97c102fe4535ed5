-- `sail_many::flow::stream`: after i rounds, 2 i turns are done.
use Prim.Native.Nat.{◌*◌, ◌≤◌}
use Rattle.sail_many.specs.Flows.{Flows}
use Rattle.sail_many.proofs.flow.stream.Given as goal

abbrev pub invariant-loop-i : goal.invariant-loop-i
invariant-loop-i l = (l.i ≤ l.half) × Flows l.p1 l.p2 l.first l.second l.chunks2 l.third l.chunks3 l.addrs (2 * l.i) l.out
