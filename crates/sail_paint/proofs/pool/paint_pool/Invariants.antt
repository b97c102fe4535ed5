-- `sail_paint::pool::paint_pool`. The invariant: the chunks before `c` are painted.
use Prim.Native.Nat.{◌-◌}
use Rattle.chain.specs.Words.{routes_of_words}
use Rattle.sail_paint.proofs.Chunks.{PaintedTo}
use Rattle.sail_paint.proofs.pool.paint_pool.Given as goal

abbrev pub invariant-loop-c : goal.invariant-loop-c
invariant-loop-c l =
    PaintedTo (routes_of_words l.ws) l.addr l.len l.l l.p (l.p - l.l) l.e l.up l.own l.initial.cells l.c l.cells
