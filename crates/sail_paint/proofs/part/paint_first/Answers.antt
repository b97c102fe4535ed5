use Prim.Native.Nat.{◌-◌}
use native.Mathlib.Omega.{arith}
use lib.Pow.{shr_le}
use Rattle.sail_paint.proofs.Firsts.{first-none, first_more, first_part, first-all}
use borrow.Author.Rules.{rules}
use Rattle.sail_paint.proofs.part.paint_first.Goals as goal

pub range_end-end-requires : goal.range_end-end-requires
range_end-end-requires c =
    (c.requires.deep, omega (arith, c.slot-from.ensures, c.requires.prefix.addr_ok, shr_le c.args.addr (32 - c.args.p)))

pub loop-lo-init : goal.loop-lo-init
loop-lo-init c = (search rules, search rules, search first-none)

pub paint_part-requires : goal.paint_part-requires
paint_part-requires c =
    first_part _ _ _ _ _ _ c.requires _ _ _ _ _ _ _ c.slot-from.ensures c.range_end-end.ensures c.loop-lo.invariant.2
    c.block_end-lo.ensures

pub loop-lo-preserved : goal.loop-lo-preserved
loop-lo-preserved c =
    (search rules, search rules, first_more _ _ _ _ _ _ _ _ c.loop-lo.invariant.0 (omega arith) c.loop-lo.invariant.2 c.paint_part.ensures)

pub returns : goal.returns
returns c =
    first-all _ _ _ _ _ _ c.requires _ _ _ _ _ c.slot-from.ensures c.range_end-end.ensures c.loop-lo.invariant.1 c.loop-lo-test.false
    c.loop-lo.invariant.2
