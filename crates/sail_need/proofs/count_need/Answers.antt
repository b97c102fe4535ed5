use mathlib.Core.Path.{◌≡◌}
use native.Mathlib.Omega.{arith}
use Rattle.sail_need.proofs.Needs.{counted_none, counted-short, counted-had, counted-new, other, same_cell}
use Rattle.sail_need.proofs.count_need.Goals as goal
use Rattle.sail_need.proofs.count_need.Goals.{then-p-from+then-ne, then-p-from+else-ne, else-p-from}

pub loop-k-init : goal.loop-k-init
loop-k-init c = (omega arith, counted_none _ _)

pub loop-k-preserved : goal.loop-k-preserved
loop-k-preserved c =
    let l = c.loop-k in
    let q = c.requires in
    let r = c.read_record-r in
    elim c.if-p-from.branch [
      | then-p-from+then-ne w ↦ rw (w.m-is, w.last-is) (
        omega arith,
        counted-new _ _ _ _ _ _ q.records (omega arith) q.level l.invariant.1 _ r.ensures
            (omega (arith, w.if-p-from, c.from.ensures)) _ w.slot-cell.ensures (other _ _ _ w.ne.ensures w.if-ne.true),
      )
      | then-p-from+else-ne w ↦ rw (w.m-is, w.last-is) (
        omega arith,
        counted-had _ _ _ _ _ _ q.records (omega arith) q.level l.invariant.1 _ r.ensures
            (omega (arith, w.if-p-from, c.from.ensures)) _ w.slot-cell.ensures (same_cell _ _ _ w.ne.ensures w.if-ne.false),
      )
      | else-p-from w ↦ rw (w.m-is, w.last-is) (
        omega arith,
        counted-short _ _ _ _ _ _ q.records (omega arith) q.level l.invariant.1 _ r.ensures
            (omega (arith, w.if-p-from, c.from.ensures)),
      )
    ]

pub returns : goal.returns
returns c =
    let l = c.loop-k in
    let e : l.k ≡ c.args.n = omega arith in
    (rw (← e) l.invariant.1.number, omega arith)
