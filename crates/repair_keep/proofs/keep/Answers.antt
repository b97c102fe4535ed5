use mathlib.Core.Path.{refl, ◌∙◌}
use native.Mathlib.Omega.{arith}
use Rattle.refusals.proofs.Numbers.{number-above_0}
use Rattle.repair_keep.proofs.Keeps.{passed_none, passed-wrong, passed-small, passed-more, passed-all}
use Rattle.repair_keep.proofs.keep.Goals as goal
use Rattle.repair_keep.proofs.keep.Goals.{in-Ok+then-least-key, in-Ok+else-least-key, in_default}

pub loop-k-init : goal.loop-k-init
loop-k-init c = (omega arith, omega arith, c.requires.room, passed_none _ _ c.requires.room)

pub loop-k-preserved : goal.loop-k-preserved
loop-k-preserved c =
    elim c.match-check_route.branch [
      | in-Ok+then-least-key w ↦
          let room = w.write_record.auto.list ∙ c.loop-k.invariant.2 in
          rw (w.out-is, w.least-is, w.m-is) (
            omega arith,
            omega (arith, c.key_of-key.ensures.1),
            room,
            passed-more _ _ _ _ _ c.loop-k.invariant.3 _ c.read_record-r.ensures 0 w.in-Ok.ensures refl _
                c.key_of-key.ensures.0 w.if-least-key.true _ w.write_record.ensures (omega (arith, c.requires.few)) room,
          )
      | in-Ok+else-least-key w ↦
          rw (w.out-is, w.least-is, w.m-is) (
            omega arith,
            c.loop-k.invariant.1,
            c.loop-k.invariant.2,
            passed-small _ _ _ _ _ c.loop-k.invariant.3 _ c.read_record-r.ensures 0 w.in-Ok.ensures refl _
                c.key_of-key.ensures.0 w.if-least-key.false,
          )
      | in_default w ↦
          rw (w.out-is, w.least-is, w.m-is) (
            omega arith,
            c.loop-k.invariant.1,
            c.loop-k.invariant.2,
            passed-wrong _ _ _ _ _ c.loop-k.invariant.3 _ c.read_record-r.ensures _ w.in_default.ensures (number-above_0 _),
          )
    ]

pub returns : goal.returns
returns c = passed-all _ _ _ _ _ _ c.loop-k.auto.k-end c.loop-k-test.false c.loop-k.invariant.3
