use native.Mathlib.Omega.{arith}
use Rattle.fields.proofs.Writing.{next-room, put-more, front_long, put-none, put_all}
use Rattle.fields.proofs.write.put_field.Goals as goal

pub loop-k-init : goal.loop-k-init
loop-k-init c = put-none c.args.input.now c.args.out.now

pub read_record-r-requires : goal.read_record-r-requires
read_record-r-requires c = omega (arith, c.requires.records.room)

pub put_entry-at-requires : goal.put_entry-at-requires
put_entry-at-requires c =
    let i = c.loop-k.invariant in
    let same = front_long c.args.input.now c.args.out.now c.loop-k.out c.args.n c.loop-k.k c.loop-k.at
    c.loop-k.auto.k-end c.requires.room i.0 i.1 in
    rw c.read_record-r.ensures (next-room _ _ _ _ c.requires.records c.loop-k-test.true i.0 _ (omega (arith, c.requires.room, same)))

pub loop-k-preserved : goal.loop-k-preserved
loop-k-preserved c =
    let i = c.loop-k.invariant in
    let more = put-more _ _ _ _ c.requires.records c.loop-k-test.true i.0 c.args.out.now _ _ _ c.requires.room i.1
    (rw c.read_record-r.ensures at c.put_entry-at.ensures) in
    (more.1, more.0)

pub returns : goal.returns
returns c = put_all _ _ _ _ _ _ c.loop-k.auto.k-end c.loop-k-test.false c.loop-k.invariant.0 c.loop-k.invariant.1
