-- `sail_take::take`. The cells of the address are read before the list changes; they name the chunks, and the counts that are left tell which
-- of these are closed. What is then stale is painted.
use native.Mathlib.Omega.{arith}
use Rattle.chain.proofs.Fronts.{front-in, front-count}
use Rattle.sail_paint.proofs.ByList.{front-stale, from_list}
use Rattle.sail_take.proofs.Takes.{take-serving, take-ready, take-tickable}
use Rattle.sail_take.proofs.Takes.{CountedOff, counted_off, take-one, take_second, take-third, take-pending, take_done}
use Rattle.sail_take.proofs.take.Goals as goal

pub follow-v-requires : goal.follow-v-requires
follow-v-requires c = take-serving c.requires.to_take_in

pub take_out-m-requires : goal.take_out-m-requires
take_out-m-requires c = take-ready c.requires.to_take_in c.requires.chained_front

pub tick-left-requires : goal.tick-left-requires
tick-left-requires c = take-tickable c.requires.to_take_in

pub overflow_sub-v : goal.overflow_sub-v
overflow_sub-v c =
    let off_counted : CountedOff =
    counted_off c.requires.to_take_in c.take_out-m.ensures.list c.take_out-m.ensures.count c.tick-left.ensures c.tick-left.auto.long1
    c.tick-left.auto.long2 c.follow-v.ensures in
    omega (arith, (take-one off_counted).0)

pub overflow_sub-p2 : goal.overflow_sub-p2
overflow_sub-p2 c =
    let off_counted : CountedOff =
    counted_off c.requires.to_take_in c.take_out-m.ensures.list c.take_out-m.ensures.count c.tick-left.ensures c.tick-left.auto.long1
    c.tick-left.auto.long2 c.follow-v.ensures in
    let valid = off_counted.ready.may.sound.sized.valid in
    omega arith

pub close-requires : goal.close-requires
close-requires c =
    let off_counted : CountedOff =
    counted_off c.requires.to_take_in c.take_out-m.ensures.list c.take_out-m.ensures.count c.tick-left.ensures c.tick-left.auto.long1
    c.tick-left.auto.long2 c.follow-v.ensures in
    take_second off_counted

pub overflow_sub-v-2 : goal.overflow_sub-v-2
overflow_sub-v-2 c =
    let off_counted : CountedOff =
    counted_off c.requires.to_take_in c.take_out-m.ensures.list c.take_out-m.ensures.count c.tick-left.ensures c.tick-left.auto.long1
    c.tick-left.auto.long2 c.follow-v.ensures in
    omega (arith, (take-one off_counted).1)

pub overflow_sub-p2-2 : goal.overflow_sub-p2-2
overflow_sub-p2-2 c =
    let off_counted : CountedOff =
    counted_off c.requires.to_take_in c.take_out-m.ensures.list c.take_out-m.ensures.count c.tick-left.ensures c.tick-left.auto.long1
    c.tick-left.auto.long2 c.follow-v.ensures in
    let valid = off_counted.ready.may.sound.sized.valid in
    omega arith

pub close-requires-2 : goal.close-requires-2
close-requires-2 c =
    let off_counted : CountedOff =
    counted_off c.requires.to_take_in c.take_out-m.ensures.list c.take_out-m.ensures.count c.tick-left.ensures c.tick-left.auto.long1
    c.tick-left.auto.long2 c.follow-v.ensures in
    take-third off_counted

pub slice_bounds-repaint-end : goal.slice_bounds-repaint-end
slice_bounds-repaint-end c = front-in c.take_out-m.ensures.chain

pub slice_bounds-repaint-end-2 : goal.slice_bounds-repaint-end-2
slice_bounds-repaint-end-2 c = front-count c.take_out-m.ensures.chain

pub repaint-requires : goal.repaint-requires
repaint-requires c =
    let off_counted : CountedOff =
    counted_off c.requires.to_take_in c.take_out-m.ensures.list c.take_out-m.ensures.count c.tick-left.ensures c.tick-left.auto.long1
    c.tick-left.auto.long2 c.follow-v.ensures in
    front-stale (take-pending off_counted (c.close.ensures.owner, c.close.ensures.blank)
    (c.close-2.ensures.owner, c.close-2.ensures.blank) c.byte_to_word.ensures.0)
    c.take_out-m.ensures.chain

pub overflow_cast-result : goal.overflow_cast-result
overflow_cast-result c = omega (arith, c.take_out-m.ensures.few)

pub returns : goal.returns
returns c =
    let off_counted : CountedOff =
    counted_off c.requires.to_take_in c.take_out-m.ensures.list c.take_out-m.ensures.count c.tick-left.ensures c.tick-left.auto.long1
    c.tick-left.auto.long2 c.follow-v.ensures in
    let pending =
    take-pending off_counted (c.close.ensures.owner, c.close.ensures.blank)
    (c.close-2.ensures.owner, c.close-2.ensures.blank) c.byte_to_word.ensures.0 in
    let chain = c.take_out-m.ensures.chain in (
      take_done off_counted (c.close.ensures.owner, c.close.ensures.blank) (c.close-2.ensures.owner, c.close-2.ensures.blank)
          (from_list pending chain c.repaint.ensures),
      chain,
    )
