use Rattle.std.proofs.Common.{arith}
use Rattle.sail_update.proofs.Goings.{going_start, going_end, going-entry, going_more}
use Rattle.update_theory.proofs.Loops.{next_past}
use Rattle.sail_update.proofs.withdraw_all.Goals as goal

pub loop-at-init : goal.loop-at-init
loop-at-init c = going_start _ _ _ _ _ c.requires.ready c.requires.field_from

pub read_entry-e-requires : goal.read_entry-e-requires
read_entry-e-requires c = going-entry _ _ _ c.loop-at.invariant c.loop-at-test.true

pub withdraw_sound-v-requires : goal.withdraw_sound-v-requires
withdraw_sound-v-requires c = record { prefix = c.read_entry-e.ensures.prefix; ready = c.loop-at.invariant.ready }

pub loop-at-smaller : goal.loop-at-smaller
loop-at-smaller c =
    let test = c.loop-at-test.true in
    omega (arith, test, next_past _ _ _ c.read_entry-e.ensures)

pub loop-at-preserved : goal.loop-at-preserved
loop-at-preserved c =
    going_more _ _ _ c.loop-at.invariant c.loop-at-test.true _ c.read_entry-e.ensures c.wrapping_add_u32-k.ensures.value
    c.withdraw_sound-v.ensures

pub returns : goal.returns
returns c = going_end _ _ _ c.loop-at.invariant c.loop-at-test.false
