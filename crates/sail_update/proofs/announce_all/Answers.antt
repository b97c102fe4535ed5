use Rattle.std.proofs.Common.{arith}
use Rattle.update_theory.proofs.Loops.{next_past}
use Rattle.sail_update.proofs.Comings.{coming-start, coming-end, coming-entry, coming-proper, coming-stop, coming-more}
use Rattle.sail_update.proofs.announce_all.Goals as goal

pub loop-at-init : goal.loop-at-init
loop-at-init c = coming-start _ _ _ _ _ _ _ c.requires.ready c.requires.field_from.0

pub read_entry-e-requires : goal.read_entry-e-requires
read_entry-e-requires c = coming-entry _ _ _ _ _ c.loop-at.invariant c.loop-at-test.true

pub announce_sound-d-requires : goal.announce_sound-d-requires
announce_sound-d-requires c =
    record { proper = coming-proper _ _ _ _ _ c.loop-at.invariant c.loop-at-test.true _ c.read_entry-e.ensures c.requires.field_from.1; ready = c.loop-at.invariant.ready }

pub returns-then-d-ne0 : goal.returns-then-d-ne0
returns-then-d-ne0 c =
    coming-stop _ _ _ _ _ c.loop-at.invariant c.loop-at-test.true _ c.read_entry-e.ensures c.requires.field_from.1
    c.announce_sound-d.ensures c.if-d-ne0.true

pub loop-at-smaller : goal.loop-at-smaller
loop-at-smaller c =
    let test = c.loop-at-test.true in
    omega (arith, test, next_past _ _ _ c.read_entry-e.ensures)

pub loop-at-preserved : goal.loop-at-preserved
loop-at-preserved c =
    coming-more _ _ _ _ _ c.loop-at.invariant c.loop-at-test.true _ c.read_entry-e.ensures c.requires.field_from.1
    c.announce_sound-d.ensures c.if-d-ne0.false c.wrapping_add_u32-k.ensures.value

pub returns : goal.returns
returns c = coming-end _ _ _ _ _ c.loop-at.invariant c.loop-at-test.false
