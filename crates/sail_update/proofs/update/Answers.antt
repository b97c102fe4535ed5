-- `sail_update::update`: judged; then withdrawn, then announced.
use Rattle.std.specs.Prelude.{refl}
use Rattle.std.proofs.Common.{rules}
use Rattle.refusals.proofs.Numbers.{number-above_0}
use Rattle.sail_update.proofs.Ends.{end_refused, end-stopped, end-done}
use Rattle.sail_update.proofs.update.Goals as goal

pub judge_update-requires : goal.judge_update-requires
judge_update-requires c = record { words = search rules; chain = search rules }

pub returns-in-Err : goal.returns-in-Err
returns-in-Err c = rw c.number.ensures (end_refused _ _ _ _ _ c.in-Err.ensures (number-above_0 _))

pub withdraw_all-g-requires : goal.withdraw_all-g-requires
withdraw_all-g-requires c =
    let told = c.in_default.ensures in
    record { ready = told.ready refl; field_from = (told.readable refl).gone }

pub announce_all-d-requires : goal.announce_all-d-requires
announce_all-d-requires c =
    let told = c.in_default.ensures in
    record { ready = c.withdraw_all-g.ensures.ready; field_from = ((told.readable refl).come, (told.readable refl).hop_ok) }

pub returns-then-d-ne0 : goal.returns-then-d-ne0
returns-then-d-ne0 c =
    end-stopped _ _ _ _ _ c.in_default.ensures refl c.withdraw_all-g.ensures c.announce_all-d.ensures c.if-d-ne0.true

pub returns : goal.returns
returns c =
    end-done _ _ _ _ _ c.in_default.ensures refl c.withdraw_all-g.ensures c.announce_all-d.ensures c.if-d-ne0.false
