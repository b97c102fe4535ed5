use mathlib.Core.Path.{ap, ◌∙◌}
use native.Mathlib.Omega.{arith}
use lib.ListN.{length}
use Rattle.routes.specs.declared.Route.{Route}
use Rattle.fields.specs.Field.{bytes_for}
use Rattle.fields.proofs.Writing.{field-none, size-more, field-all}
use Rattle.fields.proofs.write.field_size.Goals as goal

pub loop-k-init : goal.loop-k-init
loop-k-init c = (omega (arith, ap length (field-none c.args.input.now)), omega arith)

pub bytes_for-requires : goal.bytes_for-requires
bytes_for-requires c =
    let len = ap (λ (r : Route). r.len) c.read_record-r.ensures in
    omega (arith, len, c.from.ensures, (c.requires.each c.loop-k.k c.loop-k-test.true).prefix.len_ok)

pub overflow_add-size-in-loop-k : goal.overflow_add-size-in-loop-k
overflow_add-size-in-loop-k c = omega (arith, c.requires.few, c.bytes_for.ensures.1)

pub loop-k-preserved : goal.loop-k-preserved
loop-k-preserved c =
    let bytes = c.bytes_for.ensures.0 ∙ ap bytes_for (c.from.ensures ∙ ap (λ (r : Route). r.len) c.read_record-r.ensures) in
    let more = size-more _ _ c.loop-k.k _ c.bytes_for.result c.requires c.loop-k-test.true c.loop-k.invariant.0 bytes in
    (more.0, omega (arith, more.1))

pub returns : goal.returns
returns c =
    (c.loop-k.invariant.0 ∙ ap length (field-all _ _ _ c.loop-k.auto.k-end c.loop-k-test.false), omega (arith, c.requires.few))
