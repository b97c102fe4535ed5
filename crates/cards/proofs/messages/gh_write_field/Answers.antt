-- `cards::messages::gh_write_field`: what the call inside says, packed, and the buffer.
use mathlib.Core.Path.{ap, ◌∙◌}
use Rattle.numbered.proofs.Numbers.{said-with_index}
use Rattle.packing_fields.specs.Answers.{pack_written}
use Rattle.cards.proofs.RouteFields.{written-card}
use Rattle.cards.proofs.messages.gh_write_field.Goals as goal

pub returns : goal.returns
returns c = written-card _ _ _ _ c.write_field.ensures (c.written.ensures ∙ ap pack_written (said-with_index _ _))
