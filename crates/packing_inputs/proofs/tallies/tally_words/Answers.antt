-- Refused where there are not 33 words; else they are the counts.
use mathlib.Core.Path.{ap, ◌∙◌}
use Rattle.numbered.proofs.Numbers.{said-with_index}
use Rattle.packing.specs.Pack.{pack_none}
use Rattle.packing_inputs.proofs.TallyWords.{tally-short, tally-all}
use Rattle.packing_inputs.proofs.tallies.tally_words.Goals as goal

pub returns-then-out-ne33 : goal.returns-then-out-ne33
returns-then-out-ne33 c = search tally-short

pub returns : goal.returns
returns c = tally-all _ _ c.if-out-ne33.false _ c.tally-t.ensures _ c.copy_from_slice.ensures.after _ (c.input.ensures ∙ ap pack_none (said-with_index _ _))
