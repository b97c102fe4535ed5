-- `sail_step::word::read_first`. The first cell is read.
use Rattle.std.proofs.Common.{ap, ◌∙◌}
use Rattle.sail_step.specs.Words.{cell_word}
use Rattle.sail_step.proofs.Words.{put_is}
use Rattle.sail_step.proofs.word.read_first.Goals as goal

pub returns : goal.returns
returns c = put_is _ _ _ _ (c.word.ensures ∙ ap (cell_word 1) c.head.ensures)
