-- `sail_step::word::last`. The answer for a word that is none yet.
use Rattle.sail_step.proofs.Words.{off-first, off-second, off-third, third-leaf}
use Rattle.sail_step.proofs.word.last.Goals as goal

pub returns-then-w-ne2 : goal.returns-then-w-ne2
returns-then-w-ne2 c = search off-first

pub returns-then-v-ge32768 : goal.returns-then-v-ge32768
returns-then-v-ge32768 c = search third-leaf

pub returns-else-v-ge32768 : goal.returns-else-v-ge32768
returns-else-v-ge32768 c = search off-third

pub returns-else-c-chunks : goal.returns-else-c-chunks
returns-else-c-chunks c = search off-second
