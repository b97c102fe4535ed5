-- `sail_counts_test::idle_count`. The count n of a cell that holds v, where it names no chunk, and else 0.
use Rattle.sail_counts_test.proofs.CountRuns.{count-free, count-leaf, count-node}
use Rattle.sail_counts_test.proofs.idle_count.Goals as goal

pub returns-then-v-eq0 : goal.returns-then-v-eq0
returns-then-v-eq0 c = count-free _ _ c.if-v-eq0.true

pub returns-then-v-ge32768 : goal.returns-then-v-ge32768
returns-then-v-ge32768 c = count-leaf _ _ c.if-v-eq0.false c.if-v-ge32768.true

pub returns : goal.returns
returns c = count-node _ _ c.if-v-eq0.false c.if-v-ge32768.false
