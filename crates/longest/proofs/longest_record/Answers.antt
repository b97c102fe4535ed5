use native.Mathlib.Omega.{arith}
use Rattle.longest.proofs.Steps.{none_over, none_left, none-early, found, found-short, step, lower}
use Rattle.longest.proofs.longest_record.Goals as goal

pub loop-m-init : goal.loop-m-init
loop-m-init c = (omega arith, search none_over)

pub records_to-k-requires : goal.records_to-k-requires
records_to-k-requires c = (c.requires, omega arith)

-- no record comes before the address
pub returns-then-k-eq0 : goal.returns-then-k-eq0
returns-then-k-eq0 c = search none-early

pub read_record-r-requires : goal.read_record-r-requires
read_record-r-requires c = omega (arith, c.requires.room)

-- the last record covers the address, and is too short
pub returns-then-len-low : goal.returns-then-len-low
returns-then-len-low c = search found-short

-- it is long enough
pub returns-then-len-same : goal.returns-then-len-same
returns-then-len-same c = search found

pub loop-m-smaller : goal.loop-m-smaller
loop-m-smaller c = search lower

pub loop-m-preserved : goal.loop-m-preserved
loop-m-preserved c = (omega (arith, c.shared-same.ensures.most), search step)

-- what is left is too short
pub returns : goal.returns
returns c = search none_left
