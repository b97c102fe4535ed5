-- `sail_sizes::fits`: each length that does not fit has its law.
use Rattle.sail.proofs.Fitting.{off-whole, off-room, off-first, off-few2, off-second, off-few3, off-third, off-long1, on-long1}
use Rattle.sail_sizes.proofs.fits.Goals as goal

pub returns-then-a-ne0 : goal.returns-then-a-ne0
returns-then-a-ne0 c = search off-whole

pub returns-then-a-gt32768 : goal.returns-then-a-gt32768
returns-then-a-gt32768 c = search off-room

pub returns-then-a-first_cells : goal.returns-then-a-first_cells
returns-then-a-first_cells c = search off-first

pub returns-then-a-gt4096 : goal.returns-then-a-gt4096
returns-then-a-gt4096 c = search off-few2

pub returns-then-a-second_chunk : goal.returns-then-a-second_chunk
returns-then-a-second_chunk c = search off-second

pub returns-then-a-gt4096-2 : goal.returns-then-a-gt4096-2
returns-then-a-gt4096-2 c = search off-few3

pub returns-then-a-third_chunk : goal.returns-then-a-third_chunk
returns-then-a-third_chunk c = search off-third

pub returns-then-a : goal.returns-then-a
returns-then-a c = search off-long1

pub returns : goal.returns
returns c = search on-long1
