-- `pair_report::count`. The party's own.
use Rattle.pair_report.proofs.Reports.{second-count, first_count}
use Rattle.pair_report.proofs.count.Goals as goal

pub returns-then-guest : goal.returns-then-guest
returns-then-guest c = search second-count

pub returns : goal.returns
returns c = search first_count
