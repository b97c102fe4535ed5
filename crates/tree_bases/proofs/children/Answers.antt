-- A half word has at most 16 ones.
use Rattle.std.proofs.Common.{arith, rules}
use lib.Count.{ones-le}
use Rattle.tree_bases.proofs.children.Goals as goal

pub returns : goal.returns
returns c = (search rules, ones-le 16 _ (omega arith))
