-- `sail_lookup::leaf`. What a leaf says that is read as the n-th cell, as a word.
use Rattle.std.proofs.Common.{rules}
use Rattle.sail.proofs.Words.{word-leaf}
use Rattle.sail_lookup.proofs.leaf.Goals as goal

pub returns : goal.returns
returns c = search (word-leaf, rules)
