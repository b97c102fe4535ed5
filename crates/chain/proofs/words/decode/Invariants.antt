-- `chain::words::decode`. The invariant: the first k words stand; at first they are those that stood.
use mathlib.Core.Path.{◌≡◌}
use lib.ListN.{length}
use Rattle.chain.specs.Words.{word_at}
use Rattle.chain.proofs.Decodes.{FilledTo}
use Rattle.chain.proofs.words.decode.Given as goal

abbrev pub invariant-loop-k : goal.invariant-loop-k
invariant-loop-k l = (length l.out ≡ length l.initial.out) × FilledTo (word_at l.list) l.out l.k
