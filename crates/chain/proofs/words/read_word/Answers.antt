-- `chain::words::read_word`. Record k as a word.
use Rattle.chain.specs.Words.{word_at}
use borrow.Author.Rules.{rules}
use Rattle.chain.proofs.words.read_word.Goals as goal

pub returns : goal.returns
unfolding word_at
returns c = search rules
