-- `packing_repairs::check_words`: the sizes come first, then the number of words.
use Rattle.std.proofs.lemmas.Result.{err_from_is_err_and}
use Rattle.numbered.specs.Numbers.{said_numbered}
use Rattle.packing_repairs.proofs.Putting.{refusal-stays, words_wrong-told, words_right-told}
use Rattle.packing_repairs.proofs.check_words.Goals as goal

pub returns-in_err-sizes : goal.returns-in_err-sizes
unfolding said_numbered
returns-in_err-sizes g c =
    let p = err_from_is_err_and c.from_residual.result c.from_residual.ensures.1 in
    rw (p.1, p.2, c.in_err-sizes.was) (refusal-stays _ _)

pub returns-then-n-ne4 : goal.returns-then-n-ne4
unfolding said_numbered
returns-then-n-ne4 g c = rw c.in_ok-sizes.was (words_wrong-told _ _ c.if-n-ne4.true (g.met.E.Numbered.made_alone _ _ c.from.ensures))

pub returns : goal.returns
unfolding said_numbered
returns g c = rw c.in_ok-sizes.was (words_right-told _ c.if-n-ne4.false)
