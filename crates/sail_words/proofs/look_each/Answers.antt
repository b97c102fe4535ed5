-- `sail_words::look_each`: why it is refused, and else the words of all walks.
use Rattle.std.specs.Prelude.{refl}
use Rattle.std.proofs.Common.{◌∙◌}
use borrow.Author.Rules.{rules}
use Rattle.refusals.proofs.Numbers.{number-above_0}
use Rattle.sail_many.proofs.LookupWords.{ready}
use Rattle.sail_words.proofs.Laws.{many-not, many-uneven, many-answers}
use Rattle.sail_words.proofs.look_each.Goals as goal

pub returns-in-Err : goal.returns-in-Err
returns-in-Err c = rw (c.from.ensures ∙ c.number.ensures) (many-not _ _ _ _ _ c.in-Err.ensures (number-above_0 _))

pub returns-then-out-addrs : goal.returns-then-out-addrs
returns-then-out-addrs c = many-uneven _ _ _ _ _ c.in_default.ensures refl c.if-out-addrs.true

pub many-requires : goal.many-requires
many-requires c = (ready _ _ (c.in_default.ensures.facts refl), search rules)

pub returns : goal.returns
returns c =
    many-answers _ _ _ _ _ c.in_default.ensures refl c.if-out-addrs.false c.many.ensures.cells.0 c.many.ensures.cells.1 c.many.ensures.cells.2 _
    c.many.ensures.answers
