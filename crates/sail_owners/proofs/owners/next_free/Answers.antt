use borrow.Author.Count.{below_more}
use borrow.Author.Rules.{rules}
use Rattle.sail_owners.proofs.Packs.{free-here, free-nowhere}
use Rattle.sail_owners.proofs.owners.next_free.Goals as goal

pub loop-c-init : goal.loop-c-init
loop-c-init c = (c.requires.few, c.requires.used)

pub returns-then-own-c-eq0 : goal.returns-then-own-c-eq0
returns-then-own-c-eq0 c = free-here c.args.own.now _ c.requires c.loop-c.c (search rules) c.loop-c.invariant.1 c.if-own-c-eq0.true

pub loop-c-preserved : goal.loop-c-preserved
loop-c-preserved c = (search rules, below_more _ _ c.loop-c.invariant.1 c.if-own-c-eq0.false)

pub returns : goal.returns
returns c = free-nowhere c.args.own.now _ c.requires (λ j l. c.loop-c.invariant.1 j (search rules))
