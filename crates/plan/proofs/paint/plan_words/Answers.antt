use mathlib.Core.Path.{◌≡◌, ◌∙◌}
use Prim.Native.Nat.{◌+◌, ◌≤◌}
use lib.ListN.{length, replicate}
use lib.Seq.{take_all}
use borrow.Author.Rules.{rules}
use Rattle.plan.proofs.Ranges.{words-none, words_more}
use Rattle.plan.proofs.paint.plan_words.Goals as goal

pub loop-k-init : goal.loop-k-init
loop-k-init c =
    let a = c.args in
    let e : c.fill.new.self ≡ replicate (length a.out.now) (32768 + a.h) = search rules in
    e ∙ words-none a.h a.out.now a.ws.now a.p a.base

pub paint_one-requires : goal.paint_one-requires
paint_one-requires c =
    let s = c.requires in
    record { fine = s.words.fine _ (search rules); deep = s.deep }

pub loop-k-preserved : goal.loop-k-preserved
loop-k-preserved c = words_more _ c.requires.words _ _ _ _ _ _ _ c.loop-k-test.true c.loop-k.invariant c.paint_one.ensures

pub returns : goal.returns
returns c =
    let l = c.loop-k in
    let a = c.args in
    let e : length a.ws.now ≤ l.k = search rules in
    l.invariant ∙ rw (take_all l.k a.ws.now e)
