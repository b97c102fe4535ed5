use mathlib.Core.Path.{refl}
use lib.ListN.{length-set}
use native.Mathlib.Omega.{arith}
use Rattle.chain.specs.Words.{word_at}
use Rattle.chain.proofs.Decodes.{filled-to-more, filled-all}
use Rattle.chain.proofs.words.decode.Goals as goal

pub loop-k-init : goal.loop-k-init
loop-k-init c = (refl, c.requires.each)

pub read_word-requires : goal.read_word-requires
read_word-requires c = omega (arith, c.requires.fits)

pub loop-k-preserved : goal.loop-k-preserved
loop-k-preserved c =
    let l = c.loop-k in (
      simp length-set l.invariant.0,
      filled-to-more
          (word_at c.args.list.now) l.out l.k _ (omega arith) c.read_word.ensures l.invariant.1,
    )

pub returns : goal.returns
returns c = filled-all _ _ _ _ c.loop-k.invariant.0 (omega arith) c.loop-k.invariant.1
