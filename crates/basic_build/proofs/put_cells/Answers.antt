use Rattle.basic_build.proofs.Fills.{put-more, put_all}
use Rattle.basic_build.proofs.put_cells.Goals as goal

pub loop-k-preserved : goal.loop-k-preserved
loop-k-preserved c =
    put-more _ _ c.requires.0 _ _ _ _ c.loop-k-test.true c.read_record.ensures c.put.ensures c.loop-k.invariant

pub returns : goal.returns
returns c = put_all _ _ c.requires.0 _ _ c.loop-k.auto.k-end c.loop-k-test.false c.loop-k.invariant
