-- `sail_add::put_in`: the list changes from the place on, and so does its chain.
use Rattle.sail_add.proofs.PutChain.{put-below, put-done}
use Rattle.sail_add.proofs.put_in.Goals as goal

pub put_at-requires : goal.put_at-requires
put_at-requires c = c.requires.fits

pub count_with-m-requires : goal.count_with-m-requires
count_with-m-requires c = c.requires.fits.fits.listed.records.few

pub chained_from-requires : goal.chained_from-requires
chained_from-requires c = put-below c.requires c.put_at.ensures c.count_with-m.ensures.0

pub returns : goal.returns
returns c = put-done c.requires c.put_at.ensures c.count_with-m.ensures.0 c.chained_from.ensures
