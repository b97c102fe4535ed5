-- A short route has a place, and a long one none.
use Rattle.basic_build.proofs.Fills.{put-short, put-long}
use Rattle.basic_build.proofs.put.Goals as goal

pub returns-then-len-le16 : goal.returns-then-len-le16
returns-then-len-le16 c = put-short _ _ _ c.from-len.ensures _ c.if-len-le16.true c.map_place-i.ensures.0

pub returns-else-len-le16 : goal.returns-else-len-le16
returns-else-len-le16 c = put-long _ _ _ c.from-len.ensures c.if-len-le16.false
