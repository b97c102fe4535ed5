-- The longest record of 17 bits or more decides; where there is none, the maps do.
use Rattle.longest.proofs.Returns.{its-bytes}
use Rattle.basic_lookup.proofs.WalkReturns.{walk-long, walk-short}
use Rattle.basic_lookup.proofs.walk.Goals as goal

pub read_record-requires : goal.read_record-requires
read_record-requires c = its-bytes c.requires.0 c.in-Some.ensures

pub returns-in-Some : goal.returns-in-Some
returns-in-Some c = walk-long _ _ _ c.requires.0 _ _ _ c.in-Some.ensures _ c.read_record.ensures

pub returns-in-None : goal.returns-in-None
returns-in-None c = walk-short _ _ _ c.requires.0 _ _ c.in-None.ensures _ c.down.ensures
