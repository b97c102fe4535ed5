-- `records::record::write_record`. Record k of the list is made `r`, and nothing else changes.
use lib.ListN.{length-set}
use native.Mathlib.Omega.{arith}
use Rattle.routes.proofs.Puts.{put-halves}
use Rattle.records.proofs.record.write_record.Goals as goal

pub bounds-list-at-2 : goal.bounds-list-at-2
bounds-list-at-2 c = simp length-set (omega arith)

pub put_half-requires-3 : goal.put_half-requires-3
put_half-requires-3 c = simp length-set (omega arith)

pub returns : goal.returns
returns c =
    put-halves _ _ _ _ _ _ c.requires c.put_half.ensures c.put_half-2.ensures
    c.put_half-3.ensures
