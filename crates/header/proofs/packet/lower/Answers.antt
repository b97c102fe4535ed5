-- `header::packet::lower`: the mended checksum is of the packet as it was, and two stores leave its length.
use lib.ListN.{length-set}
use Rattle.header.proofs.Faults.{new_told, lowered-told}
use native.Mathlib.Omega.{arith}
use Rattle.header.proofs.packet.lower.Goals as goal

pub put_half-requires : goal.put_half-requires
put_half-requires c = simp length-set (omega (arith, c.requires.room))

pub returns : goal.returns
returns c =
    let p = c.args.packet.now in
    lowered-told p _ _ (new_told p _ _ _ c.half.ensures.0 c.half-2.ensures.0 c.mended-sum.ensures.0)
    c.put_half.ensures
