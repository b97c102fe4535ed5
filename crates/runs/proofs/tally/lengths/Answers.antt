use Prim.Native.Nat.{◌≤◌, ◌<◌}
use native.Mathlib.Omega.{arith}
use lib.ListN.{get_or}
use Rattle.runs.proofs.Tallies.{lengths_none, length-few, one_more}
use Rattle.runs.proofs.tally.lengths.Goals as goal

pub loop-k-init : goal.loop-k-init
loop-k-init c = lengths_none _

pub overflow_add-counts : goal.overflow_add-counts
overflow_add-counts c =
    let short : c.length_at-l.result < 33 = omega (arith, c.length_at-l.ensures, (c.requires.each c.loop-k.k c.loop-k-test.true).prefix.len_ok) in
    let few : get_or c.loop-k.counts c.length_at-l.result 0 ≤ c.loop-k.k = rw c.loop-k.invariant (length-few _ _ _ short) in
    omega (arith, few)

pub loop-k-preserved : goal.loop-k-preserved
loop-k-preserved c =
    let short : c.length_at-l.result < 33 = omega (arith, c.length_at-l.ensures, (c.requires.each c.loop-k.k c.loop-k-test.true).prefix.len_ok) in
    rw c.loop-k.invariant (one_more _ _ _ c.length_at-l.ensures short)
