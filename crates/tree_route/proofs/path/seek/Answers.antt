-- The bit, the way down and the test at its end are the three parts of the answer; where the prefix stands, its node is the last one met.
use native.Mathlib.Omega.{arith}
use Rattle.tree_theory.proofs.Places.{ends-standing}
use Rattle.tree_route.proofs.path.seek.Goals as goal

pub own_bit-bit-requires : goal.own_bit-bit-requires
own_bit-bit-requires c = c.requires.1

pub descend-last-requires : goal.descend-last-requires
descend-last-requires c = (c.requires.0, omega (arith, c.requires.1))

pub is_there-requires : goal.is_there-requires
is_there-requires c = (omega (arith, c.descend-last.ensures.inside, c.requires.0.lent), c.own_bit-bit.ensures.small)

pub returns-then-is_there : goal.returns-then-is_there
returns-then-is_there c =
    record { stands = ends-standing c.own_bit-bit.ensures c.descend-last.ensures c.if-is_there.ensures; lacks = tt }

pub returns : goal.returns
returns c =
    record { stands = tt; lacks = record { bit = c.own_bit-bit.ensures; way = c.descend-last.ensures; tells = c.if-is_there.ensures } }
