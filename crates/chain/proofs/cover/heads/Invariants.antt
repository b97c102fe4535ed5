-- `chain::cover::heads`: The invariant: the heads below b stand, and every word before m has a smaller first byte.
use mathlib.Core.Path.{◌≡◌}
use Prim.Native.Nat.{◌*◌, ◌≤◌}
use lib.ListN.{length}
use Rattle.chain.specs.Place.{Between}
use Rattle.chain.specs.Cover.{Parents, Heads}
use Rattle.chain.proofs.cover.heads.Given as goal

abbrev pub invariant-loop-b : goal.invariant-loop-b
invariant-loop-b l =
    (l.b ≤ 257) × (length l.par ≡ length l.initial.par) × Parents l.ws l.par (length l.ws) × Heads l.ws l.par l.b × Between l.ws (l.b * 4294967296) l.m
    (length l.ws)
