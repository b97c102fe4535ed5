use Prim.Native.Nat.{ℕ}
use native.Mathlib.Omega.{arith}
use lib.ListN.{get_or, length-set}
use Rattle.bits.proofs.Tabs.{stored_more}
use Rattle.pair.specs.Party.{party_of, seen}
use Rattle.pair_owners.proofs.SeenOwners.{viewed}
use Rattle.pair_owners.proofs.view.Goals as goal

pub loop-c-init : goal.loop-c-init
loop-c-init c = (c.requires, λ k l. absurd (omega arith))

pub bounds-out-c : goal.bounds-out-c
bounds-out-c c = omega (arith, c.loop-c.invariant.0)

pub loop-c-preserved : goal.loop-c-preserved
loop-c-preserved c =
    let own = c.args.own.now in
    let w = party_of c.args.guest in
    let done = stored_more (λ (k : ℕ). seen w (get_or own k 0)) c.loop-c.out c.loop-c.c _
    (omega (arith, c.loop-c.invariant.0)) c.loop-c.invariant.1 c.seen.ensures in
    (simp length-set c.loop-c.invariant.0, done)

pub returns : goal.returns
returns c = viewed _ _ _ c.loop-c.invariant.0 (λ k l. c.loop-c.invariant.1 k (omega arith))
