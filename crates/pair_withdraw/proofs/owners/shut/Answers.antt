use mathlib.Core.Path.{refl, ◌∙◌, ap}
use Prim.Native.Nat.{ℕ}
use native.Mathlib.Omega.{arith}
use lib.ListN.{get_or, length-set}
use lib.Seq.{get_or-set_other}
use Rattle.bits.proofs.Tabs.{stored_more}
use Rattle.pair.specs.Party.{party_of}
use Rattle.pair_withdraw.specs.Closed.{owner_left}
use Rattle.pair_withdraw.proofs.Shuts.{shut-done}
use Rattle.pair_withdraw.proofs.owners.shut.Goals as goal

pub loop-c-init : goal.loop-c-init
loop-c-init c = (refl, λ k l. absurd (omega arith), λ k l. refl)

pub bounds-own-c : goal.bounds-own-c
bounds-own-c c = omega (arith, c.loop-c.invariant.0)

pub bounds-see-c : goal.bounds-see-c
bounds-see-c c = omega (arith, c.loop-c.invariant.0, c.requires)

pub bounds-own-c-in-loop-c : goal.bounds-own-c-in-loop-c
bounds-own-c-in-loop-c c = omega (arith, c.loop-c.invariant.0)

pub loop-c-preserved : goal.loop-c-preserved
loop-c-preserved c =
    let own₀ = c.args.own.now in
    let see = c.args.see.now in
    let w = party_of c.args.guest in
    let inv = c.loop-c.invariant in
    let is = c.owner_left.ensures ∙ ap (λ (o : ℕ). owner_left w (get_or see c.loop-c.c 0) o) (inv.2 c.loop-c.c (omega arith)) in
    let done = stored_more (λ (k : ℕ). owner_left w (get_or see k 0) (get_or own₀ k 0)) c.loop-c.own c.loop-c.c _ (omega (arith, inv.0)) inv.1 is in (
      simp length-set inv.0,
      done,
      λ k l. get_or-set_other c.loop-c.own c.loop-c.c k _ 0 (λ q. omega arith) ∙ inv.2 k (omega arith),
    )

pub returns : goal.returns
returns c = shut-done _ _ _ _ c.loop-c.invariant.0 (λ k l. c.loop-c.invariant.1 k (omega arith))
