use native.Mathlib.Omega.{arith}
use borrow.Author.Count.{below_none}
use Rattle.lists.proofs.Places.{place_is, up, down, mid-below}
use Rattle.lists.proofs.place.place.Goals as goal

pub loop-low-init : goal.loop-low-init
loop-low-init c = (omega arith, omega arith, below_none _, (λ j a b. absurd (omega arith)))

pub loop-low-preserved-then-key_at-k : goal.loop-low-preserved-then-key_at-k
loop-low-preserved-then-key_at-k c = (omega arith, omega arith, search (up, mid-below), c.loop-low.invariant.3)

pub loop-low-preserved : goal.loop-low-preserved
loop-low-preserved c = (omega arith, omega arith, c.loop-low.invariant.2, search down)

pub returns : goal.returns
returns c =
    let inv = c.loop-low.invariant in
    (place_is _ _ _ _ (omega arith) inv.2 (λ j a b. inv.3 j (omega arith) b), omega arith)
