use mathlib.Core.Path.{◌≡◌, refl, sym}
use lib.ListN.{length, length-set}
use lib.Seq.{length-take-le}
use native.Mathlib.Omega.{arith}
use Rattle.chain.proofs.Chains.{parents-more, climb-self}
use Rattle.chain.proofs.cover.parents.Goals as goal

pub loop-k-init : goal.loop-k-init
loop-k-init c = (c.requires.parents_below.place, refl, c.requires.parents_below.parents)

pub slice_bounds-last_cover-end-in-loop-k : goal.slice_bounds-last_cover-end-in-loop-k
slice_bounds-last_cover-end-in-loop-k c = sym (length-take-le _ _ (omega arith))

pub last_cover-requires : goal.last_cover-requires
last_cover-requires c = climb-self _ _ _ c.requires.words_room.words c.loop-k-test.true (omega arith) c.loop-k.invariant.2

pub entry_of-requires : goal.entry_of-requires
entry_of-requires c = omega (arith, c.last_cover.ensures.to)

pub loop-k-preserved : goal.loop-k-preserved
loop-k-preserved c = (
  omega arith,
  simp length-set c.loop-k.invariant.1,
  parents-more _ _ _ _ (omega arith)
      c.loop-k.invariant.2 (rw c.entry_of.ensures c.last_cover.ensures),
)

pub returns : goal.returns
returns c =
    let l = c.loop-k in
    let e : l.k ≡ length c.args.ws.now = omega arith in
    rw e at l.invariant.2
