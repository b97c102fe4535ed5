use Rattle.std.specs.Prelude.{Bool, ℕ, ◌+◌, ◌*◌}
use native.Mathlib.Omega.{arith}
use Rattle.basic.specs.Maps.{hop_there}
use Rattle.basic_build.proofs.Fills.{byte-none, byte_more, byte_small}
use Rattle.basic_build.proofs.byte_of.Goals as goal

pub loop-b-init : goal.loop-b-init
loop-b-init c = (byte-none _, omega arith)

pub loop-b-preserved : goal.loop-b-preserved
loop-b-preserved c =
    let f : ℕ → Bool = λ k. hop_there c.args.cells.now (8 * c.args.j + k) in
    let so_far = c.loop-b.invariant.0 in
    let turn = c.loop-b-test.true in
    (byte_more f _ _ _ turn so_far c.bit_of.ensures, byte_small f _ _ _ turn so_far c.bit_of.ensures)
