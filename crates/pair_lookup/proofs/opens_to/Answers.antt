-- `pair_lookup::opens_to`. Whether a cell names a chunk that opens to the party.
use mathlib.Core.Bool.{not}
use mathlib.Core.Path.{ap}
use lib.ListN.{length}
use Rattle.pair.specs.Party.{party_of}
use native.Mathlib.Omega.{arith}
use Rattle.pair_lookup.proofs.Looks.{not-one, is-named, is_one}
use Rattle.pair_lookup.proofs.opens_to.Goals as goal

pub returns-then-not-opens : goal.returns-then-not-opens
returns-then-not-opens c = not-one (party_of c.args.guest) c.args.own.now c.args.v _ c.opens.ensures (ap not c.if-not-opens.true)

pub overflow_sub-c : goal.overflow_sub-c
overflow_sub-c c = omega (arith, is-named (length c.args.own.now) c.args.v _ c.opens.ensures (ap not c.if-not-opens.false))

pub bounds-own-c : goal.bounds-own-c
bounds-own-c c = omega (arith, is-named (length c.args.own.now) c.args.v _ c.opens.ensures (ap not c.if-not-opens.false))

pub returns : goal.returns
returns c =
    is_one (party_of c.args.guest) c.args.own.now c.args.v _ c.opens.ensures (ap not c.if-not-opens.false) _ c.foreign.ensures
