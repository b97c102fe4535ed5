-- `sail_update::announce_all`. The invariant (`Announcing`): the table is sound, its chain is at hand, and what is left of the message is dealt with from here.
use Rattle.std.proofs.Common.{◌-◌}
use Rattle.sail.specs.Lent.{lent}
use Rattle.sail_update.proofs.Comings.{Announcing}
use Rattle.sail_update.proofs.announce_all.Given as goal

abbrev pub invariant-loop-at : goal.invariant-loop-at
invariant-loop-at l =
    Announcing l.initial.u
    (lent l.initial.list l.initial.first l.initial.second l.initial.third l.initial.own2 l.initial.own3 l.initial.long1 l.initial.long2)
    l.field l.hop l.from l.k l.at l.u (lent l.list l.first l.second l.third l.own2 l.own3 l.long1 l.long2) l.ws l.par

abbrev pub decreases-loop-at : goal.decreases-loop-at
decreases-loop-at l = l.n - l.at
