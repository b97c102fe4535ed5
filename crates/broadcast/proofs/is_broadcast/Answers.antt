-- `broadcast::is_broadcast`: one law for each answer, over the longest record that covers the address.
use mathlib.Core.Bool.{not}
use mathlib.Core.Path.{ap}
use Rattle.longest.proofs.Returns.{its-bytes}
use Rattle.broadcast.proofs.BroadcastReturns.{no_cover, not-attached, too_long, its-prefix, ends_there}
use Rattle.broadcast.proofs.is_broadcast.Goals as goal

pub returns-in_default : goal.returns-in_default
returns-in_default c = no_cover _ _ _ _ c.requires c.in_default.ensures

pub read_record-r-requires : goal.read_record-r-requires
read_record-r-requires c = its-bytes c.requires c.in-Some.ensures

pub returns-then-not-attached : goal.returns-then-not-attached
returns-then-not-attached c = not-attached _ _ _ _ c.requires _ c.in-Some.ensures _ c.read_record-r.ensures _ c.attached.ensures (ap not c.if-not-attached.true)

pub returns-then-last_len-from : goal.returns-then-last_len-from
returns-then-last_len-from c =
    too_long _ _ _ _ c.requires _ c.in-Some.ensures _ c.read_record-r.ensures _ c.attached.ensures (ap not c.if-not-attached.false) _ _ c.last_len.ensures c.from.ensures
    c.if-last_len-from.true

pub highest-requires : goal.highest-requires
highest-requires c = its-prefix c.args.version _ _ _ c.requires _ c.in-Some.ensures _ c.read_record-r.ensures

pub returns : goal.returns
returns c =
    ends_there _ _ _ _ c.requires _ c.in-Some.ensures _ c.read_record-r.ensures _ c.attached.ensures (ap not c.if-not-attached.false) _ _ c.last_len.ensures c.from.ensures
    c.if-last_len-from.false _ c.highest.ensures
