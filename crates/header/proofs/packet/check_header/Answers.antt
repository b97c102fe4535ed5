-- `header::packet::check_header`: each way out of the tests has its law.
use Rattle.header.proofs.Faults.{too_few, other-version, wrong-sum, no-life, no-fault}
use Rattle.header.proofs.packet.check_header.Goals as goal

pub returns-then-packet-lt20 : goal.returns-then-packet-lt20
returns-then-packet-lt20 c = too_few _ c.if-packet-lt20.true

pub returns-then-packet-ne69 : goal.returns-then-packet-ne69
returns-then-packet-ne69 c = other-version _ c.if-packet-lt20.false c.if-packet-ne69.true

pub returns-then-sum-ne65535 : goal.returns-then-sum-ne65535
returns-then-sum-ne65535 c = wrong-sum _ c.if-packet-lt20.false c.if-packet-ne69.false _ c.sum.ensures.0 c.if-sum-ne65535.true

pub returns-then-packet-lt2 : goal.returns-then-packet-lt2
returns-then-packet-lt2 c =
    no-life _ c.if-packet-lt20.false c.if-packet-ne69.false _ c.sum.ensures.0 c.if-sum-ne65535.false c.if-packet-lt2.true

pub returns : goal.returns
returns c =
    no-fault _ c.if-packet-lt20.false c.if-packet-ne69.false _ c.sum.ensures.0 c.if-sum-ne65535.false c.if-packet-lt2.false
