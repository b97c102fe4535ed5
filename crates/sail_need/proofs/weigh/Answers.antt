-- `sail_need::weigh`. Whether n good records find room: 6, 7 or 8 where they do not.
use Rattle.sail_need.proofs.Weighs.{weigh-six, weigh-seven, weigh-eight, weigh-none}
use Rattle.sail_need.proofs.weigh.Goals as goal

pub returns-then-room-n : goal.returns-then-room-n
returns-then-room-n c = search weigh-six

pub returns-then-most2-count_need : goal.returns-then-most2-count_need
returns-then-most2-count_need c = weigh-seven _ _ _ _ _ _ c.if-room-n.false _ c.count_need.ensures.0 c.if-most2-count_need.true

pub returns-then-most3-count_need : goal.returns-then-most3-count_need
returns-then-most3-count_need c =
    weigh-eight _ _ _ _ _ _ c.if-room-n.false _ c.count_need.ensures.0 c.if-most2-count_need.false _
    c.count_need-2.ensures.0 c.if-most3-count_need.true

pub returns : goal.returns
returns c =
    weigh-none _ _ _ _ _ _ c.if-room-n.false _ c.count_need.ensures.0 c.if-most2-count_need.false _
    c.count_need-2.ensures.0 c.if-most3-count_need.false
