-- `sail_make::blank`: the arrays are written one after the other.
use Rattle.buffers.proofs.Fills.{now_set}
use Rattle.sail_make.proofs.Makes.{blank-made}
use Rattle.sail_make.proofs.blank.Goals as goal

pub returns : goal.returns
returns c =
    blank-made _ _ _ _ _ _ _ _ _ (now_set c.fill.ensures.after) (now_set c.fill-2.ensures.after) (now_set c.fill-3.ensures.after)
    (now_set c.fill-4.ensures.after)
    (now_set c.fill-5.ensures.after) (now_set c.fill-6.ensures.after) (now_set c.fill-7.ensures.after) (now_set c.fill-8.ensures.after)
