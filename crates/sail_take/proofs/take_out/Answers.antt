-- `sail_take::take_out`: the list changes from the record on, and so does its chain.
use native.Mathlib.Omega.{arith}
use Rattle.sail_take.proofs.TakeChain.{taken-below, taken-done}
use Rattle.sail_take.proofs.take_out.Goals as goal

pub remove_at-requires : goal.remove_at-requires
remove_at-requires c = c.requires.fits

pub overflow_sub-m : goal.overflow_sub-m
overflow_sub-m c = omega (arith, c.requires.fits.place)

pub chained_from-requires : goal.chained_from-requires
chained_from-requires c = taken-below c.requires c.remove_at.ensures

pub returns : goal.returns
returns c = taken-done c.requires c.remove_at.ensures c.chained_from.ensures
