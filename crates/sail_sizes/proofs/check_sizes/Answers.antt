-- `sail_sizes::check_sizes`: the geometry comes first, then the sizes.
use Rattle.sail.proofs.Fitting.{checked-0, checked-1, checked-2}
use Rattle.sail_sizes.proofs.check_sizes.Goals as goal

pub returns-then-not-valid : goal.returns-then-not-valid
returns-then-not-valid c = checked-1 _ _ _ c.valid.ensures c.if-not-valid.true

pub fits-requires : goal.fits-requires
fits-requires c = c.valid.ensures.0 c.if-not-valid.false

pub returns-then-not-fits : goal.returns-then-not-fits
returns-then-not-fits c = checked-2 _ _ _ (c.valid.ensures.0 c.if-not-valid.false) c.fits.ensures c.if-not-fits.true

pub returns : goal.returns
returns c = checked-0 _ _ _ (c.valid.ensures.0 c.if-not-valid.false) c.fits.ensures c.if-not-fits.false
