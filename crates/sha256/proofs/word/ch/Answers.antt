-- One ∧ selects: by the digits.
-- Assumes nothing.
use Rattle.sha256.proofs.Bitwise.{ch_by_one_and}
use Rattle.sha256.proofs.word.ch.Goals as goal

pub returns : goal.returns
returns c = ch_by_one_and c.ranges.x.fits c.ranges.y.fits c.ranges.z.fits
