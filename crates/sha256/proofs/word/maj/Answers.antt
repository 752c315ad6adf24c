-- One ∧ decides: by the digits.
-- Assumes nothing.
use Rattle.sha256.proofs.Bitwise.{maj_by_one_and}
use Rattle.sha256.proofs.word.maj.Goals as goal

pub returns : goal.returns
returns c = maj_by_one_and c.ranges.x.fits c.ranges.y.fits c.ranges.z.fits
