-- Three rotations, each by way of the one before.
-- Assumes nothing.
use Rattle.std.proofs.Common.{◌∙◌, arith}
use Rattle.sha256.proofs.Bitwise.{three_rotations}
use Rattle.sha256.proofs.word.big_sigma0.Goals as goal

pub returns : goal.returns
returns c = c.rotate_right-3.ensures ∙ rw (c.rotate_right-2.ensures, c.rotate_right.ensures) (three_rotations 2 11 9 (omega arith) c.ranges.x.fits)
