-- Two rotations, one by way of the other.
-- Assumes nothing.
use Rattle.std.proofs.Common.{ℕ, ap, arith}
use lib.Bits.{bit_xor}
use Rattle.sha256.specs.Fips180.{shr}
use Rattle.sha256.proofs.Bitwise.{two_rotations}
use Rattle.sha256.proofs.word.sigma0.Goals as goal

pub returns : goal.returns
returns c =
    rw (c.rotate_right-2.ensures, c.rotate_right.ensures)
    (ap (λ (r : ℕ). bit_xor r (shr 3 c.args.x)) (two_rotations 7 11 (omega arith) c.ranges.x.fits))
