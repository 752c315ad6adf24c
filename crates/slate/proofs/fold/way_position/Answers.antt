-- The block around the target ends inside 2 ^ max_height positions, so that no sum wraps.
-- Assumes nothing.
use Prim.Native.Nat.{◌≤◌}
use native.Mathlib.Omega.{arith}
use lib.Pow.{pow_mono}
use Rattle.slate.specs.Digits.{max_height}
use Rattle.slate.proofs.Bits.{base_le}
use Rattle.slate.proofs.CodeForms.{shifted_one}
use Rattle.slate.proofs.fold.way_position.Goals as goal

pub overflow_add-base : goal.overflow_add-base
unfolding max_height
overflow_add-base c =
    let a = c.args in
    let short : a.h ≤ max_height = omega arith in
    rw (shifted_one a.h (omega arith)) (omega (arith, c.base.ensures, base_le a.target a.h, pow_mono short))
