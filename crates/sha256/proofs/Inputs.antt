-- The length of an input.
-- Assumes nothing.
use Rattle.std.proofs.Common.{◌≡◌, ℕ, ◌≤◌, List, length, subst, arith, length-append}
use Rattle.std.specs.Borrow.{Bor}
use Rattle.sha256.specs.Input.{InputFits, input}
use Rattle.sha256.specs.declared.input.Input.{Input}
use Rattle.sha256.specs.declared.input.Input.TheVariants.{Message, Node}

-- of a node's
pub node_size : (s : Input) (tag : ℕ) (left right : Bor (List ℕ)) → s ≡ Node tag left right → InputFits s → 65 ≡ length (input s)
node_size s tag left right e fits =
    let both : InputFits (Node tag left right) = subst InputFits e fits in
    rw e (omega (arith, length-append left.now right.now, both.0, both.1))

-- it is not too long to be hashed
pub input_short : (s : Input) → InputFits s → length (input s) ≤ 65535
input_short (Message m) fits = fits
input_short (Node tag left right) fits = omega (arith, length-append left.now right.now, fits.0, fits.1)
