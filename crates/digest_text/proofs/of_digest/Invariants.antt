-- `of_digest` meets its contract. The loop's invariant: the first 2 * i digits are those of the digest's first i bytes.
-- Assumes nothing.
use mathlib.Core.Path.{◌≡◌}
use Prim.Native.Nat.{◌*◌, ◌-◌, ◌≤◌}
use lib.ListN.{length, take}
use Rattle.digest_text.specs.Hex.{hex_of}
use Rattle.digest_text.proofs.of_digest.Given as goal

abbrev pub invariant-loop-i : goal.invariant-loop-i
invariant-loop-i l = (l.i ≤ 32) × (length l.text ≡ 64) × (take (2 * l.i) l.text ≡ hex_of (take l.i l.digest))

abbrev pub decreases-loop-i : goal.decreases-loop-i
decreases-loop-i l = 32 - l.i
