-- The loop's invariant: the state is the hash value after i blocks of the padded input.
-- Assumes nothing.
use Rattle.std.proofs.Common.{◌≡◌, ◌≤◌}
use Rattle.sha256.specs.Fips180.{H, padded}
use Rattle.sha256.specs.Input.{input}
use Rattle.sha256.proofs.input.Input.digest.Given as goal

abbrev pub invariant-loop-i : goal.invariant-loop-i
invariant-loop-i l = (l.i ≤ l.i-end) × (l.state ≡ H (padded (input l.self)) l.i)
