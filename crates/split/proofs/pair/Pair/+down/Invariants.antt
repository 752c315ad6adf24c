-- The height falls.
-- Assumes nothing.
use Rattle.split.proofs.pair.Pair.+down.Given as goal

abbrev pub decreases-down : goal.decreases-down
decreases-down l = l.height
