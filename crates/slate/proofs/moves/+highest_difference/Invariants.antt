-- One height less each turn.
-- Assumes nothing.
use Rattle.slate.proofs.moves.+highest_difference.Given as goal

abbrev pub decreases-highest_difference : goal.decreases-highest_difference
decreases-highest_difference l = l.h
