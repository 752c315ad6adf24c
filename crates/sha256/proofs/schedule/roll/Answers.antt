-- Word t, and the place it takes, are the definition's.
-- Assumes nothing.
use Rattle.sha256.specs.Window.{made, rolled}
use Rattle.sha256.proofs.schedule.roll.Goals as goal

pub returns : goal.returns
unfolding made rolled
returns c = record { value = cc; w_after = cc }
