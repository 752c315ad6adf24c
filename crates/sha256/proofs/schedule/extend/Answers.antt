-- The standard's sum, from the calls' equations.
-- Assumes nothing.
use Rattle.sha256.specs.Fips180.{extend}
use Rattle.sha256.proofs.schedule.extend.Goals as goal

pub returns : goal.returns
unfolding extend
returns c = cc
