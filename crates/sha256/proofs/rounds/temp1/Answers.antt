-- The standard's sum, from the calls' equations.
-- Assumes nothing.
use Rattle.sha256.specs.Fips180.{T1}
use Rattle.sha256.proofs.rounds.temp1.Goals as goal

pub returns : goal.returns
unfolding T1
returns c = cc
