-- The standard's sum, from the calls' equations.
-- Assumes nothing.
use Rattle.sha256.specs.Fips180.{T2}
use Rattle.sha256.proofs.rounds.temp2.Goals as goal

pub returns : goal.returns
unfolding T2
returns c = cc
