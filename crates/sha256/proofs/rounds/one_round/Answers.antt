-- The standard's assignments, from the calls' equations.
-- Assumes nothing.
use Rattle.sha256.specs.Fips180.{round}
use Rattle.sha256.proofs.rounds.one_round.Goals as goal

pub returns : goal.returns
unfolding round
returns c = cc
