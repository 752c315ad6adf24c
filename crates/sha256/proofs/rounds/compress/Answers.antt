-- The standard's eight sums, from the calls' equations.
-- Assumes nothing.
use Rattle.sha256.specs.Fips180.{compressed, plus}
use Rattle.sha256.proofs.rounds.compress.Goals as goal

pub returns : goal.returns
unfolding compressed plus
returns c = record { value = cc; w_after = c.all_rounds-v.ensures.1 }
