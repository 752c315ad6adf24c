-- The highest digit of n - 1 is that of the split.
-- Assumes nothing.
use Rattle.std.proofs.Common.{arith, sym}
use Rattle.rfc6962.proofs.SplitForms.{split_low, split_log}
use Rattle.rfc6962.proofs.counts.split_height.Goals as goal

pub returns-clause-value : goal.returns-clause-value
returns-clause-value c =
    sym (split_log _ _ (omega arith) c.ilog2.ensures.power_le c.ilog2.ensures.next_power_gt)

pub returns-clause-upper_bound : goal.returns-clause-upper_bound
returns-clause-upper_bound c = split_low _ _ (omega (arith, c.ilog2.ensures.power_le))
