-- The answer of `audit`, field by field.
-- Assumes nothing.
use Rattle.ringlog_c.proofs.ringlog_audit.Goals as goal

pub returns-clause-longest : goal.returns-clause-longest
returns-clause-longest c = rw c.from.ensures c.audit.ensures.longest
