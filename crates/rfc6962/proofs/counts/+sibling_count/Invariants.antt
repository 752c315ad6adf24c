-- A sibling for each split, by the laws of CountForms.antt: the height falls by one.
-- Assumes nothing.
use Rattle.rfc6962.proofs.counts.+sibling_count.Given as goal

abbrev pub decreases-sibling_count : goal.decreases-sibling_count
decreases-sibling_count l = l.height
