-- The loop keeps both roots up to height p, by the laws of BothRoots.antt.
-- Assumes nothing.
use Rattle.rfc6962.proofs.BothRoots.{FoldedUp}
use Rattle.rfc6962.proofs.counts.Growth.roots_from.Given as goal

abbrev pub invariant-loop-p : goal.invariant-loop-p
invariant-loop-p l = FoldedUp l.last l.target l.initial.old l.siblings l.p l.old l.new l.rest
