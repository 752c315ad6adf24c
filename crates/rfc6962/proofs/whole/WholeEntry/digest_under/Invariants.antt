-- Each turn is at the next entry under the node, and has the digests of its left children, by the laws of LeftForms.antt.
-- Assumes nothing.
use Rattle.std.proofs.Common.{◌≡◌}
use Rattle.ringlog.specs.Values.{values_of}
use Rattle.rfc6962.proofs.LeftForms.{Lefts}
use Rattle.rfc6962.proofs.whole.WholeEntry.digest_under.Given as goal

abbrev pub invariant-loop-x : goal.invariant-loop-x
invariant-loop-x l =
    (l.entry.log.now ≡ l.self.log.now) × (l.entry.position ≡ l.x) × Lefts (values_of l.self.log.now) l.height l.x l.lefts
