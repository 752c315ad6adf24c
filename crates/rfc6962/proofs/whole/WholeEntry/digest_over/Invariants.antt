-- The loop keeps the digest up to height p, by the laws of TopForms.antt.
-- Assumes nothing.
use Rattle.std.proofs.Common.{◌≡◌}
use Rattle.slate.specs.Tree.{rfc6962, top}
use Rattle.ringlog.specs.Values.{values_of}
use Rattle.rfc6962.proofs.whole.WholeEntry.digest_over.Given as goal

abbrev pub invariant-loop-p : goal.invariant-loop-p
invariant-loop-p l = l.own ≡ top rfc6962 (values_of l.self.log.now) l.self.position l.p
