-- Each turn is at an entry under the node, one height lower, by the laws of TopForms.antt.
-- Assumes nothing.
use Rattle.std.proofs.Common.{◌≡◌}
use Rattle.slate.specs.Digits.{base}
use Rattle.rfc6962.proofs.whole.WholeEntry.first_under.Given as goal

abbrev pub invariant-loop-p : goal.invariant-loop-p
invariant-loop-p l = (l.entry.log.now ≡ l.self.log.now) × (base l.entry.position l.p ≡ base l.self.position l.height)
