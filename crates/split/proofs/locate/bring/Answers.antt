-- The last entry, or a descent from it.
-- Assumes nothing.
use Rattle.std.proofs.Common.{ℕ, ◌-◌, ap}
use Rattle.slate.specs.Digits.{max_height}
use Rattle.entry.proofs.StepForms.{at_target}
use Rattle.split.proofs.locate.bring.Goals as goal

pub returns-then-opened-n : goal.returns-then-opened-n
returns-then-opened-n c = at_target _ _ _ _ _ (ap (λ (n : ℕ). n - 1) c.if-opened-n.true)

pub returns : goal.returns
unfolding max_height
returns c =
    let l = c.last_entry.ensures in
    rw (l.log, l.start, l.position) at c.descend.ensures
