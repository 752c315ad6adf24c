-- Before the first position, or behind the last one.
-- Assumes nothing.
use Rattle.std.proofs.Common.{sym, ap, ◌∙◌}
use borrow.Author.Tests.{lt-ltb}
use lib.Dec.{ltb}
use Rattle.slate.proofs.Outside.{outside_before}
use Rattle.rfc6962.proofs.LayoutDigests.{outside_last}
use Rattle.rfc6962.proofs.digests.Positions.is_outside.Goals as goal

pub returns-then-position-self : goal.returns-then-position-self
returns-then-position-self c = lt-ltb _ _ c.if-position-self.true ∙ sym (outside_before _ _ _ _ c.if-position-self.true)

pub returns-else-position-self : goal.returns-else-position-self
returns-else-position-self c =
    ap (ltb c.args.self.now.target) c.base.ensures ∙ outside_last _ _ _ _ c.if-position-self.false
