-- What opening found, by the laws of RootForms.antt.
-- Assumes nothing.
use Rattle.std.proofs.Common.{sym, arith}
use Rattle.slate.specs.Digits.{max_height}
use Rattle.rfc6962.proofs.RootForms.{root_none, root_some, root_unformed}
use Rattle.rfc6962.proofs.roots.root.Goals as goal

pub returns-in_default : goal.returns-in_default
returns-in_default c = root_unformed _ (sym c.in_default.ensures)

pub returns-then-opened-eq0 : goal.returns-then-opened-eq0
returns-then-opened-eq0 c = root_none _ _ _ (sym c.in-Some.ensures) c.if-opened-eq0.true _ c.empty_root.ensures

pub returns : goal.returns
unfolding max_height
returns c =
    let e = c.last.ensures in
    root_some _ _ _ (sym c.in-Some.ensures) (λ i. omega (arith, c.type_inv.log i)) c.if-opened-eq0.false _
    (rw (e.log, e.position) at c.digest_under.ensures)
