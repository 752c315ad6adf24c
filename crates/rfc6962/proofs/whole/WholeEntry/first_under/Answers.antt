-- Each turn is at an entry under the node, one height lower, by the laws of TopForms.antt.
-- Assumes nothing.
use Rattle.std.proofs.Common.{◌≡◌, ◌-◌, sym, ◌∙◌, arith}
use Rattle.slate.specs.Digits.{digit}
use Rattle.slate.proofs.Bits.{base_zero}
use Rattle.slate.proofs.Cases.{by_digit}
use Rattle.rfc6962.proofs.TopForms.{first_left, first_none}
use Rattle.rfc6962.proofs.whole.WholeEntry.first_under.Goals as goal

pub loop-p-preserved-then-digit-eq1 : goal.loop-p-preserved-then-digit-eq1
loop-p-preserved-then-digit-eq1 c =
    let l = c.loop-p in
    let e = c.left-entry.ensures in
    let set : digit l.entry.position (l.p - 1) ≡ 1 = sym c.digit.ensures ∙ c.if-digit-eq1.true in
    (e.log ∙ l.invariant.0, first_left _ _ _ _ (omega arith) l.invariant.1 set _ e.position)

pub loop-p-preserved : goal.loop-p-preserved
loop-p-preserved c =
    let l = c.loop-p in
    let none : digit l.entry.position (l.p - 1) ≡ 0 =
    by_digit l.entry.position (l.p - 1) (λ z. z) (λ s. absurd (c.if-digit-eq1.false (c.digit.ensures ∙ s))) in
    (l.invariant.0, first_none _ _ _ _ (omega arith) l.invariant.1 none)

pub returns-clause-position : goal.returns-clause-position
returns-clause-position c =
    let l = c.loop-p in
    let low : l.p ≡ 0 = omega (arith, c.loop-p-test.false) in
    sym (base_zero _) ∙ rw low at l.invariant.1
