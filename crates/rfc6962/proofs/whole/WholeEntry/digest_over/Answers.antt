-- The loop keeps the digest up to height p, by the laws of TopForms.antt.
-- Assumes nothing.
use Rattle.std.proofs.Common.{◌≡◌, refl, sym, ◌∙◌, arith, add-one}
use Rattle.slate.specs.Digits.{digit}
use Rattle.slate.proofs.Cases.{digit_set}
use Rattle.rfc6962.proofs.TopForms.{top_lower, top_node}
use Rattle.rfc6962.proofs.whole.WholeEntry.digest_over.Goals as goal

pub loop-p-preserved-then-digit-eq0 : goal.loop-p-preserved-then-digit-eq0
loop-p-preserved-then-digit-eq0 c =
    top_lower _ _ _ _ (add-one c.loop-p.p) (sym c.digit.ensures ∙ c.if-digit-eq0.true) _ c.loop-p.invariant

-- there is a node of height p + 1
pub loop-p-preserved : goal.loop-p-preserved
loop-p-preserved c =
    let p = c.loop-p.p in
    let set : digit c.args.self.now.position p ≡ 1 = digit_set _ _ _ c.digit.ensures c.if-digit-eq0.false in
    top_node _ _ _ _ (add-one p) set _ refl _ _ _ (c.requires.by_index p (omega arith) set) c.loop-p.invariant
    (rw c.node_tag-tag.ensures at c.hash_tagged-own.ensures)
