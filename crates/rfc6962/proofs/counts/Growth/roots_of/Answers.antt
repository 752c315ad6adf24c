-- The digest of the old values is the lent root or the first digest of the proof.
-- Assumes nothing.
use Rattle.std.proofs.Common.{sym, ◌∙◌, arith, length-drop}
use Rattle.rfc6962.proofs.BothRoots.{come_first, come_omitted}
use Rattle.rfc6962.proofs.CountForms.{digests_more, digests_omitted}
use Rattle.rfc6962.proofs.counts.Growth.roots_of.Goals as goal

pub roots_from-requires : goal.roots_from-requires
roots_from-requires c = omega (arith, digests_omitted _ _ (sym c.is_omitted.ensures ∙ c.if-is_omitted.true))

pub returns-then-is_omitted : goal.returns-then-is_omitted
returns-then-is_omitted c =
    let r =
    come_omitted _ _ c.args.proof.now _ (sym c.is_omitted.ensures ∙ c.if-is_omitted.true) _ _ _ c.copy_from_slice.ensures.after
    (c.roots_from.ensures.result_value, c.roots_from.ensures.result_after) in
    record { result_value = r.0; result_after = r.1 }

-- the proof has a digest
pub split_at-requires : goal.split_at-requires
split_at-requires c = omega (arith, digests_more _ _ (sym c.is_omitted.ensures ∙ c.if-is_omitted.false))

pub roots_from-requires-2 : goal.roots_from-requires-2
roots_from-requires-2 c =
    rw (c.split_at.ensures.back, length-drop)
    (omega (arith, digests_more _ _ (sym c.is_omitted.ensures ∙ c.if-is_omitted.false)))

pub returns : goal.returns
returns c =
    let r =
    come_first _ _ _ c.args.old.now (sym c.is_omitted.ensures ∙ c.if-is_omitted.false) _ _ _ _
    (c.copy_from_slice-2.ensures.after ∙ c.split_at.ensures.front) c.split_at.ensures.back
    (c.roots_from-2.ensures.result_value, c.roots_from-2.ensures.result_after) in
    record { result_value = r.0; result_after = r.1 }
