-- The siblings and, where it is not omitted, the digest of the first m values.
-- Assumes nothing.
use Rattle.std.proofs.Common.{ℕ, ◌+◌, sym, ap, ◌∙◌, arith}
use Rattle.slate.specs.Digits.{max_height}
use Rattle.rfc6962.proofs.CountForms.{digests_more, digests_omitted}
use Rattle.rfc6962.proofs.counts.Growth.digest_count.Goals as goal

pub returns-then-is_omitted : goal.returns-then-is_omitted
unfolding max_height
returns-then-is_omitted c = record {
  value = c.sibling_count-siblings.ensures.value ∙ sym (digests_omitted _ _ (sym c.is_omitted.ensures ∙ c.if-is_omitted.true));
  upper_bound = omega (arith, c.sibling_count-siblings.ensures.upper_bound);
}

pub returns : goal.returns
unfolding max_height
returns c = record {
  value =
      ap (λ (r : ℕ). r + 1) c.sibling_count-siblings.ensures.value
      ∙ sym (digests_more _ _ (sym c.is_omitted.ensures ∙ c.if-is_omitted.false));
  upper_bound = omega (arith, c.sibling_count-siblings.ensures.upper_bound);
}
