-- Test by test, by the laws of MakerForms.antt.
-- Assumes nothing.
use Rattle.std.proofs.Common.{ℕ, ◌*◌, length, sym, ap, ◌∙◌, arith}
use Rattle.slate.specs.Digits.{max_height}
use Rattle.rfc6962.proofs.MakerForms.{There, few, first, high, made_2, made_6, made_8, made_done, proof_digests, proof_size, there}
use Rattle.rfc6962.proofs.proving.consistency.Goals as goal
use Rattle.rfc6962.proofs.proving.consistency.Goals.{Else-not-is_index}

pub returns-in_default : goal.returns-in_default
returns-in_default c =
    let it = made_6 _ _ _ _ (sym c.in_default.ensures) in
    record { result_value = it.0; output_after = it.1 }

pub returns-then-not-is_index : goal.returns-then-not-is_index
returns-then-not-is_index c =
    let it = made_2 _ _ _ _ _ _ (sym c.in-Some.ensures) (sym c.is_index.ensures ∙ c.if-not-is_index.true) in
    record { result_value = it.0; output_after = it.1 }

here : (c : Else-not-is_index) → There c.args.log.now c.in-Some.opened.start c.in-Some.opened.count c.args.m
here c = there (λ k. omega (arith, c.type_inv.log k)) c.in-Some.ensures c.is_index.ensures c.if-not-is_index.false

pub returns-then-output-digest_count : goal.returns-then-output-digest_count
returns-then-output-digest_count c =
    let w = here (goal.at.returns-then-output-digest_count c).Else-not-is_index in
    let it = made_8 _ _ _ _ _ _ w _ (proof_size w ∙ ap (λ (m : ℕ). 32 * m) (sym c.digest_count.ensures.value)) c.if-output-digest_count.true in
    record { result_value = it.0; output_after = it.1 }

pub overflow_cast-growth : goal.overflow_cast-growth
overflow_cast-growth c =
    let w = here (goal.at.overflow_cast-growth c).Else-not-is_index in
    omega (arith, high w, few w)

pub invariant_of-growth : goal.invariant_of-growth
invariant_of-growth c =
    let w = here (goal.at.invariant_of-growth c).Else-not-is_index in
    record { sizes = (first w, high w, few w) }

pub put_digests-requires : goal.put_digests-requires
unfolding max_height
put_digests-requires c =
    let w = here (goal.at.put_digests-requires c).Else-not-is_index in
    let l = c.last-last.ensures in
    record {
      height_le_max_height = omega arith;
      first_value = λ t. omega (arith, first w);
      height_in_bounds =
          rw (l.log, l.position, c.is_omitted.ensures)
          (omega (arith, ap length (proof_digests w), proof_size w, c.digest_count.ensures.value, c.if-output-digest_count.false));
    }

pub returns : goal.returns
unfolding max_height
returns c =
    let w = here (goal.at.returns c).Else-not-is_index in
    let l = c.last-last.ensures in
    let p = c.put_digests.ensures in
    let it =
    made_done _ _ _ _ _ _ w _ (proof_size w ∙ ap (λ (m : ℕ). 32 * m) (sym c.digest_count.ensures.value)) c.if-output-digest_count.false
    _ (rw c.is_omitted.ensures (proof_digests w)) _ (rw (l.log, l.position) at p.value) _ (rw (l.log, l.position) at p.out_after) in
    record { result_value = it.0; output_after = it.1 }
