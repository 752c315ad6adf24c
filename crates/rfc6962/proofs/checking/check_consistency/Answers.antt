-- Test by test, by the laws of ConsistencyForms.antt.
-- Assumes nothing.
use Rattle.std.proofs.Common.{◌^◌, ◌≤◌, sym, ◌∙◌, arith}
use borrow.Author.Tests.{lt-leb, ne_eqb}
use Rattle.slate.specs.Digits.{max_height}
use Rattle.slate.proofs.Indexes.{index_range}
use Rattle.rfc6962.specs.Consistency.{consistency_tests}
use Rattle.rfc6962.proofs.ConsistencyForms.{new_decides, not_consistent, old_other}
use Rattle.rfc6962.proofs.checking.check_consistency.Goals as goal
use Rattle.rfc6962.proofs.checking.check_consistency.Goals.{Else-n}

pub returns-then-not-is_index : goal.returns-then-not-is_index
unfolding consistency_tests
returns-then-not-is_index c = not_consistent _ _ _ _ _ 0 (sym c.is_index.ensures ∙ c.if-not-is_index.true)

pub returns-then-n : goal.returns-then-n
unfolding consistency_tests max_height
returns-then-n c = not_consistent _ _ _ _ _ 1 (lt-leb _ _ c.if-n.true)

-- the sizes are in range
range : (c : Else-n) → (1 ≤ c.args.m) × (c.args.m ≤ c.args.n) × (c.args.n ≤ 2 ^ max_height)
unfolding max_height
range c = let r = index_range _ _ (sym c.is_index.ensures ∙ c.if-not-is_index.false) in (r.0, r.1, c.if-n.false)

pub returns-then-old-ne32 : goal.returns-then-old-ne32
unfolding consistency_tests
returns-then-old-ne32 c = not_consistent _ _ _ _ _ 2 (ne_eqb _ _ c.if-old-ne32.true)

pub returns-then-new-ne32 : goal.returns-then-new-ne32
unfolding consistency_tests
returns-then-new-ne32 c = not_consistent _ _ _ _ _ 3 (ne_eqb _ _ c.if-new-ne32.true)

pub overflow_cast-growth : goal.overflow_cast-growth
unfolding max_height
overflow_cast-growth c = omega (arith, range (goal.at.overflow_cast-growth c).Else-n)

pub invariant_of-growth : goal.invariant_of-growth
invariant_of-growth c = record { sizes = range (goal.at.invariant_of-growth c).Else-n }

pub returns-then-proof-digest_count : goal.returns-then-proof-digest_count
unfolding consistency_tests
returns-then-proof-digest_count c = not_consistent _ _ _ _ _ 4 (ne_eqb _ _ (λ e. omega arith))

pub returns-then-same_bytes : goal.returns-then-same_bytes
returns-then-same_bytes c =
    let few = (range (goal.at.returns-then-same_bytes c).Else-n).2 in
    new_decides _ _ _ _ _ (sym c.is_index.ensures ∙ c.if-not-is_index.false) few c.if-old-ne32.false c.if-new-ne32.false
    (omega arith) _ _ _ _ c.roots_of-roots.ensures.result_value c.roots_of-roots.ensures.result_after c.same_bytes.ensures
    c.if-same_bytes.true c.same_bytes-then-same_bytes.ensures

pub returns-else-same_bytes : goal.returns-else-same_bytes
returns-else-same_bytes c =
    c.if-same_bytes.false ∙ old_other _ _ _ _ _ _ _ c.roots_of-roots.ensures.result_value c.same_bytes.ensures c.if-same_bytes.false
