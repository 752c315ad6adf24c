-- Test by test, by the laws of CheckForms.antt.
-- Assumes nothing.
use Rattle.std.proofs.Common.{◌≡◌, ℕ, ◌*◌, ◌≤◌, Bool, true, length, sym, ap, ◌∙◌, arith}
use borrow.Author.Tests.{lt-leb, ne_eqb}
use Rattle.sha256.specs.Fips180.{sha256}
use Rattle.slate.specs.Digits.{max_height}
use Rattle.slate.specs.Index.{is_index}
use Rattle.slate.specs.Moves.{hops}
use Rattle.inclusion.specs.Check.{proof_tests}
use Rattle.slate.proofs.Indexes.{index_range}
use Rattle.slate.proofs.LeafForms.{leaf_either}
use Rattle.entry.proofs.Items.{item_size}
use Rattle.inclusion.proofs.CheckForms.{holds_fold, not_holds}
use Rattle.inclusion.proofs.checking.proof_holds.Goals as goal

pub returns-then-not-is_index : goal.returns-then-not-is_index
unfolding proof_tests
returns-then-not-is_index c = sym (not_holds _ _ _ _ _ _ 0 (sym c.is_index.ensures ∙ c.if-not-is_index.true))

pub returns-then-count : goal.returns-then-count
unfolding proof_tests max_height
returns-then-count c = sym (not_holds _ _ _ _ _ _ 1 (lt-leb _ _ c.if-count.true))

pub returns-then-not-is_item : goal.returns-then-not-is_item
unfolding proof_tests
returns-then-not-is_item c = sym (not_holds _ _ _ _ _ _ 2 (sym c.is_item.ensures ∙ c.if-not-is_item.true))

-- the index is in range
range : {i n : ℕ} {t : Bool} → t ≡ is_index i n → t ≡ true → (1 ≤ i) × (i ≤ n)
range is good = index_range _ _ (sym is ∙ good)

pub overflow_cast-i : goal.overflow_cast-i
overflow_cast-i c = omega (arith, range c.is_index.ensures c.if-not-is_index.false)

pub hops-requires : goal.hops-requires
hops-requires c = (range c.is_index.ensures c.if-not-is_index.false).0

-- the proof has the bytes of its siblings, or it has not
pub returns-then-proof-hops : goal.returns-then-proof-hops
unfolding proof_tests
returns-then-proof-hops c = sym (not_holds _ _ _ _ _ _ 3 (ne_eqb _ _ (λ e. omega (arith, c.hops.ensures))))

pub returns-then-root-ne32 : goal.returns-then-root-ne32
unfolding proof_tests
returns-then-root-ne32 c = sym (not_holds _ _ _ _ _ _ 4 (ne_eqb _ _ c.if-root-ne32.true))

pub leaf_digest-requires : goal.leaf_digest-requires
leaf_digest-requires c =
    let s = item_size _ (sym c.is_item.ensures ∙ c.if-not-is_item.false) in
    (omega arith, omega arith)

pub fold-digest-requires-clause-le_i : goal.fold-digest-requires-clause-le_i
unfolding max_height
fold-digest-requires-clause-le_i c =
    let r = range c.is_index.ensures c.if-not-is_index.false in
    (r.0, r.1, c.if-count.false)

pub returns : goal.returns
unfolding max_height
returns c =
    let whole : length c.args.proof.now ≡ 32 * hops c.args.count c.args.index = omega (arith, c.hops.ensures) in
    holds_fold _ _ _ _ _ _ (sym c.is_index.ensures ∙ c.if-not-is_index.false) c.if-count.false
    (sym c.is_item.ensures ∙ c.if-not-is_item.false) whole c.if-root-ne32.false _ _
    (c.leaf_digest.ensures ∙ ap sha256 (leaf_either c.args.rule _))
    c.fold-digest.ensures _ c.same_bytes.ensures
