-- Equal tops, a refusal below unequal ones, and a leaf.
-- Assumes nothing.
use Rattle.std.proofs.Common.{◌≡◌, Err, Result, arith, rules}
use Rattle.slate.specs.Digits.{max_height}
use Rattle.split.specs.Located.{located_at}
use Rattle.split.specs.declared.Located.{Located}
use Rattle.split.specs.declared.SearchRefusal.{SearchRefusal}
use Rattle.split.proofs.DownForms.{down_reads_le}
use Rattle.split.proofs.LocateForms.{below_leaf, below_refused, equal_tops, first_leaf_lem}
use Rattle.split.proofs.locate.locate_at.Goals as goal

pub returns-then-same_top : goal.returns-then-same_top
unfolding max_height
returns-then-same_top c =
    equal_tops _ _ _ _ _ _ c.same_top.ensures c.if-same_top.true _ _ c.len.ensures c.len-then-same_top.ensures _ c.by_length.ensures

pub returns-then-position-eq0 : goal.returns-then-position-eq0
unfolding max_height
returns-then-position-eq0 c = first_leaf_lem _ _ _ _ _ _ c.same_top.ensures c.if-same_top.false c.if-position-eq0.true

pub overflow_add-result-3 : goal.overflow_add-result-3
unfolding max_height
overflow_add-result-3 c =
    let le = down_reads_le _ _ _ _ _ _ _ _ c.down.ensures c.in_ok-leaf.was in
    omega (arith, le.0, c.requires.reads_bound.0)

pub overflow_add-result-4 : goal.overflow_add-result-4
unfolding max_height
overflow_add-result-4 c =
    let le = down_reads_le _ _ _ _ _ _ _ _ c.down.ensures c.in_ok-leaf.was in
    omega (arith, le.1, c.requires.reads_bound.1)

pub returns-in_err-leaf : goal.returns-in_err-leaf
unfolding max_height
returns-in_err-leaf c =
    let e : ◌≡◌ {A = Result Located SearchRefusal} (Err c.in_err-leaf.field-0.0) (located_at c.args.first.now c.args.second.now c.args.position c.args.a c.args.b) =
    below_refused _ _ _ _ _ _ c.same_top.ensures c.if-same_top.false _ c.down.ensures _ c.in_err-leaf.was in
    search rules

pub returns : goal.returns
unfolding max_height
returns c = below_leaf _ _ _ _ _ _ c.same_top.ensures c.if-same_top.false _ c.down.ensures _ c.in_ok-leaf.was
