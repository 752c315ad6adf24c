-- The loop keeps the fold up to height p, by the laws of FoldForms.antt; the formula counts the siblings.
-- Assumes nothing.
use Rattle.std.proofs.Common.{◌≡◌, ◌-◌, ◌^◌, ◌<◌, sym, ◌∙◌, arith, add-one}
use Rattle.slate.specs.Digits.{max_height}
use Rattle.slate.proofs.Cases.{digit_set}
use Rattle.slate.proofs.FoldForms.{folded_leaf, folded_node, folded_none, folded_room, folded_root}
use Rattle.slate.proofs.Formulas.{hops_formula}
use Rattle.slate.proofs.WayUp.{on_way}
use Rattle.slate.proofs.fold.fold.Goals as goal

pub loop-p-init : goal.loop-p-init
loop-p-init c = folded_leaf _ _ (omega arith) _ _ _

pub loop-p-preserved-then-digit-eq0 : goal.loop-p-preserved-then-digit-eq0
unfolding max_height on_way
loop-p-preserved-then-digit-eq0 c =
    folded_none _ _ (omega arith) _ _ _ _ _ _ (add-one c.loop-p.p) c.way_position-x.ensures _ _ c.loop-p.invariant (sym c.digit.ensures ∙ c.if-digit-eq0.true)

-- there is a node of height p + 1, and a sibling is left for it
pub split_at-requires : goal.split_at-requires
unfolding max_height on_way
split_at-requires c =
    let le = c.requires.le_i in
    let count = hops_formula _ _ le.0 le.1 le.2 in
    folded_room _ _ (omega arith) _ _ _ _ _ _ (add-one c.loop-p.p) c.way_position-x.ensures _ _ c.loop-p.invariant
    (digit_set _ _ _ c.digit.ensures c.if-digit-eq0.false) max_height (omega arith) (omega arith) (rw count at c.requires.i_in_bounds)

pub loop-p-preserved : goal.loop-p-preserved
unfolding max_height on_way
loop-p-preserved c =
    folded_node _ _ (omega arith) _ _ _ _ _ _ (add-one c.loop-p.p) c.way_position-x.ensures _ _ c.loop-p.invariant
    (digit_set _ _ _ c.digit.ensures c.if-digit-eq0.false) _ _ _ c.split_at.ensures.front c.split_at.ensures.back c.over-node.ensures

pub returns : goal.returns
unfolding max_height
returns c =
    let all : c.loop-p.p ≡ max_height = omega (arith, c.loop-p.auto, c.loop-p-test.false) in
    let last : c.args.n - 1 < 2 ^ max_height = omega arith in
    folded_root _ _ (omega arith) _ _ _ max_height last _ _ (rw all at c.loop-p.invariant)
