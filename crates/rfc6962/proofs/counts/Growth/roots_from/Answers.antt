-- The loop keeps both roots up to height p, by the laws of BothRoots.antt.
-- Assumes nothing.
use Rattle.std.proofs.Common.{◌≡◌, suc, ◌-◌, refl, sym, ◌∙◌, add-one, arith}
use Rattle.slate.specs.Digits.{max_height}
use Rattle.slate.proofs.Cases.{digit_set}
use Rattle.slate.proofs.WayUp.{on_way}
use Rattle.rfc6962.proofs.BothRoots.{folded_end, folded_left, folded_none, folded_right, folded_room, folded_start, folded_whole, found_same}
use Rattle.rfc6962.proofs.SiblingCounts.{cuts_whole}
use Rattle.rfc6962.proofs.WaySplits.{Split, left_here, right_here}
use Rattle.rfc6962.proofs.counts.Growth.roots_from.Goals as goal
use Rattle.rfc6962.proofs.counts.Growth.roots_from.Goals.{Else-base, Else-base-self}

pub returns-then-self : goal.returns-then-self
returns-then-self c =
    let s = found_same _ _ c.args.digest c.args.siblings.now c.if-self.true in
    record { result_value = s.0; result_after = s.1 }

pub loop-p-init : goal.loop-p-init
loop-p-init c = folded_start _ _ (omega arith) _ _

-- ---- digit p of the target is 0

pub loop-p-preserved-then-base : goal.loop-p-preserved-then-base
unfolding max_height
loop-p-preserved-then-base c =
    folded_none _ _ (omega arith) _ _ _ _ (add-one c.loop-p.p) _ _ _ c.loop-p.invariant (sym c.digit.ensures ∙ c.if-digit-eq0.true)
    (sym c.base.ensures ∙ c.if-base.true ∙ c.base-then-digit-eq0.ensures)

goes_left : (c : Else-base) → Split (c.args.self.old - 1) c.loop-p.p (on_way (c.args.self.new - 1) (c.args.self.old - 1) (suc c.loop-p.p))
goes_left c =
    left_here _ _ (omega arith) _ _ refl (sym c.digit.ensures ∙ c.if-digit-eq0.true)
    (λ e. c.if-base.false (c.base.ensures ∙ e ∙ sym c.base-then-digit-eq0.ensures))

-- a sibling is left
pub split_at-requires : goal.split_at-requires
unfolding max_height
split_at-requires c =
    let r = c.args.self.sizes in
    folded_room _ _ (omega arith) _ _ _ _ (add-one c.loop-p.p) _ _ _ c.loop-p.invariant
    (goes_left (goal.at.split_at-requires c).Else-base) max_height _ (omega arith) (omega arith)
    (cuts_whole _ _ r.0 r.1 r.2) c.requires

pub loop-p-preserved-then-digit-eq0 : goal.loop-p-preserved-then-digit-eq0
unfolding max_height
loop-p-preserved-then-digit-eq0 c =
    folded_left _ _ (omega arith) _ _ _ _ (add-one c.loop-p.p) _ _ _ c.loop-p.invariant
    (goes_left (goal.at.loop-p-preserved-then-digit-eq0 c).Else-base) _ _ c.split_at.ensures.front c.split_at.ensures.back
    (sym c.digit.ensures ∙ c.if-digit-eq0.true) _ (rw c.node_tag-tag.ensures at c.hash_tagged-new.ensures)

-- ---- it is 1

pub loop-p-preserved-then-base-self : goal.loop-p-preserved-then-base-self
unfolding max_height
loop-p-preserved-then-base-self c =
    folded_end _ _ (omega arith) _ _ _ _ (add-one c.loop-p.p) _ _ _ c.loop-p.invariant _ (omega arith)
    (sym c.base-in-loop-p.ensures ∙ c.if-base-self.true)

goes_right : (c : Else-base-self) → Split (c.args.self.old - 1) c.loop-p.p (on_way (c.args.self.new - 1) (c.args.self.old - 1) (suc c.loop-p.p))
goes_right c =
    right_here _ _ (omega arith) _ _ refl _ (add-one c.loop-p.p) c.args.self.old (omega arith)
    (digit_set _ _ _ c.digit.ensures c.if-digit-eq0.false) (λ e. c.if-base-self.false (c.base-in-loop-p.ensures ∙ e))

pub split_at-requires-in-loop-p : goal.split_at-requires-in-loop-p
unfolding max_height
split_at-requires-in-loop-p c =
    let r = c.args.self.sizes in
    folded_room _ _ (omega arith) _ _ _ _ (add-one c.loop-p.p) _ _ _ c.loop-p.invariant
    (goes_right (goal.at.split_at-requires-in-loop-p c).Else-base-self) max_height _ (omega arith) (omega arith)
    (cuts_whole _ _ r.0 r.1 r.2) c.requires

pub loop-p-preserved : goal.loop-p-preserved
unfolding max_height
loop-p-preserved c =
    folded_right _ _ (omega arith) _ _ _ _ (add-one c.loop-p.p) _ _ _ c.loop-p.invariant
    (goes_right (goal.at.loop-p-preserved c).Else-base-self) _ _ c.split_at-in-loop-p.ensures.front c.split_at-in-loop-p.ensures.back
    (digit_set _ _ _ c.digit.ensures c.if-digit-eq0.false) _ _
    (rw c.node_tag-tag.ensures at c.hash_tagged-old.ensures) (rw c.node_tag-tag.ensures at c.hash_tagged-new-in-loop-p.ensures)

pub returns : goal.returns
unfolding max_height
returns c =
    let r = c.args.self.sizes in
    let all : c.loop-p.p ≡ max_height = omega (arith, c.loop-p.auto, c.loop-p-test.false) in
    let w = folded_whole _ _ r.0 r.1 r.2 _ _ _ _ _ (rw all at c.loop-p.invariant) in
    record { result_value = w.0; result_after = w.1 }
