-- A sibling for each split, by the laws of CountForms.antt: the height falls by one.
-- Assumes nothing.
use mathlib.Core.Path.{◌≡◌, sym}
use Prim.Native.Nat.{ℕ, ◌^◌, ◌≤◌}
use native.Mathlib.Omega.{arith}
use Rattle.rfc6962.proofs.CountForms.{counted_left, counted_right}
use Rattle.rfc6962.proofs.SiblingCounts.{count_end}
use Rattle.rfc6962.proofs.SplitForms.{Fewer, fewer_limit, fewer_next, left_range, right_range}
use Rattle.rfc6962.proofs.counts.+sibling_count.Goals as goal

pub returns-then-m-n : goal.returns-then-m-n
returns-then-m-n t c = record { value = sym (count_end _ _ _ c.if-m-n.true); upper_bound = omega arith }

-- there is a split
fewer : {h m n : ℕ} → (1 ≤ m) × (m ≤ n) × (n ≤ 2 ^ h) → (m ≡ n → ⊥) → Fewer h m n
fewer range less = record { some = range.0; less = omega arith; few = range.2 }

pub split_size-size-requires : goal.split_size-size-requires
split_size-size-requires t c = fewer_limit (fewer c.requires.le_m c.if-m-n.false) c.requires.height_le_max_height

pub overflow_sub-height : goal.overflow_sub-height
overflow_sub-height t c = omega (arith, fewer_next (fewer c.requires.le_m c.if-m-n.false))

pub sibling_count-requires : goal.sibling_count-requires
sibling_count-requires t c =
    let w = fewer c.requires.le_m c.if-m-n.false in
    (omega (arith, fewer_next w), (omega arith, left_range w _ c.split_size-size.ensures c.if-m-size.true))

pub returns-then-m-size : goal.returns-then-m-size
returns-then-m-size t c =
    let it = counted_left (fewer c.requires.le_m c.if-m-n.false) _ c.split_size-size.ensures _ c.if-m-size.true (c.sibling_count.ensures.value, c.sibling_count.ensures.upper_bound) in
    record { value = it.0; upper_bound = it.1 }

pub overflow_sub-height-2 : goal.overflow_sub-height-2
overflow_sub-height-2 t c = omega (arith, fewer_next (fewer c.requires.le_m c.if-m-n.false))

pub sibling_count-requires-2 : goal.sibling_count-requires-2
sibling_count-requires-2 t c =
    let w = fewer c.requires.le_m c.if-m-n.false in
    (omega (arith, fewer_next w), (omega arith, right_range w _ c.split_size-size.ensures c.if-m-size.false))

pub returns : goal.returns
returns t c =
    let it = counted_right (fewer c.requires.le_m c.if-m-n.false) _ c.split_size-size.ensures _ c.if-m-size.false (c.sibling_count-2.ensures.value, c.sibling_count-2.ensures.upper_bound) in
    record { value = it.0; upper_bound = it.1 }
