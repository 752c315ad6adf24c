-- A turn for each way, by the laws of DownForms.antt: the height falls.
-- Assumes nothing.
use Rattle.std.proofs.Common.{◌≡◌, ℕ, ◌-◌, ◌≤◌, Bool, List, Result, rules, sym, ◌∙◌, arith}
use Rattle.slate.specs.Address.{highest}
use Rattle.slate.specs.Bytes.{same}
use Rattle.slate.specs.Digits.{max_height}
use Rattle.entry.specs.Read.{left_digest_at}
use Rattle.split.specs.Below.{down, down_of}
use Rattle.split.specs.declared.Leaf.{Leaf}
use Rattle.split.specs.declared.SearchRefusal.{SearchRefusal}
use Rattle.slate.proofs.Addresses.{highest_digit, highest_height}
use Rattle.split.proofs.DownForms.{Node, at_leaf, both_equal, down_reads_le, step_refused, to_right, under_leaf, under_refused}
use Rattle.split.proofs.pair.Pair.+down.Goals as goal

-- the highest node has height k, and the test of its left digests says v
tested : (b c : List ℕ) (o q x h k : ℕ) → k ≡ highest x h → (k ≡ 0 → ⊥) → (r v : Bool)
    → r ≡ same (left_digest_at b o x (k - 1)) (left_digest_at c q x (k - 1)) → r ≡ v → Node b c o q x h k v
tested b c o q x h k is some r v test e = record { top = is; high = some; lefts = sym test ∙ e }

-- the way down from the entries that the left steps read, which lie in the same logs
on : (b c b' c' : List ℕ) (o q x h : ℕ) (w : Result Leaf SearchRefusal) → w ≡ down_of (down b' c' o q x h) → (b' ≡ b) × (c' ≡ c)
    → w ≡ down_of (down b c o q x h)
on b c b' c' o q x h w e s = rw (← s.0, ← s.1) e

pub highest-top-requires : goal.highest-top-requires
unfolding max_height
highest-top-requires t c = omega (arith, c.requires)

pub returns-then-top-eq0 : goal.returns-then-top-eq0
returns-then-top-eq0 t c = at_leaf _ _ _ _ _ _ _ c.highest-top.ensures c.if-top-eq0.true

pub same_left-requires : goal.same_left-requires
same_left-requires t c =
    let le : c.highest-top.result ≤ c.args.height = highest_height _ _ _ c.highest-top.ensures in
    (omega arith, highest_digit _ _ _ c.highest-top.ensures c.if-top-eq0.false)

pub same_top-requires : goal.same_top-requires
same_top-requires t c =
    let le : c.highest-top.result ≤ c.args.height = highest_height _ _ _ c.highest-top.ensures in
    omega arith

-- ---- the left digests are equal

pub returns-then-same_top : goal.returns-then-same_top
returns-then-same_top t c =
    rw c.refusal.ensures
    (both_equal _ _ _ _ _ _ _ (tested _ _ _ _ _ _ _ c.highest-top.ensures c.if-top-eq0.false _ _ c.same_left.ensures c.if-same_left.true) _
    c.same_top.ensures c.if-same_top.true)

pub down-requires : goal.down-requires
down-requires t c =
    let le : c.highest-top.result ≤ c.args.height = highest_height _ _ _ c.highest-top.ensures in
    (omega arith, omega arith)

pub returns-then-same_left : goal.returns-then-same_left
returns-then-same_left t c =
    to_right _ _ _ _ _ _ _ (tested _ _ _ _ _ _ _ c.highest-top.ensures c.if-top-eq0.false _ _ c.same_left.ensures c.if-same_left.true) _
    c.same_top.ensures c.if-same_top.false _ c.down.ensures

-- ---- they differ

pub left_step-requires : goal.left_step-requires
left_step-requires t c =
    let le : c.highest-top.result ≤ c.args.height = highest_height _ _ _ c.highest-top.ensures in
    (omega arith, highest_digit _ _ _ c.highest-top.ensures c.if-top-eq0.false)

pub returns-in_err-child : goal.returns-in_err-child
returns-in_err-child t c =
    let e =
    step_refused _ _ _ _ _ _ _ (tested _ _ _ _ _ _ _ c.highest-top.ensures c.if-top-eq0.false _ _ c.same_left.ensures c.if-same_left.false)
    _ c.left_step.ensures.value _ c.in_err-child.was in
    search rules

pub down-requires-2 : goal.down-requires-2
down-requires-2 t c =
    let le : c.highest-top.result ≤ c.args.height = highest_height _ _ _ c.highest-top.ensures in
    (omega arith, omega arith)

pub returns-in_err-leaf : goal.returns-in_err-leaf
returns-in_err-leaf t c =
    let e =
    under_refused _ _ _ _ _ _ _ (tested _ _ _ _ _ _ _ c.highest-top.ensures c.if-top-eq0.false _ _ c.same_left.ensures c.if-same_left.false)
    _ c.left_step.ensures.value _ c.in_ok-child.was _ (on _ _ _ _ _ _ _ _ _ c.down-2.ensures c.in_ok-child.ensures.logs)
    _ c.in_err-leaf.was in
    search rules

pub overflow_add-result : goal.overflow_add-result
unfolding max_height
overflow_add-result t c =
    let le = down_reads_le _ _ _ _ _ _ _ _ c.down-2.ensures c.in_ok-leaf.was in
    omega (arith, le.0, highest_height _ _ _ c.highest-top.ensures, c.requires)

pub overflow_add-result-2 : goal.overflow_add-result-2
unfolding max_height
overflow_add-result-2 t c =
    let le = down_reads_le _ _ _ _ _ _ _ _ c.down-2.ensures c.in_ok-leaf.was in
    omega (arith, le.1, highest_height _ _ _ c.highest-top.ensures, c.requires)

pub returns : goal.returns
returns t c =
    under_leaf _ _ _ _ _ _ _ (tested _ _ _ _ _ _ _ c.highest-top.ensures c.if-top-eq0.false _ _ c.same_left.ensures c.if-same_left.false)
    _ c.left_step.ensures.value _ c.in_ok-child.was _ (on _ _ _ _ _ _ _ _ _ c.down-2.ensures c.in_ok-child.ensures.logs) _ c.in_ok-leaf.was
