-- Each turn is at the next entry under the node, and has the digests of its left children, by the laws of LeftForms.antt.
-- Assumes nothing.
use Rattle.std.proofs.Common.{◌≡◌, ℕ, ◌+◌, ◌≤◌, ◌<◌, refl, sym, ap, ◌∙◌, arith}
use lib.Count.{count_trailing_zeros}
use Rattle.slate.specs.Digits.{base, max_height}
use Rattle.slate.proofs.Bits.{base_le}
use Rattle.rfc6962.proofs.LeftForms.{lefts_first, lefts_next, lowest_inside}
use Rattle.rfc6962.proofs.whole.WholeEntry.digest_under.Goals as goal
use Rattle.rfc6962.proofs.whole.WholeEntry.digest_under.Goals.{At-loop-x}

-- the height of the node that ends at position y of a turn
low : (x h y : ℕ) → h ≤ max_height → base x h ≤ y → y < x → count_trailing_zeros 32 (y + 1) < h
unfolding max_height
low x h y le first lt = lowest_inside x h y (omega arith) first lt

pub loop-x-init : goal.loop-x-init
unfolding max_height
loop-x-init c =
    let f = c.first_under-entry.ensures in
    (f.log, f.position ∙ sym c.base-x.ensures, lefts_first _ _ _ _ _ c.base-x.ensures refl)

-- the last turn's node has a digest of its left child
below : (c : At-loop-x) → c.loop-x.x < c.args.self.now.position → count_trailing_zeros 32 (c.loop-x.x + 1) < c.args.height
below c lt = low _ _ _ c.requires (omega (arith, c.base-x.ensures)) lt

pub digest_over-requires : goal.digest_over-requires
digest_over-requires c =
    let v = c.loop-x.invariant in
    let b = below (goal.at.digest_over-requires c).At-loop-x c.loop-x-test.true in
    record {
      height_le_max_height = omega (arith, b, c.requires);
      by_index = λ p lt d. rw (v.0, v.1) (v.2.each p (omega (arith, b)) (rw v.1 at d));
    }

pub bounds-lefts-p : goal.bounds-lefts-p
unfolding max_height
bounds-lefts-p c = omega (arith, c.requires, below (goal.at.bounds-lefts-p c).At-loop-x c.loop-x-test.true)

pub loop-x-preserved : goal.loop-x-preserved
loop-x-preserved c =
    let v = c.loop-x.invariant in
    let n = c.next-entry.ensures in (
      n.log ∙ v.0,
      n.position ∙ ap (λ (y : ℕ). y + 1) v.1,
      lefts_next _ _ _ _ c.requires v.2 _ refl (below (goal.at.loop-x-preserved c).At-loop-x c.loop-x-test.true) _
          (rw (v.0, v.1) at c.digest_over.ensures),
    )

pub digest_over-requires-2-clause-by_index : goal.digest_over-requires-2-clause-by_index
digest_over-requires-2-clause-by_index c =
    let last : c.loop-x.x ≡ c.args.self.now.position = omega (arith, c.loop-x-test.false, c.base-x.ensures, base_le c.args.self.now.position c.args.height) in
    rw last at c.loop-x.invariant.2.each
