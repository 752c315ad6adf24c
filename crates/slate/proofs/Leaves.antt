-- The leaves under a node are a run of positions that ends with its own.
-- Assumes nothing.
use mathlib.Core.List.{List, ◌++◌}
use mathlib.Core.Path.{◌≡◌, refl, ap, ◌∙◌}
use Prim.Native.Nat.{ℕ, zero, suc, ◌+◌, ◌-◌, ◌<◌}
use native.Mathlib.Omega.{arith}
use lib.ListN.{length, get_or, length-append, get_or-append}
use lib.Seq.{get_or-append-add}
use Rattle.slate.specs.Address.{leaves_from}
use Rattle.slate.specs.Claims as claims
use Rattle.slate.specs.Digits.{base, left}
use Rattle.slate.proofs.Addresses.{to_highest}
use Rattle.slate.proofs.Bits.{base_le, base_zero, left_base, left_pred, no_left}
use Rattle.slate.proofs.Cases.{by_digit, by_order}

pub leaves_length : (x h : ℕ) → length (leaves_from x h) + base x h ≡ suc x
unfolding leaves_from
leaves_length x zero = omega (arith, base_zero x)
leaves_length x (suc p) =
    by_digit x p
    (λ d. rw d (omega (arith, leaves_length x p, no_left x p d)))
    (λ d. rw (d, length-append)
    (omega (arith, leaves_length (left x p) p, leaves_length x p, left_base x p d, left_pred x p d)))

pub leaves_at : (x h k : ℕ) → k < length (leaves_from x h) → get_or (leaves_from x h) k 0 ≡ base x h + k
unfolding leaves_from
leaves_at x zero zero lt = omega (arith, base_zero x)
leaves_at x zero (suc k) lt = absurd (omega arith)
leaves_at x (suc p) k lt =
    by_digit x p
    (λ d. rw d (leaves_at x p k (rw d at lt) ∙ omega (arith, no_left x p d)))
    (λ d. rw d
    (by_order k (length (leaves_from (left x p) p))
    (λ l.
    get_or-append (leaves_from (left x p) p) (leaves_from x p) 0 k l
    ∙ leaves_at (left x p) p k l ∙ omega (arith, left_base x p d))
    (λ l.
    let n = length (leaves_from (left x p) p) in
    let e : k ≡ n + (k - n) = omega arith in
    let m : k < length (leaves_from (left x p) p) + length (leaves_from x p) = rw (d, length-append) at lt in
    ap (λ (q : ℕ). get_or (leaves_from (left x p) p ++ leaves_from x p) q 0) e
    ∙ get_or-append-add (leaves_from (left x p) p) (leaves_from x p) (k - n) 0
    ∙ leaves_at x p (k - n) (omega arith)
    ∙ omega (arith, leaves_length (left x p) p, left_base x p d, left_pred x p d))))

pub leaves_under : claims.LeavesUnder
unfolding base
leaves_under i h first =
    (omega (arith, leaves_length (i - 1) h, base_le (i - 1) h), λ k lt. omega (arith, leaves_at (i - 1) h k lt))

pub leaves_of_children : claims.LeavesOfChildren
unfolding base left leaves_from
leaves_of_children = (
  λ i. refl,
  λ m i p at.
      let e = to_highest (i - 1) (leaves_from (i - 1)) (λ q d. rw d) p in
      rw at.node (ap (λ (l : List ℕ). leaves_from (left (i - 1) p) p ++ l) e),
)
