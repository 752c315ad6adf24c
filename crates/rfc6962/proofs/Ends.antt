-- The way down from a node to the end of the first t + 1 values: it ends at the subtree whose last value is at position t. With m values up
-- to t and n values in all under the node, the RFC asks m = n there, and m <= k where the way goes left.
-- Assumes nothing.
use mathlib.Core.Bool.{true, false}
use mathlib.Core.Path.{◌≡◌}
use Prim.Native.Nat.{ℕ, suc, ◌-◌, ◌^◌, ◌≤◌, ◌<◌}
use native.Mathlib.Omega.{arith}
use borrow.Author.Tests.{le-leb, lt-leb, ne_eqb}
use lib.Dec.{eqb, leb}
use Rattle.slate.specs.Digits.{base, digit, left}
use Rattle.slate.proofs.Bits.{base_under, base_zero, left_base, left_end, left_pred, no_left}
use Rattle.slate.proofs.Cases.{by_order}
use Rattle.rfc6962.proofs.Splits.{few_left, few_right, size, to_splits, up_to}

-- what holds where the way ends, and one node higher where it holds below it, on the side of t
pub to_end {ℓ} : {P : ℕ → ℕ → ℕ → Type ℓ} (t : ℕ)
    → ((h f : ℕ) → P t h f)
    → ((x p f : ℕ) → base x (suc p) ≤ t → t < x → digit x p ≡ 0 → P x p f → P x (suc p) f)
    → ((x p f : ℕ) → base x (suc p) ≤ t → t < x → digit x p ≡ 1 → t < base x p → size (left x p) p ≤ 2 ^ f
    → P (left x p) p f → P x (suc p) (suc f))
    → ((x p f : ℕ) → base x (suc p) ≤ t → t < x → digit x p ≡ 1 → base x p ≤ t → size x p ≤ 2 ^ f → P x p f → P x (suc p) (suc f))
    → (x h f : ℕ) → size x h ≤ 2 ^ f → base x h ≤ t → t ≤ x → P x h f
to_end {P = P} t here none on_left on_right x h f le =
    to_splits {P = λ x h f. size x h ≤ 2 ^ f → base x h ≤ t → t ≤ x → P x h f}
    (λ x f le low high. at x 0 f high (omega (arith, base_zero x)))
    (λ x p f d r le low high. by_order t x
    (λ q. none x p f low q d (r (omega (arith, no_left x p d)) (omega (arith, no_left x p d)) high))
    (at x (suc p) f high))
    (λ x p f d l r le low high.
    let w = few_left x p f d le in
    let v = few_right x p f d le in
    by_order t x
    (λ q. by_order t (base x p)
    (λ o. on_left x p f low q d o w (l w (base_under x p t d low o).0 (base_under x p t d low o).1))
    (λ o. on_right x p f low q d o v (r v o high)))
    (at x (suc p) (suc f) high))
    x h f le le
  where
    at : (x h f : ℕ) → t ≤ x → x ≤ t → P x h f
    at x h f high q = let e : x ≡ t = omega arith in rw e (here h f)

-- ---- the RFC's tests at a node on the way

module _ (t x p : ℕ) (low : base x (suc p) ≤ t) where
  pub not_end : t < x → eqb (up_to t x (suc p)) (size x (suc p)) ≡ false
  not_end q = ne_eqb (up_to t x (suc p)) (size x (suc p)) (λ e. omega arith)

  pub goes_left : digit x p ≡ 1 → t < base x p → leb (up_to t x (suc p)) (2 ^ p) ≡ true
  goes_left d o = le-leb (up_to t x (suc p)) (2 ^ p) (omega (arith, left_end x p d))

  pub goes_right : digit x p ≡ 1 → base x p ≤ t → leb (up_to t x (suc p)) (2 ^ p) ≡ false
  goes_right d o = lt-leb (up_to t x (suc p)) (2 ^ p) (omega (arith, left_end x p d))

-- ---- the numbers of its children

pub up_to_left : (t x p : ℕ) → digit x p ≡ 1 → up_to t (left x p) p ≡ up_to t x (suc p)
up_to_left t x p d = omega (arith, left_base x p d)

pub up_to_right : (t x p : ℕ) → digit x p ≡ 1 → up_to t x (suc p) - 2 ^ p ≡ up_to t x p
up_to_right t x p d = omega (arith, left_end x p d)

pub left_full : (x p : ℕ) → digit x p ≡ 1 → size (left x p) p ≡ 2 ^ p
left_full x p d = omega (arith, left_base x p d, left_pred x p d, left_end x p d)
