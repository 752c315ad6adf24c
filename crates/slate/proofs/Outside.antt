-- The subtrees outside a run of positions: none of their leaves is in it. In the path of one value those outside its own position are cut off.
-- Assumes nothing.
use mathlib.Core.Bool.{true, false}
use mathlib.Core.Logic.{inl, inr, ⊎_elim}
use mathlib.Core.Path.{◌≡◌}
use Prim.Native.Nat.{ℕ, ◌≤◌, ◌<◌}
use native.Mathlib.Omega.{arith}
use borrow.Author.Tests.{le-leb, le-ltb, lt-leb, lt-ltb}
use lib.Dec.{ltb}
use Rattle.slate.specs.Claims as claims
use Rattle.slate.specs.Digits.{base}
use Rattle.slate.specs.PartialTree.{outside}
use Rattle.slate.proofs.Bits.{base_zero}
use Rattle.slate.proofs.Cases.{by_bool, by_order, true_false}

module _ (a e x h : ℕ) where
  pub outside_before : x < a → outside a e x h ≡ true
  unfolding outside
  outside_before o = rw (lt-ltb x a o)

  pub outside_behind : e ≤ base x h → outside a e x h ≡ true
  unfolding outside
  outside_behind o = by_bool (ltb x a) (λ t. rw t) (λ t. rw (t, le-leb e (base x h) o))

  pub not_outside : a ≤ x → base x h < e → outside a e x h ≡ false
  unfolding outside
  not_outside o q = rw (le-ltb x a o, lt-leb e (base x h) q)

  pub outside_false : outside a e x h ≡ false → (a ≤ x) × (base x h < e)
  outside_false t =
      by_order x a
      (λ o. true_false (outside_before o) t)
      (λ o. by_order (base x h) e (λ q. (o, q)) (λ q. true_false (outside_behind q) t))

pub outside_steady : (a e x h y : ℕ) → outside a e x h ≡ true → base x h ≤ y → y ≤ x → outside a e y 0 ≡ true
outside_steady a e x h y t low high =
    by_bool (outside a e y 0)
    (λ q. q)
    (λ q. true_false t (not_outside a e x h (omega (arith, outside_false a e y 0 q)) (omega (arith, base_zero y, outside_false a e y 0 q))))

pub outside_exactly : claims.OutsideExactly
outside_exactly a e x h = (
  λ t. by_order x a inl (λ o. by_order (base x h) e (λ q. true_false t (not_outside a e x h o q)) inr),
  ⊎_elim (outside_before a e x h) (outside_behind a e x h),
)
