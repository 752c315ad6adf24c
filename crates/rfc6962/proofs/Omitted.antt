-- Where the digest of the first m values is omitted: the flag of SUBPROOF, which stays on the way left and is false on the way right, is still
-- true at the end exactly where m = n or m is a power of two.
-- Assumes nothing.
use mathlib.Core.Bool.{true, false}
use mathlib.Core.Path.{◌≡◌, refl, sym, ap, ◌∙◌}
use Prim.Native.Nat.{ℕ, zero, suc, ◌+◌, ◌*◌, ◌-◌, ◌/◌, ◌%◌, ◌^◌, ◌≤◌, ◌<◌}
use native.Mathlib.Nat.{pow-suc}
use native.Mathlib.Omega.{arith}
use borrow.Author.Tests.{eq-eqb, ne_eqb}
use lib.Count.{ones, ones_in, ones_cat, ones_step}
use lib.Dec.{eqb}
use lib.Pow.{pow_pos}
use Rattle.slate.specs.Digits.{base, digit, left}
use Rattle.slate.proofs.Bits.{base_gt, base_le, left_end}
use Rattle.slate.proofs.Cases.{by_order}
use Rattle.rfc6962.specs.Consistency.{omitted}
use Rattle.rfc6962.proofs.Ends.{left_full, up_to_left}
use Rattle.rfc6962.proofs.Splits.{size, up_to}

-- ---- a power of two has one bit set

ones_pow : (p : ℕ) → ones (2 ^ p) ≡ 1
ones_pow p =
    let e : 2 ^ p ≡ 1 * 2 ^ p + 0 = omega arith in
    ap ones e ∙ ones_cat p 1 0 (pow_pos p) ∙ (unfold ones ones_in in refl)

ones_some : (k r : ℕ) → r < 2 ^ k → 0 < r → 1 ≤ ones r
ones_some zero r l s = absurd (omega arith)
ones_some (suc k) r l s =
    by_order 0 (r % 2)
    (λ o. omega (arith, ones_step r))
    (λ o. omega (arith, ones_step r, ones_some k (r / 2) (omega (arith, pow-suc 2 k)) (omega arith)))

-- a number between two powers has more
ones_more : (p m : ℕ) → 2 ^ p < m → m < 2 ^ suc p → 2 ≤ ones m
ones_more p m a b =
    let e : m ≡ 1 * 2 ^ p + (m - 2 ^ p) = omega arith in
    let o : ones 1 ≡ 1 = unfold ones ones_in in refl in
    let l : m - 2 ^ p < 2 ^ p = omega (arith, pow-suc 2 p) in
    omega (arith, ap ones e, ones_cat p 1 (m - 2 ^ p) l, ones_some p (m - 2 ^ p) l (omega arith))

-- ---- by the split of n values

pub omitted_other : (m n : ℕ) → (m ≡ n → ⊥) → omitted m n ≡ eqb (ones m) 1
unfolding omitted
omitted_other m n f = rw (ne_eqb m n f)

pub omitted_same : (m n : ℕ) → m ≡ n → omitted m n ≡ true
unfolding omitted
omitted_same m n e = rw (eq-eqb m n e)

omitted_left : (m n p : ℕ) → m ≤ 2 ^ p → 2 ^ p < n → omitted m n ≡ omitted m (2 ^ p)
omitted_left m n p a b =
    omitted_other m n (λ e. omega arith)
    ∙ by_order m (2 ^ p)
    (λ o. sym (omitted_other m (2 ^ p) (λ e. omega arith)))
    (λ o. let e : m ≡ 2 ^ p = omega arith in rw (e, omitted_same (2 ^ p) (2 ^ p) refl, ones_pow p))

omitted_right : (m n p : ℕ) → 2 ^ p < m → m < n → n ≤ 2 ^ suc p → omitted m n ≡ false
omitted_right m n p a b c = omitted_other m n (λ e. omega arith) ∙ ne_eqb (ones m) 1 (λ e. omega (arith, ones_more p m a (omega arith)))

-- ---- at a node on the way to the end of the first t + 1 values

module _ (t x p : ℕ) (low : base x (suc p) ≤ t) (less : t < x) (d : digit x p ≡ 1) where
  pub flag_left : t < base x p → omitted (up_to t x (suc p)) (size x (suc p)) ≡ omitted (up_to t (left x p) p) (size (left x p) p)
  flag_left o =
      rw (up_to_left t x p d, left_full x p d)
      (omitted_left (up_to t x (suc p)) (size x (suc p)) p (omega (arith, left_end x p d)) (omega (arith, left_end x p d, base_le x p)))

  pub flag_right : base x p ≤ t → omitted (up_to t x (suc p)) (size x (suc p)) ≡ false
  flag_right o =
      omitted_right (up_to t x (suc p)) (size x (suc p)) p (omega (arith, left_end x p d)) (omega arith) (omega (arith, base_gt x (suc p)))
