-- The highest bit where two numbers differ, and the lowest bit of a number.
-- Assumes nothing.
use mathlib.Core.Path.{◌≡◌, sym, ap, ◌∙◌}
use Prim.Native.Nat.{ℕ, zero, suc, ◌*◌, ◌-◌, ◌+◌, ◌/◌, ◌%◌, ◌^◌, ◌≤◌, ◌<◌}
use native.Mathlib.Decide.{le_ind}
use native.Mathlib.Nat.{div-div-eq-div-mul, div-eq_of_lt, div-one, mod-one, pow-suc, pow-succ'}
use native.Mathlib.Omega.{arith}
use borrow.Author.Tests.{eqb-true, eqb-false}
use lib.Arith.{mod-mul}
use lib.Count.{count_trailing_zeros}
use lib.Dec.{eqb}
use lib.Pow.{pow_pos, shr_mono}
use Rattle.slate.specs.Claims as claims
use Rattle.slate.specs.Digits.{digit, max_height}
use Rattle.slate.specs.Moves.{highest_difference, split_bit}
use Rattle.slate.proofs.Bits.{half}
use Rattle.slate.proofs.Cases.{by_bool, by_order}

-- ---- the highest bit where n and t differ

-- above bit j, n and t are the same; n has bit j, and t has not
pub record Differ (n t j : ℕ) : Type 0 where
  pub above : n / 2 ^ suc j ≡ t / 2 ^ suc j
  pub set : digit n j ≡ 1
  pub clear : digit t j ≡ 0

module _ (n t p : ℕ) (e : n / 2 ^ suc p ≡ t / 2 ^ suc p) where
  same_digit : digit n p ≡ digit t p → n / 2 ^ p ≡ t / 2 ^ p
  unfolding digit
  same_digit d = omega (arith, half n p, half t p)

  other_digit : t < n → (digit n p ≡ digit t p → ⊥) → Differ n t p
  unfolding digit
  other_digit lt d =
      let le : t / 2 ^ p ≤ n / 2 ^ p = shr_mono p (omega arith) in
      record { above = e; set = omega (arith, half n p, half t p); clear = omega (arith, half n p, half t p) }

-- where t is below n, and they are the same from bit h on, the highest difference is a bit of n
pub differ : (n t h : ℕ) → t < n → n / 2 ^ h ≡ t / 2 ^ h → Differ n t (highest_difference n t h)
unfolding highest_difference
differ n t zero lt e = absurd (omega (arith, div-one n, div-one t))
differ n t (suc p) lt e =
    by_bool (eqb (digit n p) (digit t p))
    (λ b. rw b (differ n t p lt (same_digit n t p e (eqb-true _ _ b))))
    (λ b. rw b (other_digit n t p e lt (eqb-false _ _ b)))

highest_le : (n t h : ℕ) → highest_difference n t h ≤ h - 1
unfolding highest_difference
highest_le n t zero = omega arith
highest_le n t (suc p) =
    by_bool (eqb (digit n p) (digit t p)) (λ b. rw b (omega (arith, highest_le n t p))) (λ b. rw b (omega arith))

-- j is the highest bit where n and i − 1 differ: a bit of n
pub split_bit_lem : (n i : ℕ) → 1 ≤ i → i ≤ n → n ≤ 2 ^ max_height → Differ n (i - 1) (split_bit n i)
unfolding split_bit
split_bit_lem n i first last small =
    let twice = pow-suc 2 max_height in
    let some = pow_pos max_height in
    differ n (i - 1) (suc max_height) (omega arith) (div-eq_of_lt (omega arith) ∙ sym (div-eq_of_lt (omega arith)))

-- the same from bit j on: the same from each higher bit on
pub same_above : (n t j h : ℕ) → n / 2 ^ j ≡ t / 2 ^ j → j ≤ h → n / 2 ^ h ≡ t / 2 ^ h
same_above n t j h e le =
    le_ind (λ (m : ℕ). n / 2 ^ m ≡ t / 2 ^ m) e (λ m k d. half n m ∙ ap (λ (q : ℕ). q / 2) d ∙ sym (half t m)) h le

pub split_highest : claims.SplitBit
unfolding digit
split_highest n i first last small =
    let d = split_bit_lem n i first last small in (
      λ e. omega (arith, d.set, d.clear),
      λ p lt. ap (λ (q : ℕ). q % 2) (same_above n (i - 1) (suc (split_bit n i)) p d.above lt),
    )

pub split_le : (n i : ℕ) → split_bit n i ≤ max_height
unfolding split_bit
split_le n i = omega (arith, highest_le n (i - 1) (suc max_height))

-- ---- the trailing zeros of n

half_digit : (n j : ℕ) → digit (n / 2) j ≡ digit n (suc j)
unfolding digit
half_digit n j = ap (λ (q : ℕ). q % 2) (div-div-eq-div-mul n 2 (2 ^ j) ∙ ap (λ (k : ℕ). n / k) (sym (pow-succ' 2 j)))

half_mod : (n j : ℕ) → n % 2 ^ suc j ≡ n / 2 % 2 ^ j * 2 + n % 2
half_mod n j = ap (λ (k : ℕ). n % k) (pow-suc 2 j) ∙ mod-mul n (pow_pos j) (omega arith)

-- bit j is the lowest of n
pub trailing_is : (k n j : ℕ) → j < k → n % 2 ^ j ≡ 0 → digit n j ≡ 1 → count_trailing_zeros k n ≡ j
unfolding count_trailing_zeros digit
trailing_is zero n j lt z d = absurd (omega arith)
trailing_is (suc k) n zero lt z d = let odd : n % 2 ≡ 1 = ap (λ (q : ℕ). q % 2) (sym (div-one n)) ∙ d in rw odd
trailing_is (suc k) n (suc j) lt z d =
    let even : n % 2 ≡ 0 = omega (arith, half_mod n j) in
    rw even (ap suc (trailing_is k (n / 2) j (omega arith) (omega (arith, half_mod n j)) (half_digit n j ∙ d)))

-- n has a bit below bit j
pub trailing_lt : (k n j : ℕ) → j < k → 0 < n % 2 ^ j → count_trailing_zeros k n < j
unfolding count_trailing_zeros
trailing_lt zero n j lt pos = absurd (omega arith)
trailing_lt (suc k) n zero lt pos = absurd (omega (arith, mod-one n))
trailing_lt (suc k) n (suc j) lt pos =
    by_order (n % 2) 1
    (λ h. let even : n % 2 ≡ 0 = omega arith in rw even (omega (arith, trailing_lt k (n / 2) j (omega arith) (omega (arith, half_mod n j)))))
    (λ h. let odd : n % 2 ≡ 1 = omega arith in rw odd (omega arith))
