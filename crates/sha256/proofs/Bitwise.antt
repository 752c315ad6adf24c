-- Formulas of ⊕, ∧ and ¬ that agree on the digits 0 and 1 agree on all words. A rotation distributes over ⊕, and two
-- rotations add up.
-- Assumes nothing.
use Rattle.std.proofs.Common.{◌≡◌, ℕ, zero, suc, ◌+◌, ◌-◌, ◌*◌, ◌/◌, ◌%◌, ◌^◌, ◌<◌, ◌≤◌, sym, ap, ◌∙◌, ap₂, add-zero, mod-lt, mul_assoc, div-lt_iff_lt-mul, add_comm, pow-suc, mul-div_cancel, arith, pow_pos, pow-add, shr-shr}
use native.Mathlib.Nat.{mul-add-div_right, mul-add-mod_self_right, mul-mod_left}
use lib.Arith.{mod-mul}
use lib.Bits.{bit_and, bit_xor, and_block, and_lt, or_lt, or_shifted_r, xor_block, xor_comm, xor_lt, xor_mod, xor_shr}
use lib.Pow.{mod-pow-add, ones_sub-lt, shr_le}
use Rattle.sha256.specs.Claims as claims
use Rattle.sha256.specs.Fips180.{rotr, Ch, Maj}

-- a formula of three words
infixl 60 ◌and◌
infixl 50 ◌xor◌
data Formula : Type 0 where
  X : Formula
  Y : Formula
  Z : Formula
  not : Formula → Formula
  ◌and◌ : Formula → Formula → Formula
  ◌xor◌ : Formula → Formula → Formula

-- its value at words of k digits
abbrev value : ℕ → Formula → ℕ → ℕ → ℕ → ℕ
value k X x y z = x
value k Y x y z = y
value k Z x y z = z
value k (not p) x y z = (2 ^ k - 1) - value k p x y z
value k (p and q) x y z = bit_and (value k p x y z) (value k q x y z)
value k (p xor q) x y z = bit_xor (value k p x y z) (value k q x y z)

-- three words of k digits
record Words (k x y z : ℕ) : Type 0 where
  x_fits : x < 2 ^ k
  y_fits : y < 2 ^ k
  z_fits : z < 2 ^ k

value_lt : {k x y z : ℕ} → Words k x y z → (p : Formula) → value k p x y z < 2 ^ k
value_lt w X = w.x_fits
value_lt w Y = w.y_fits
value_lt w Z = w.z_fits
value_lt {k} w (not p) = ones_sub-lt k _
value_lt {k} w (p and q) = and_lt k _ _ (value_lt w p) (value_lt w q)
value_lt {k} w (p xor q) = xor_lt k _ _ (value_lt w p) (value_lt w q)

module _ (k x y z : ℕ) (w : Words (suc k) x y z) where
  halves : Words k (x / 2) (y / 2) (z / 2)
  halves = omega (arith, pow-suc 2 k)

  last : Words 1 (x % 2) (y % 2) (z % 2)
  last = omega arith

  -- the last digit, and those before it, are worked on apart
  value_step : (p : Formula) → value (suc k) p x y z ≡ value k p (x / 2) (y / 2) (z / 2) * 2 + value 1 p (x % 2) (y % 2) (z % 2)
  value_step X = omega arith
  value_step Y = omega arith
  value_step Z = omega arith
  value_step (not p) = omega (arith, pow-suc 2 k, value_step p, value_lt halves p, value_lt last p)
  value_step (p and q) = ap₂ bit_and (value_step p) (value_step q) ∙ and_block 1 _ _ _ _ (value_lt last p) (value_lt last q)
  value_step (p xor q) = ap₂ bit_xor (value_step p) (value_step q) ∙ xor_block 1 _ _ _ _ (value_lt last p) (value_lt last q)

-- P holds of both digits
record Digits (P : ℕ → Type 0) : Type 0 where
  of_0 : P 0
  of_1 : P 1

of_digit : {P : ℕ → Type 0} → Digits P → (a : ℕ) → a < 2 → P a
of_digit d zero l = d.of_0
of_digit d (suc zero) l = d.of_1
of_digit d (suc (suc a)) l = absurd (omega arith)

-- formulas that agree on the digits agree on all words
module _ (p q : Formula) (agree : Digits (λ a. Digits (λ b. Digits (λ c. value 1 p a b c ≡ value 1 q a b c)))) where
  by_digits : (k x y z : ℕ) → Words k x y z → value k p x y z ≡ value k q x y z
  by_digits zero x y z w = omega (arith, value_lt w p, value_lt w q)
  by_digits (suc k) x y z w =
      value_step k x y z w p
      ∙ ap₂ (λ (h l : ℕ). h * 2 + l) (by_digits k (x / 2) (y / 2) (z / 2) (halves k x y z w))
      (of_digit (of_digit (of_digit agree (x % 2) (omega arith)) (y % 2) (omega arith)) (z % 2) (omega arith))
      ∙ sym (value_step k x y z w q)

module _ {x y z : ℕ} (a : x < 2 ^ 32) (b : y < 2 ^ 32) (c : z < 2 ^ 32) where
  pub ch_by_one_and : bit_xor z (bit_and x (bit_xor y z)) ≡ Ch x y z
  ch_by_one_and = by_digits (Z xor X and (Y xor Z)) (X and Y xor not X and Z) (search) 32 x y z (omega arith)

  pub maj_by_one_and : bit_xor y (bit_and (bit_xor x y) (bit_xor y z)) ≡ Maj x y z
  maj_by_one_and = by_digits (Y xor (X xor Y) and (Y xor Z)) (X and Y xor X and Z xor Y and Z) (search) 32 x y z (omega arith)

  xor_reversed : bit_xor (bit_xor z y) x ≡ bit_xor (bit_xor x y) z
  xor_reversed = by_digits (Z xor Y xor X) (X xor Y xor Z) (search) 32 x y z (omega arith)

module _ (n k : ℕ) (e : n + k ≡ 32) where
  word_parts : 2 ^ 32 ≡ 2 ^ n * 2 ^ k
  word_parts = ap (λ (l : ℕ). 2 ^ l) (sym e) ∙ pow-add 2 n k

  shr_lt : {x : ℕ} → x < 2 ^ 32 → x / 2 ^ n < 2 ^ k
  shr_lt h = (div-lt_iff_lt-mul (pow_pos n)).1 (omega (arith, word_parts))

  -- the last n digits come first
  rotr_is : {x : ℕ} → x < 2 ^ 32 → rotr n x ≡ x % 2 ^ n * 2 ^ k + x / 2 ^ n
  rotr_is {x} h =
      let f : 32 - n ≡ k = omega arith in
      rw (f, word_parts, mod-mul (x * 2 ^ k) (pow_pos n) (pow_pos k), mul-div_cancel x (pow_pos k), mul-mod_left, add-zero)
      (or_shifted_r _ k _ (shr_lt h))

  -- a rotation distributes over ⊕
  rotr_xor : {x y : ℕ} → x < 2 ^ 32 → y < 2 ^ 32 → rotr n (bit_xor x y) ≡ bit_xor (rotr n x) (rotr n y)
  rotr_xor {x} {y} h j =
      rw (rotr_is (xor_lt 32 x y h j), rotr_is h, rotr_is j, xor_mod, xor_shr) (sym (xor_block k _ _ _ _ (shr_lt h) (shr_lt j)))

rotr_lt : (n : ℕ) {x : ℕ} → x < 2 ^ 32 → rotr n x < 2 ^ 32
rotr_lt n {x} h = or_lt 32 (x / 2 ^ n) _ (omega (arith, shr_le x n)) (mod-lt _ (pow_pos 32))

-- two rotations add up
rotr_rotr : (n m : ℕ) {x : ℕ} → n + m ≤ 32 → x < 2 ^ 32 → rotr n (rotr m x) ≡ rotr (n + m) x
rotr_rotr n m {x} l h =
    let k : ℕ = 32 - (n + m) in
    rw (rotr_is n (m + k) (omega arith) (rotr_lt m h), rotr_is m (k + n) (omega arith) h, rotr_is (n + m) k (omega arith) h)
    (rw (pow-add 2 k n, ← mul_assoc, pow-add 2 m k, mul-add-mod_self_right, mul-add-div_right (pow_pos n))
    (rw (mod-pow-add x n m, add_comm n m, ← shr-shr x m n) (omega arith)))

-- x, rotated by m, is rotated by n more together with y
rotr_sum : (n m : ℕ) {x y : ℕ} → n + m ≤ 32 → x < 2 ^ 32 → y < 2 ^ 32
    → rotr n (bit_xor (rotr m x) y) ≡ bit_xor (rotr (n + m) x) (rotr n y)
rotr_sum n m l h j = rw (rotr_xor n (32 - n) (omega arith) (rotr_lt m h) j, rotr_rotr n m l h)

-- the ⊕ of two and of three rotations of x, each reached by way of the one before
pub two_rotations : (i j : ℕ) {x : ℕ} → i + j ≤ 32 → x < 2 ^ 32 → rotr i (bit_xor (rotr j x) x) ≡ bit_xor (rotr i x) (rotr (i + j) x)
two_rotations i j {x} l h = rotr_sum i j l h h ∙ xor_comm (rotr (i + j) x) (rotr i x)

pub three_rotations : (i j k : ℕ) {x : ℕ} → i + j + k ≤ 32 → x < 2 ^ 32
    → rotr i (bit_xor (rotr j (bit_xor (rotr k x) x)) x) ≡ bit_xor (bit_xor (rotr i x) (rotr (i + j) x)) (rotr (i + j + k) x)
three_rotations i j k l h =
    rw (rotr_sum i j (omega arith) (xor_lt 32 _ _ (rotr_lt k h) h) h, rotr_sum (i + j) k l h h)
    (xor_reversed (rotr_lt i h) (rotr_lt (i + j) h) (rotr_lt (i + j + k) h))

-- of words the operations make words
pub words_made : claims.WordsMade
words_made n x y h j =
    (mod-lt _ (pow_pos 32), mod-lt _ (pow_pos 32), omega (arith, shr_le x n), rotr_lt n h, ones_sub-lt 32 x)

pub complement : claims.Complement
complement x h = omega arith

pub rotation : claims.Rotation
rotation n x l h = rotr_is n (32 - n) (omega arith) h
