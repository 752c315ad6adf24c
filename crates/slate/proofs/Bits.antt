-- Binary digits of a position: the blocks of 2 ^ p positions, the left child, the number of ones, and the next position.
-- Assumes nothing.
use mathlib.Core.Logic.{⊎_elim}
use mathlib.Core.Path.{◌≡◌, sym, ap, ap₂, ◌∙◌}
use Prim.Native.Nat.{ℕ, zero, suc, ◌+◌, ◌*◌, ◌-◌, ◌/◌, ◌%◌, ◌^◌, ◌≤◌, ◌<◌}
use native.Mathlib.Decide.{le_ind}
use native.Mathlib.Nat.{add-mul, div-add-mod', div-div-eq-div-mul, div-eq_of_lt, div-eq_of_lt-le, div-mul-le_self, div-one, eq-zero-or-pos, lt-div-mul-add, mod-eq_of_lt, mod-lt, mod-one, mul-one, pow-suc, pow-succ', suc-mul, zero-mul}
use native.Mathlib.Omega.{arith}
use lib.Arith.{mod-mul}
use lib.Count.{ones, ones_in, ones_cat}
use lib.Pow.{pow_pos}
use Rattle.slate.specs.Digits.{base, digit, left, ones_below}
use Rattle.slate.proofs.Cases.{by_digit}

-- halving once more
pub half : (x p : ℕ) → x / 2 ^ suc p ≡ x / 2 ^ p / 2
half x p = ap (λ (k : ℕ). x / k) (pow-suc 2 p) ∙ sym (div-div-eq-div-mul x (2 ^ p) 2)

-- twice as many blocks of half the length
twice : (q p : ℕ) → q * 2 ^ suc p ≡ q * 2 * 2 ^ p
twice q p = rw (pow-suc 2 p) (omega arith)

-- the quotient of a number in block a
pub in_block : (a t p : ℕ) → a * 2 ^ p ≤ t → t < a * 2 ^ p + 2 ^ p → t / 2 ^ p ≡ a
in_block a t p low high = div-eq_of_lt-le (2 ^ p) low (omega (arith, add-mul a 1 (2 ^ p)))

-- ---- the block of 2 ^ p positions around x

pub base_le : (x p : ℕ) → base x p ≤ x
unfolding base
base_le x p = div-mul-le_self x (2 ^ p)

pub base_zero : (x : ℕ) → base x 0 ≡ x
unfolding base
base_zero x = mul-one (x / 1) ∙ div-one x

pub base_gt : (x p : ℕ) → x < base x p + 2 ^ p
unfolding base
base_gt x p = lt-div-mul-add (pow_pos p)

pub whole_base : (x h : ℕ) → x < 2 ^ h → base x h ≡ 0
unfolding base
whole_base x h lt = rw (div-eq_of_lt lt) (zero-mul (2 ^ h))

-- the positions of a block have one start
pub base_same : (x y p : ℕ) → base x p ≤ y → y < base x p + 2 ^ p → base y p ≡ base x p
unfolding base
base_same x y p low high = ap (λ (q : ℕ). q * 2 ^ p) (in_block (x / 2 ^ p) y p low high)

-- and so have those from the start of x's block up to x
pub block_same : (x p t : ℕ) → base x p ≤ t → t ≤ x → base t p ≡ base x p
block_same x p t low high = base_same x t p low (omega (arith, base_gt x p))

base_twice : (x p : ℕ) → base x (suc p) ≡ x / 2 ^ p / 2 * 2 * 2 ^ p
unfolding base
base_twice x p = ap (λ (q : ℕ). q * 2 ^ suc p) (half x p) ∙ twice (x / 2 ^ p / 2) p

-- the block of 2 ^ (p + 1) begins where the block of 2 ^ p begins, or 2 ^ p before
pub base_step : (x p : ℕ) → base x p ≡ base x (suc p) + digit x p * 2 ^ p
unfolding base digit
base_step x p =
    ap (λ (q : ℕ). q * 2 ^ p) (sym (div-add-mod' (x / 2 ^ p) 2)) ∙ add-mul (x / 2 ^ p / 2 * 2) (x / 2 ^ p % 2) (2 ^ p)
    ∙ ap (λ (k : ℕ). k + x / 2 ^ p % 2 * 2 ^ p) (sym (base_twice x p))

pub left_end : (x p : ℕ) → digit x p ≡ 1 → base x p ≡ base x (suc p) + 2 ^ p
left_end x p d = omega (arith, rw d at (base_step x p))

pub no_left : (x p : ℕ) → digit x p ≡ 0 → base x p ≡ base x (suc p)
no_left x p d = omega (arith, rw d at (base_step x p))

pub left_pos : (x p : ℕ) → digit x p ≡ 1 → 0 < base x p
left_pos x p d = omega (arith, left_end x p d, pow_pos p)

-- ---- the left child of the node of height p + 1 at position x

-- the first half of the block of 2 ^ (p + 1)
first_half : (x p t : ℕ) → base x (suc p) ≤ t → t < base x (suc p) + 2 ^ p → t / 2 ^ p ≡ x / 2 ^ p / 2 * 2
first_half x p t low high =
    in_block (x / 2 ^ p / 2 * 2) t p (omega (arith, base_twice x p)) (omega (arith, base_twice x p))

pub left_start : (x p : ℕ) → digit x p ≡ 1 → base (base x p - 1) p ≡ base x (suc p)
unfolding base
left_start x p d =
    let e : base x p ≡ base x (suc p) + 2 ^ p = left_end x p d in
    ap (λ (q : ℕ). q * 2 ^ p) (first_half x p (base x p - 1) (omega (arith, e, pow_pos p)) (omega (arith, e, pow_pos p)))
    ∙ sym (base_twice x p)

pub left_pred : (x p : ℕ) → digit x p ≡ 1 → suc (left x p) ≡ base x p
unfolding left
left_pred x p d = omega (arith, left_pos x p d)

pub left_base : (x p : ℕ) → digit x p ≡ 1 → base (left x p) p ≡ base x (suc p)
unfolding left
left_base x p d = left_start x p d

pub left_lt : (x p : ℕ) → digit x p ≡ 1 → left x p < x
left_lt x p d = omega (arith, left_pred x p d, base_le x p)

-- the left child of a node above height 1 is a node, one lower
pub left_present : (x p : ℕ) → digit x (suc p) ≡ 1 → digit (left x (suc p)) p ≡ 1
left_present x p d =
    by_digit (left x (suc p)) p
    (λ z. absurd (omega (arith, left_pred x (suc p) d, left_end x (suc p) d, left_base x (suc p) d, no_left (left x (suc p)) p z, base_gt (left x (suc p)) p, pow-suc 2 p, pow_pos p)))
    (λ s. s)

-- left of the middle, t lies under the left child
pub base_under : (x p t : ℕ) → digit x p ≡ 1 → base x (suc p) ≤ t → t < base x p → (base (left x p) p ≤ t) × (t ≤ left x p)
base_under x p t d low high = (omega (arith, left_base x p d), omega (arith, left_pred x p d))

-- digit p of a leaf t under the node of height p + 1 at position x is set exactly right of the middle; there is no middle where digit p of x
-- is not set
pub under_none : (x p t : ℕ) → digit x p ≡ 0 → base x (suc p) ≤ t → t ≤ x → digit t p ≡ 0
under_none x p t d low high =
    by_digit t p (λ z. z)
    (λ s. absurd (omega (arith, left_end t p s, base_le t p, no_left x p d, block_same x (suc p) t low high, base_gt x p, pow_pos p)))

pub under_left : (x p t : ℕ) → digit x p ≡ 1 → base x (suc p) ≤ t → t < base x p → digit t p ≡ 0
under_left x p t d low high =
    by_digit t p (λ z. z)
    (λ s. absurd (omega (arith, left_end t p s, base_le t p, base_le x p, left_end x p d, block_same x (suc p) t low (omega (arith, base_le x p)))))

pub under_right : (x p t : ℕ) → digit x p ≡ 1 → base x p ≤ t → t ≤ x → digit t p ≡ 1
under_right x p t d low high =
    by_digit t p
    (λ z. absurd (omega (arith, no_left t p z, left_end x p d, pow_pos p, block_same x p t low high, block_same x (suc p) t (omega (arith, left_end x p d)) high)))
    (λ s. s)

-- ---- the number of ones

pub mod_step : (x p : ℕ) → x % 2 ^ suc p ≡ digit x p * 2 ^ p + x % 2 ^ p
unfolding digit
mod_step x p = ap (λ (k : ℕ). x % k) (pow-succ' 2 p) ∙ mod-mul x (omega arith) (pow_pos p)

ones_digit : (x p : ℕ) → ones (digit x p) ≡ digit x p
unfolding ones ones_in
ones_digit x p = by_digit x p (λ d. rw d) (λ d. rw d)

pub ones_below_mod : (x h : ℕ) → ones_below x h ≡ ones (x % 2 ^ h)
unfolding ones ones_below
ones_below_mod x zero = ap ones (sym (mod-one x))
ones_below_mod x (suc p) =
    ap₂ (λ (a b : ℕ). a + b) (sym (ones_digit x p)) (ones_below_mod x p)
    ∙ sym (ones_cat p (digit x p) (x % 2 ^ p) (mod-lt x (pow_pos p))) ∙ ap ones (sym (mod_step x p))

pub ones_below_all : (x h : ℕ) → x < 2 ^ h → ones_below x h ≡ ones x
ones_below_all x h lt = ones_below_mod x h ∙ ap ones (mod-eq_of_lt lt)

pub ones_below_le : (x h : ℕ) → ones_below x h ≤ h
unfolding ones_below
ones_below_le x zero = omega arith
ones_below_le x (suc p) = by_digit x p (λ d. omega (arith, ones_below_le x p)) (λ d. omega (arith, ones_below_le x p))

pub ones_below_mono : (x p h : ℕ) → p ≤ h → ones_below x p ≤ ones_below x h
unfolding ones_below
ones_below_mono x p h le = le_ind (λ (m : ℕ). ones_below x p ≤ ones_below x m) (omega arith) (λ m k e. omega arith) h le

-- ---- the next position: a block goes on, or a new one begins with it

pub next_inside : (y p : ℕ) → 0 < suc y % 2 ^ p → suc y / 2 ^ p ≡ y / 2 ^ p
next_inside y p pos =
    sym (in_block (suc y / 2 ^ p) y p (omega (arith, div-add-mod' (suc y) (2 ^ p))) (omega (arith, div-add-mod' (suc y) (2 ^ p), mod-lt (suc y) (pow_pos p))))

pub next_at_lem : (y p : ℕ) → suc y % 2 ^ p ≡ 0 → base (suc y) p ≡ suc y
unfolding base
next_at_lem y p e = omega (arith, div-add-mod' (suc y) (2 ^ p))

pub next_turns : (y p : ℕ) → suc y % 2 ^ p ≡ 0 → suc y / 2 ^ p ≡ suc (y / 2 ^ p)
next_turns y p e = turn (suc y / 2 ^ p) (omega (arith, div-add-mod' (suc y) (2 ^ p)))
  where
    turn : (q : ℕ) → q * 2 ^ p ≡ suc y → q ≡ suc (y / 2 ^ p)
    turn zero z = absurd (omega arith)
    turn (suc q) z = ap suc (sym (in_block q y p (omega (arith, suc-mul q (2 ^ p), pow_pos p)) (omega (arith, suc-mul q (2 ^ p)))))

pub next_same : (y p : ℕ) → digit (suc y) p ≡ 1 → digit y p ≡ 1 → base (suc y) p ≡ base y p
unfolding digit base
next_same y p s d =
    ⊎_elim (λ z. absurd (omega (arith, next_turns y p z))) (λ z. ap (λ (q : ℕ). q * 2 ^ p) (next_inside y p z)) (eq-zero-or-pos (suc y % 2 ^ p))

pub next_new : (y p : ℕ) → digit (suc y) p ≡ 1 → digit y p ≡ 0 → base (suc y) p ≡ suc y
unfolding digit
next_new y p s d =
    ⊎_elim (next_at_lem y p) (λ z. absurd (omega (arith, next_inside y p z))) (eq-zero-or-pos (suc y % 2 ^ p))
