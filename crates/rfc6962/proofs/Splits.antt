-- The split of n values: k is the largest power of two smaller than n, and over the values under a node of height p + 1 it is 2 ^ p. So what
-- holds by the RFC's recursion holds for every node of the tree by heights.
-- Assumes nothing.
use mathlib.Core.Path.{◌≡◌}
use Prim.Native.Nat.{ℕ, zero, suc, ◌*◌, ◌-◌, ◌^◌, ◌≤◌, ◌<◌}
use native.Mathlib.Nat.{pow-suc}
use native.Mathlib.Omega.{arith}
use borrow.Author.Tests.{le-ltb, lt-ltb}
use lib.Pow.{pow_mono, pow_pos}
use Rattle.slate.specs.Digits.{base, digit, left}
use Rattle.slate.proofs.Bits.{base_gt, base_le, left_base, left_end, left_pred, no_left}
use Rattle.slate.proofs.Cases.{by_digit, by_order}
use Rattle.rfc6962.specs.Claims as claims
use Rattle.rfc6962.specs.Rfc6962.{power_below, split_height}

pub below_power : (n : ℕ) → n < 2 ^ n
below_power zero = omega arith
below_power (suc n) = omega (arith, below_power n, pow-suc 2 n)

-- ---- the largest power of two smaller than n

power_largest : (n h : ℕ) → 2 ≤ n → n ≤ 2 ^ h → (2 ^ power_below n h < n) × (n ≤ 2 * 2 ^ power_below n h)
unfolding power_below
power_largest n zero some few = absurd (omega arith)
power_largest n (suc p) some few =
    by_order (2 ^ p) n
    (λ o. rw (lt-ltb (2 ^ p) n o) (o, omega (arith, pow-suc 2 p)))
    (λ o. rw (le-ltb (2 ^ p) n o) (power_largest n p some o))

pub split_largest : claims.SplitLargest
unfolding split_height
split_largest n some = power_largest n n some (omega (arith, below_power n))

power_is : (n p h : ℕ) → 2 ^ p < n → n ≤ 2 ^ suc p → p < h → power_below n h ≡ p
unfolding power_below
power_is n p zero a b l = absurd (omega arith)
power_is n p (suc q) a b l =
    by_order p q
    (λ o. let m : 2 ^ suc p ≤ 2 ^ q = pow_mono o in rw (le-ltb (2 ^ q) n (omega arith)) (power_is n p q a b o))
    (λ o. let e : q ≡ p = omega arith in rw (e, lt-ltb (2 ^ p) n a))

-- it is the only one
pub split_is : (n p : ℕ) → 2 ^ p < n → n ≤ 2 ^ suc p → split_height n ≡ p
unfolding split_height
split_is n p a b = power_is n p n a b (omega (arith, below_power p))

-- ---- the values under the highest node of height at most h at position x

-- how many of them are at positions up to t
abbrev pub up_to : ℕ → ℕ → ℕ → ℕ
up_to t x h = suc t - base x h

-- how many there are
abbrev pub size : ℕ → ℕ → ℕ
size x h = up_to x x h

pub node_split : (x p : ℕ) → digit x p ≡ 1 → split_height (size x (suc p)) ≡ p
node_split x p d = split_is (size x (suc p)) p (omega (arith, base_le x p, left_end x p d)) (omega (arith, base_gt x (suc p)))

-- a node with at most 2 ^ (f + 1) values has children with at most 2 ^ f
half : (x p f : ℕ) → digit x p ≡ 1 → size x (suc p) ≤ 2 ^ suc f → 2 ^ p ≤ 2 ^ f
half x p f d le =
    by_order f p
    (λ o. let m : 2 ^ suc f ≤ 2 ^ p = pow_mono o in absurd (omega (arith, base_le x p, left_end x p d)))
    (λ o. pow_mono o)

pub few_left : (x p f : ℕ) → digit x p ≡ 1 → size x (suc p) ≤ 2 ^ suc f → size (left x p) p ≤ 2 ^ f
few_left x p f d le = omega (arith, half x p f d le, left_base x p d, left_pred x p d, left_end x p d)

pub few_right : (x p f : ℕ) → digit x p ≡ 1 → size x (suc p) ≤ 2 ^ suc f → size x p ≤ 2 ^ f
few_right x p f d le = omega (arith, half x p f d le, base_gt x p)

-- what holds of a leaf, and of a node where it holds of its children, with one split less to go
pub to_splits {ℓ} : {P : ℕ → ℕ → ℕ → Type ℓ}
    → ((x f : ℕ) → P x 0 f)
    → ((x p f : ℕ) → digit x p ≡ 0 → P x p f → P x (suc p) f)
    → ((x p f : ℕ) → digit x p ≡ 1 → P (left x p) p f → P x p f → P x (suc p) (suc f))
    → (x h f : ℕ) → size x h ≤ 2 ^ f → P x h f
to_splits {P = P} leaf none node = go
  where
    go : (x h f : ℕ) → size x h ≤ 2 ^ f → P x h f
    go x zero f le = leaf x f
    go x (suc p) zero le =
        by_digit x p
        (λ d. none x p 0 d (go x p 0 (omega (arith, no_left x p d))))
        (λ d. absurd (omega (arith, left_end x p d, base_le x p, pow_pos p)))
    go x (suc p) (suc f) le =
        by_digit x p
        (λ d. none x p (suc f) d (go x p (suc f) (omega (arith, no_left x p d))))
        (λ d. node x p f d (go (left x p) p f (few_left x p f d le)) (go x p f (few_right x p f d le)))
