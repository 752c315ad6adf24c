-- The moves from the root of n values to leaf i: document 01's formulas, and the recursion on the height behind them.
use Rattle.std.specs.Prelude.{ℕ, zero, suc, ◌+◌, ◌-◌, ◌/◌, ◌%◌, ◌^◌, eqb, ltb}
use Rattle.std.specs.Int.Count.{ones, count_trailing_zeros}
use Rattle.sha256.specs.Pick.{pick}
use Rattle.slate.specs.Digits.{base, digit, if_set, left, max_height}

-- the highest of the digits below h in which n and t differ
unfoldable pub highest_difference : ℕ → ℕ → ℕ → ℕ
highest_difference n t zero = 0
highest_difference n t (suc p) = pick (eqb (digit n p) (digit t p)) (highest_difference n t p) p

-- j, the highest bit where n and i − 1 differ: n has at most one digit more than a position
unfoldable pub split_bit : ℕ → ℕ → ℕ
split_bit n i = highest_difference n (i - 1) (suc max_height)

-- [j ≠ trailing zeros of n]
unfoldable pub turn : ℕ → ℕ → ℕ
turn n j = pick (eqb j (count_trailing_zeros 32 n)) 0 1

-- hops(n,i) = ones(floor(n/2^(j+1))) + [j ≠ trailing zeros of n] + j
unfoldable pub hops : ℕ → ℕ → ℕ
hops n i = ones (n / 2 ^ suc (split_bit n i)) + turn n (split_bit n i) + split_bit n i

-- lefts(n,i) = [j ≠ trailing zeros of n] + j − ones((i−1) mod 2^j)
unfoldable pub lefts : ℕ → ℕ → ℕ
lefts n i = turn n (split_bit n i) + split_bit n i - ones ((i - 1) % 2 ^ split_bit n i)

-- the moves from the highest node of height at most h at position x down to the leaf at position t
unfoldable pub hops_from : ℕ → ℕ → ℕ → ℕ
hops_from x zero t = 0
hops_from x (suc p) t =
    if_set (digit x p)
    (suc (pick (ltb t (base x p)) (hops_from (left x p) p t) (hops_from x p t)))
    (hops_from x p t)

-- those of them that go left
unfoldable pub lefts_from : ℕ → ℕ → ℕ → ℕ
lefts_from x zero t = 0
lefts_from x (suc p) t =
    if_set (digit x p)
    (pick (ltb t (base x p)) (suc (lefts_from (left x p) p t)) (lefts_from x p t))
    (lefts_from x p t)
