-- Forms that code has: a power of two by a shift, and the ones in a word.
-- Assumes nothing.
use mathlib.Core.Path.{◌≡◌}
use Prim.Native.Nat.{ℕ, ◌*◌, ◌/◌, ◌%◌, ◌^◌, ◌≤◌, ◌<◌}
use native.Mathlib.Nat.{mod-eq_of_lt, one-mul}
use native.Mathlib.Omega.{arith}
use lib.Count.{ones, ones-le}
use lib.Pow.{pow-lt, shr_le}

-- 1 << h
pub shifted_one : (h : ℕ) → h < 32 → 1 * 2 ^ h % 4294967296 ≡ 2 ^ h
shifted_one h lt = rw one-mul (mod-eq_of_lt (pow-lt lt))

-- the ones in a part of a word
pub word_ones : (n k : ℕ) → n < 4294967296 → ones (n / 2 ^ k) ≤ 32
word_ones n k lt = ones-le 32 (n / 2 ^ k) (omega (arith, shr_le n k))
