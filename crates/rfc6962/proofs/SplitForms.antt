-- The split of n values as code finds it, by the highest digit of n - 1, and what is left of a height behind it.
-- Assumes nothing.
use mathlib.Core.Path.{◌≡◌, ap, ◌∙◌}
use Prim.Native.Nat.{ℕ, suc, ◌*◌, ◌-◌, ◌%◌, ◌^◌, ◌≤◌, ◌<◌}
use native.Mathlib.Nat.{pow-suc}
use native.Mathlib.Omega.{arith}
use lib.Pow.{pow_mono}
use Rattle.slate.specs.Digits.{max_height}
use Rattle.slate.proofs.Cases.{by_order}
use Rattle.slate.proofs.CodeForms.{shifted_one}
use Rattle.rfc6962.specs.Rfc6962.{k, split_height}
use Rattle.rfc6962.proofs.Splits.{split_is, split_largest}

-- p is the highest digit of n - 1
pub split_log : (n p : ℕ) → 2 ≤ n → 2 ^ p ≤ n - 1 → n - 1 < 2 * 2 ^ p → split_height n ≡ p
split_log n p some low high = split_is n p (omega arith) (omega (arith, pow-suc 2 p))

-- it is one of the digits of the height h
pub split_low : (p h : ℕ) → 2 ^ p < 2 ^ h → p < h
split_low p h lt = by_order p h (λ o. o) (λ o. let q : 2 ^ h ≤ 2 ^ p = pow_mono o in absurd (omega arith))

-- a shift makes it of its height
pub split_shift : (n h : ℕ) → h ≡ split_height n → h < max_height → 1 * 2 ^ h % 4294967296 ≡ k n
unfolding max_height
split_shift n h e lt = shifted_one h (omega arith) ∙ ap (λ (p : ℕ). 2 ^ p) e

-- the first m of n values, which are more, in a tree of height h
pub record Fewer (h m n : ℕ) : Type 0 where
  pub some : 1 ≤ m
  pub less : m < n
  pub few : n ≤ 2 ^ h

module _ {h m n : ℕ} (w : Fewer h m n) where
  pub fewer_next : h ≡ suc (h - 1)
  fewer_next = by_order h 1 (λ z. let e : h ≡ 0 = omega arith in absurd (omega (arith, w.some, w.less, rw e at w.few))) (λ s. omega arith)

  -- either side of the split has at most half the values that the height allows
  fewer_half : k n ≤ 2 ^ (h - 1)
  fewer_half =
      let l = split_low (split_height n) h (omega (arith, split_largest n (omega (arith, w.some, w.less)), w.few)) in
      pow_mono (omega arith)

  pub fewer_limit : h ≤ max_height → (2 ≤ n) × (n ≤ 2 ^ max_height)
  fewer_limit le = (omega (arith, w.some, w.less), omega (arith, w.few, pow_mono le))

  module _ (s : ℕ) (e : s ≡ k n) where
    pub left_range : m ≤ s → (1 ≤ m) × (m ≤ s) × (s ≤ 2 ^ (h - 1))
    left_range o = (w.some, o, omega (arith, fewer_half))

    pub right_range : s < m → (1 ≤ m - s) × (m - s ≤ n - s) × (n - s ≤ 2 ^ (h - 1))
    right_range o = (omega arith, omega (arith, w.less), omega (arith, fewer_half, split_largest n (omega (arith, w.some, w.less))))
