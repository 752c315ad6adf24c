-- The way from a leaf up: at each height the position at which the way down stands, without going it.
-- Assumes nothing.
use mathlib.Core.Path.{◌≡◌}
use Prim.Native.Nat.{ℕ, suc, ◌+◌, ◌-◌, ◌^◌, ◌≤◌, ◌<◌, min}
use native.Mathlib.Nat.{pow-suc}
use native.Mathlib.Omega.{arith}
use lib.Pow.{pow_pos}
use Rattle.slate.specs.Digits.{base, digit, left}
use Rattle.slate.proofs.Bits.{base_gt, base_le, base_same, left_base, left_end, left_pred, no_left, whole_base}

-- where the way from position m down to the leaf at position t stands at height h: at the end of the block of 2 ^ h positions around t,
-- or at m where that is before it
unfoldable pub on_way : ℕ → ℕ → ℕ → ℕ
on_way m t h = min m (base t h + (2 ^ h - 1))

module _ (m t : ℕ) (le : t ≤ m) where
  -- it is m where the block has all positions
  pub way_root : (h : ℕ) → m < 2 ^ h → on_way m t h ≡ m
  unfolding on_way
  way_root h lt = omega (arith, whole_base t h (omega arith))

  module _ (p x : ℕ) (at : x ≡ on_way m t (suc p)) where
    -- it is in the block around t, and not before t
    in_way : (base x (suc p) ≡ base t (suc p)) × (t ≤ x)
    unfolding on_way
    in_way =
        let high : t ≤ x = omega (arith, base_gt t (suc p)) in
        (base_same t x (suc p) (omega (arith, base_le t (suc p))) (omega (arith, pow_pos (suc p))), high)

    -- the way down goes to the position below
    pub way_none : digit x p ≡ 0 → on_way m t p ≡ x
    unfolding on_way
    way_none d =
        let e : base t p ≡ base x p = base_same x t p (omega (arith, no_left x p d, in_way, base_le t (suc p))) (omega (arith, in_way, base_gt x p)) in
        omega (arith, in_way, no_left x p d, base_gt x p, pow-suc 2 p, pow_pos p)

    module _ (d : digit x p ≡ 1) where
      -- digit p of t tells on which side of the middle t is
      pub on_right : digit t p ≡ 1 → base x p ≤ t
      on_right s = omega (arith, in_way, left_end x p d, left_end t p s, base_le t p)

      pub on_left : digit t p ≡ 0 → t < base x p
      on_left s = omega (arith, in_way, left_end x p d, no_left t p s, base_gt t p)

      pub way_right : base x p ≤ t → on_way m t p ≡ x
      unfolding on_way
      way_right o =
          let e : base t p ≡ base x p = base_same x t p o (omega (arith, in_way, base_gt x p)) in
          omega (arith, in_way, left_end x p d, pow-suc 2 p, pow_pos p)

      pub way_left : t < base x p → on_way m t p ≡ left x p
      unfolding on_way
      way_left o =
          let e : base t p ≡ base (left x p) p = base_same (left x p) t p (omega (arith, in_way, left_base x p d, base_le t (suc p))) (omega (arith, left_base x p d, left_end x p d)) in
          omega (arith, in_way, left_base x p d, left_end x p d, left_pred x p d, base_le x p, pow_pos p)
