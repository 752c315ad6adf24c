-- The way from position l down to position t, as code finds its splits by the digits of t and by blocks of positions: p is a height, and x the
-- position at which the way stands at height p + 1.
-- Assumes nothing.
use mathlib.Core.Logic.{⊎_elim}
use mathlib.Core.Path.{◌≡◌, sym, ap}
use Prim.Native.Nat.{ℕ, suc, ◌+◌, ◌*◌, ◌%◌, ◌^◌, ◌≤◌, ◌<◌}
use native.Mathlib.Nat.{eq-zero-or-pos, pow-suc}
use native.Mathlib.Omega.{arith}
use lib.Pow.{pow_pos}
use Rattle.slate.specs.Digits.{base, digit}
use Rattle.slate.proofs.Bits.{base_gt, base_le, base_same, next_at_lem, next_inside, no_left, under_none}
use Rattle.slate.proofs.Cases.{by_digit, by_order}
use Rattle.slate.proofs.WayUp.{on_left, on_way, way_none}

-- x is in the block around t, and not before t
pub way_inside : (l t : ℕ) → t ≤ l → (p x : ℕ) → x ≡ on_way l t (suc p) → (base x (suc p) ≤ t) × (t ≤ x)
unfolding on_way
way_inside l t le p x on =
    let high : t ≤ x = omega (arith, base_gt t (suc p)) in
    let same = base_same t x (suc p) (omega (arith, base_le t (suc p))) (omega (arith, pow_pos (suc p))) in
    (omega (arith, same, base_le t (suc p)), high)

-- there is a split of height p + 1
abbrev pub Split : ℕ → ℕ → ℕ → Type 0
Split t p x = (t < x) × (digit x p ≡ 1)

module _ (l t : ℕ) (less : t < l) (p x : ℕ) (on : x ≡ on_way l t (suc p)) where
  le : t ≤ l
  le = omega arith

  -- l is in the block of 2 ^ p positions around t: no split
  pub none_here : digit t p ≡ 0 → base t p ≡ base l p → (t < x) × (digit x p ≡ 0)
  unfolding on_way
  none_here z e =
      let last : x ≡ l = omega (arith, base_gt l p, no_left t p z, pow-suc 2 p) in
      let same : base x p ≡ base t p = base_same t x p (omega (arith, base_le t p)) (omega (arith, base_gt l p)) in
      (omega arith, by_digit x p (λ d. d) (λ s. absurd (omega (arith, on_left l t le p x on s z, base_le t p))))

  none_only : digit t p ≡ 0 → digit x p ≡ 0 → base t p ≡ base l p
  unfolding on_way
  none_only z d =
      sym (base_same t l p (omega (arith, base_le t p)) (omega (arith, way_none l t le p x on d, no_left t p z, pow-suc 2 p, pow_pos p)))

  -- it is behind it: t is left of a split
  pub left_here : digit t p ≡ 0 → (base t p ≡ base l p → ⊥) → Split t p x
  left_here z n =
      let s : digit x p ≡ 1 = by_digit x p (λ d. absurd (n (none_only z d))) (λ s. s) in
      (omega (arith, on_left l t le p x on s z, base_le x p), s)

  -- ---- h is p + 1, and m is t + 1

  module _ (h : ℕ) (next : h ≡ suc p) (m : ℕ) (behind : m ≡ suc t) where
    -- the block of 2 ^ h positions around t ends with t: the way has ended
    pub end_here : base m h ≡ m → x ≤ t
    unfolding on_way
    end_here e =
        let whole : base (suc t) (suc p) ≡ suc t = rw (behind, next) at e in
        by_order (suc t) (base t (suc p) + 2 ^ suc p)
        (λ o. absurd (omega (arith, base_same t (suc t) (suc p) (omega (arith, base_le t (suc p))) o, base_le t (suc p))))
        (λ o. omega (arith, pow_pos (suc p)))

    goes_on : (base m h ≡ m → ⊥) → t < x
    unfolding on_way base
    goes_on n =
        ⊎_elim
        (λ z. absurd (n (rw (behind, next) (next_at_lem t (suc p) z))))
        (λ z. omega (arith, base_gt (suc t) (suc p), ap (λ (q : ℕ). q * 2 ^ suc p) (next_inside t (suc p) z)))
        (eq-zero-or-pos (suc t % 2 ^ suc p))

    -- it goes on: t is right of a split
    pub right_here : digit t p ≡ 1 → (base m h ≡ m → ⊥) → Split t p x
    right_here s n =
        let w = way_inside l t le p x on in
        (goes_on n, by_digit x p (λ d. absurd (omega (arith, under_none x p t d w.0 w.1))) (λ d. d))
