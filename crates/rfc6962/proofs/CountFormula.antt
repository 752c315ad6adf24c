-- How many digests a consistency proof has, by document 01's hops: on the way to value m the siblings come first, and then as many moves as m
-- has trailing zeros, inside the full subtree that ends with m.
-- Assumes nothing.
use mathlib.Core.Path.{◌≡◌, refl, sym, ap₂, ◌∙◌}
use Prim.Native.Nat.{ℕ, suc, ◌+◌, ◌*◌, ◌-◌, ◌/◌, ◌^◌, ◌≤◌, ◌<◌}
use native.Mathlib.Nat.{mul-div_cancel, mul-mod_left, suc-mul}
use native.Mathlib.Omega.{arith}
use borrow.Author.Tests.{eq-eqb, ne_eqb}
use lib.Count.{ones, count_trailing_zeros}
use lib.Pow.{pow_pos}
use Rattle.slate.specs.Digits.{base, digit, left, max_height}
use Rattle.slate.specs.Moves.{hops, hops_from}
use Rattle.slate.proofs.Bits.{base_under, left_base, left_end, left_pred, no_left, whole_base}
use Rattle.slate.proofs.Cases.{by_order}
use Rattle.slate.proofs.Descent.{moves_left, moves_none, moves_right}
use Rattle.slate.proofs.Formulas.{Full, full_hops, hops_formula}
use Rattle.slate.proofs.HighestBit.{trailing_is}
use Rattle.rfc6962.specs.Claims as claims
use Rattle.rfc6962.specs.Consistency.{digest_count, sibling_count}
use Rattle.rfc6962.proofs.Ends.{to_end}
use Rattle.rfc6962.proofs.Omitted.{omitted_other}
use Rattle.rfc6962.proofs.SiblingCounts.{count_end, count_left, count_right, up_to_whole}
use Rattle.rfc6962.proofs.Splits.{size, up_to}

-- the left child of a node of height p + 1 ends a full subtree of height p
module _ (x p : ℕ) (d : digit x p ≡ 1) where
  left_ends : Full (left x p) (left x p) p
  unfolding base
  left_ends = omega (arith, left_pred x p d, left_end x p d, left_base x p d, suc-mul (left x p / 2 ^ p) (2 ^ p))

  left_trailing : p < 32 → count_trailing_zeros 32 (suc (left x p)) ≡ p
  unfolding base digit
  left_trailing few =
      rw (left_pred x p d)
      (trailing_is 32 (x / 2 ^ p * 2 ^ p) p few (mul-mod_left (x / 2 ^ p) (2 ^ p)) (rw (mul-div_cancel (x / 2 ^ p) (pow_pos p)) d))

-- the moves to position t
module _ (t : ℕ) where
  abbrev Counts : ℕ → ℕ → ℕ → Type 0
  Counts x h f = h < 32 → t < x → hops_from x h t ≡ sibling_count f (up_to t x h) (size x h) + count_trailing_zeros 32 (suc t)

  counts_left : (x p f : ℕ) → digit x p ≡ 1 → t ≤ left x p → p < 32 → Counts (left x p) p f
      → hops_from (left x p) p t ≡ sibling_count f (up_to t (left x p) p) (size (left x p) p) + count_trailing_zeros 32 (suc t)
  counts_left x p f d high few e =
      by_order t (left x p)
      (λ o. e few o)
      (λ o.
      let z : t ≡ left x p = omega arith in
      rw z (full_hops (left x p) (left x p) p (left_ends x p d)
      ∙ sym (ap₂ (λ (a b : ℕ). a + b) (count_end f (size (left x p) p) (size (left x p) p) refl) (left_trailing x p d few) ∙ omega arith)))

  counts : (x h f : ℕ) → size x h ≤ 2 ^ f → base x h ≤ t → t ≤ x → Counts x h f
  counts =
      to_end {P = Counts} t
      (λ h f few q. absurd (omega arith))
      (λ x p f low q d e few o. rw (moves_none x p t d, ← no_left x p d) (e (omega arith) o))
      (λ x p f low q d o fit e few r.
      let w = base_under x p t d low o in
      let below = counts_left x p f d w.1 (omega arith) e in
      omega (arith, moves_left x p t d o, count_left t x p f low q d o))
      (λ x p f low q d o fit e few r.
      let below = e (omega arith) q in
      omega (arith, moves_right x p t d o, count_right t x p f low q d o))

-- from m to n values
siblings_hops : (m n : ℕ) → 1 ≤ m → m < n → n ≤ 2 ^ max_height → sibling_count max_height m n + count_trailing_zeros 32 m ≡ hops n m
siblings_hops m n some less few =
    let x : ℕ = n - 1 in
    let z : base x max_height ≡ 0 = whole_base x max_height (omega arith) in
    let next : suc (m - 1) ≡ m = omega arith in
    let c = rw (up_to_whole m x some (omega arith), up_to_whole n x (omega arith) (omega arith), next)
    at (counts (m - 1) x max_height max_height (omega arith) (omega arith) (omega arith) few_heights (omega arith)) in
    sym (hops_formula n m some (omega arith) few ∙ c)
  where
    few_heights : max_height < 32
    few_heights = unfold max_height in omega arith

pub digest_formula : claims.DigestFormula
unfolding digest_count
digest_formula m n some less few =
    let h = siblings_hops m n some less few in
    let o = omitted_other m n (λ e. omega arith) in (
      λ one. rw (o, eq-eqb (ones m) 1 one) (omega arith),
      λ other. rw (o, ne_eqb (ones m) 1 other) (omega arith),
    )
