-- The digests of the left children of the nodes at a position, each at its height; and those at the next position.
-- Assumes nothing.
use mathlib.Core.List.{List, []}
use mathlib.Core.Path.{◌≡◌, ap, ◌∙◌}
use Prim.Native.Nat.{ℕ, suc, ◌+◌, ◌%◌, ◌^◌, ◌≤◌, ◌<◌}
use native.Mathlib.Decide.{le_ind}
use native.Mathlib.Nat.{div-add-mod'}
use native.Mathlib.Numerals.{add-one}
use native.Mathlib.Omega.{arith}
use lib.Count.{count_trailing_zeros}
use lib.ListN.{length, get_or, set}
use Rattle.std.proofs.lemmas.List.{get_or-set_other, get_or-set_same, length-set}
use lib.Pow.{pow_pos}
use Rattle.slate.specs.Digits.{base, digit, left, max_height}
use Rattle.slate.specs.Tree.{rfc6962, top}
use Rattle.slate.proofs.Bits.{base_le, base_same, base_step, block_same, left_end, left_pred, next_new, next_same}
use Rattle.slate.proofs.Cases.{by_digit}
use Rattle.slate.proofs.HighestBit.{trailing_is, trailing_lt}

-- ---- the lowest digit that is set in the next position

-- behind the start of a block
inside_block : (x p : ℕ) → base x p < x → 0 < x % 2 ^ p
unfolding base
inside_block x p lt = omega (arith, div-add-mod' x (2 ^ p))

-- it is the one that was not set
module _ (y p : ℕ) (lt : p < 32) (s : digit (suc y) p ≡ 1) where
  lowest_new : digit y p ≡ 0 → count_trailing_zeros 32 (suc y) ≡ p
  unfolding base
  lowest_new d = trailing_is 32 (suc y) p lt (omega (arith, next_new y p s d, div-add-mod' (suc y) (2 ^ p))) s

  lowest_below : digit y p ≡ 1 → count_trailing_zeros 32 (suc y) < p
  lowest_below d = trailing_lt 32 (suc y) p lt (inside_block (suc y) p (omega (arith, next_same y p s d, base_le y p)))

-- of those up to x from the start of its block of 2 ^ h positions on, it is below h
pub lowest_inside : (x h y : ℕ) → h < 32 → base x h ≤ y → y < x → count_trailing_zeros 32 (y + 1) < h
lowest_inside x h y lt low high =
    rw (add-one y) (trailing_lt 32 (suc y) h lt (inside_block (suc y) h (omega (arith, block_same x h (suc y) (omega arith) high))))

-- ---- the start of a block of 2 ^ h positions has no digit below h

base_falls : (x p h : ℕ) → p ≤ h → base x h ≤ base x p
base_falls x p h le = le_ind (λ (m : ℕ). base x m ≤ base x p) (omega arith) (λ m k e. omega (arith, base_step x m)) h le

start_none : (x h p : ℕ) → p < h → digit (base x h) p ≡ 1 → ⊥
start_none x h p lt d =
    let y : ℕ = base x h in
    let e : base y h ≡ y = base_same x y h (omega arith) (omega (arith, pow_pos h)) in
    omega (arith, e, left_end y p d, pow_pos p, base_le y p, base_falls y (suc p) h lt)

-- ---- the digests s at position y, for the nodes of height at most h

pub record Lefts (vs : List (List ℕ)) (h y : ℕ) (s : List (List ℕ)) : Type 0 where
  pub size : length s ≡ max_height
  pub each : (p : ℕ) → p < h → digit y p ≡ 1 → get_or s p [] ≡ top rfc6962 vs (left y p) p

module _ (vs : List (List ℕ)) where
  pub lefts_first : (x h f : ℕ) (s : List (List ℕ)) → f ≡ base x h → length s ≡ max_height → Lefts vs h f s
  lefts_first x h f s e l = record { size = l; each = λ p lt d. absurd (start_none x h p lt (rw e at d)) }

  -- the node of the height of the next position's lowest digit ends here, and is a left child there
  pub lefts_next : (h y : ℕ) (s : List (List ℕ)) → h ≤ max_height → Lefts vs h y s → (k : ℕ) → k ≡ count_trailing_zeros 32 (y + 1) → k < h
      → (d : List ℕ) → d ≡ top rfc6962 vs y k → Lefts vs h (y + 1) (set s k d)
  unfolding max_height
  lefts_next h y s le w k ek lt d ed =
      let room : k < length s = omega (arith, w.size) in
      rw (add-one y)
      record {
        size = length-set s k d ∙ w.size;
        each = λ p below t.
            by_digit y p
            (λ z.
            let same : k ≡ p = ek ∙ rw (add-one y) (lowest_new y p (omega arith) t z) in
            let here : left (suc y) p ≡ y = omega (arith, left_pred (suc y) p t, next_new y p t z) in
            rw (← same, get_or-set_same s k d [] room, ed, rw (← same) at here))
            (λ o.
            let same : left (suc y) p ≡ left y p = omega (arith, left_pred (suc y) p t, left_pred y p o, next_same y p t o) in
            let apart : p ≡ k → ⊥ = λ e. omega (arith, ek ∙ ap (count_trailing_zeros 32) (add-one y), lowest_below y p (omega arith) t o) in
            rw (same, get_or-set_other s k p d [] apart) (w.each p below o));
      }
