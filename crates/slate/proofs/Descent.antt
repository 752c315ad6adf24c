-- The way down from the highest node of height at most h at position x to the leaf at position t.
-- Assumes nothing.
use mathlib.Core.Path.{◌≡◌}
use Prim.Native.Nat.{ℕ, zero, suc, ◌≤◌, ◌<◌}
use native.Mathlib.Omega.{arith}
use borrow.Author.Tests.{le-ltb, lt-ltb}
use Rattle.slate.specs.Digits.{base, digit, left}
use Rattle.slate.specs.Moves.{hops_from}
use Rattle.slate.proofs.Bits.{base_under, base_zero, no_left}
use Rattle.slate.proofs.Cases.{by_digit, by_order}

-- what holds at the leaf, and one node higher where it holds below it, on the side of the leaf
pub to_leaf {ℓ} : {P : ℕ → ℕ → Type ℓ} (t : ℕ)
    → P t 0
    → ((x p : ℕ) → base x (suc p) ≤ t → t ≤ x → digit x p ≡ 0 → P x p → P x (suc p))
    → ((x p : ℕ) → base x (suc p) ≤ t → t ≤ x → digit x p ≡ 1 → t < base x p → P (left x p) p → P x (suc p))
    → ((x p : ℕ) → base x (suc p) ≤ t → t ≤ x → digit x p ≡ 1 → base x p ≤ t → P x p → P x (suc p))
    → (x h : ℕ) → base x h ≤ t → t ≤ x → P x h
to_leaf {P = P} t leaf none on_left on_right = go
  where
    go : (x h : ℕ) → base x h ≤ t → t ≤ x → P x h
    go x zero low high = let e : x ≡ t = omega (arith, base_zero x) in rw e leaf
    go x (suc p) low high =
        by_digit x p
        (λ d. none x p low high d (go x p (omega (arith, no_left x p d)) high))
        (λ d. by_order t (base x p)
        (λ o. on_left x p low high d o (go (left x p) p (base_under x p t d low o).0 (base_under x p t d low o).1))
        (λ o. on_right x p low high d o (go x p o high)))

-- ---- the moves from a node, by those from the child on the side of the leaf

module _ (x p t : ℕ) where
  pub moves_none : digit x p ≡ 0 → hops_from x (suc p) t ≡ hops_from x p t
  unfolding hops_from
  moves_none d = rw d

  pub moves_left : digit x p ≡ 1 → t < base x p → hops_from x (suc p) t ≡ suc (hops_from (left x p) p t)
  unfolding hops_from
  moves_left d o = rw (d, lt-ltb t (base x p) o)

  pub moves_right : digit x p ≡ 1 → base x p ≤ t → hops_from x (suc p) t ≡ suc (hops_from x p t)
  unfolding hops_from
  moves_right d o = rw (d, le-ltb t (base x p) o)
