-- The test that two lists have the same bytes, byte by byte from the front.
-- Assumes nothing.
use mathlib.Core.Bool.{Bool, true, false, ◌&&◌}
use mathlib.Core.List.{List, [], ◌∷◌}
use mathlib.Core.Logic.{◌⊎◌, inl, inr}
use mathlib.Core.Path.{◌≡◌, refl, ap}
use Prim.Native.Nat.{ℕ}
use native.Mathlib.Omega.{arith}
use lib.Dec.{eqb}
use lib.ListN.{length}
use Rattle.sha256.specs.Pick.{pick}
use Rattle.slate.specs.Bytes.{same}
use Rattle.slate.proofs.Lists.{same_ne}

pub same_lengths : (a b : List ℕ) → (length a ≡ length b → ⊥) → same a b ≡ false
same_lengths a b n = same_ne a b (λ e. n (ap length e))

-- a test of the bytes before goes on with the next pair
pub same_more : (t : Bool) (x y : ℕ) (a b : List ℕ) → pick t (same (x ∷ a) (y ∷ b)) false ≡ pick (t && eqb x y) (same a b) false
unfolding same
same_more true x y a b = refl
same_more false x y a b = refl

-- and is the test of all of them behind the last
pub same_end : (t : Bool) (a b : List ℕ) → length a ≡ length b → (a ≡ []) ⊎ (b ≡ []) → pick t (same a b) false ≡ t
unfolding same
same_end true [] [] e o = refl
same_end false a b e o = refl
same_end true [] (y ∷ b) e o = absurd (omega arith)
same_end true (x ∷ a) [] e o = absurd (omega arith)
same_end true (x ∷ a) (y ∷ b) e (inl p) = absurd (omega (arith, ap length p))
same_end true (x ∷ a) (y ∷ b) e (inr p) = absurd (omega (arith, ap length p))
