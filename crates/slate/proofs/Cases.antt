-- Proofs by cases: a digit, an order, a test, two lists.
-- Assumes nothing.
use mathlib.Core.Bool.{Bool, true, false}
use mathlib.Core.List.{List, List-discrete}
use mathlib.Core.Logic.{◌⊎◌, inl, inr, ⊎_elim}
use mathlib.Core.Path.{◌≡◌, refl, ◌∙◌}
use Prim.Native.Nat.{ℕ, ◌/◌, ◌%◌, ◌^◌, ◌≤◌, ◌<◌}
use native.Mathlib.Decide.{ℕ_discrete}
use native.Mathlib.Omega.{arith}
use Rattle.sha256.proofs.Words.{lt_or_le}
use Rattle.slate.specs.Digits.{digit}

pub by_order {ℓ} : {P : Type ℓ} (a b : ℕ) → (a < b → P) → (b ≤ a → P) → P
by_order a b f g = ⊎_elim f g (lt_or_le a b)

digit_cases : (x p : ℕ) → (digit x p ≡ 0) ⊎ (digit x p ≡ 1)
unfolding digit
digit_cases x p = by_order (x / 2 ^ p % 2) 1 (λ h. inl (omega arith)) (λ h. inr (omega arith))

pub by_digit {ℓ} : {P : Type ℓ} (x p : ℕ) → (digit x p ≡ 0 → P) → (digit x p ≡ 1 → P) → P
by_digit x p f g = ⊎_elim f g (digit_cases x p)

-- a digit that is not 0 is 1
pub digit_set : (x p r : ℕ) → r ≡ digit x p → (r ≡ 0 → ⊥) → digit x p ≡ 1
digit_set x p r e n = by_digit x p (λ d. absurd (n (e ∙ d))) (λ d. d)

pub by_bool {ℓ} : {P : Type ℓ} (b : Bool) → (b ≡ true → P) → (b ≡ false → P) → P
by_bool true f g = f refl
by_bool false f g = g refl

pub by_equal {ℓ} : {P : Type ℓ} (l m : List ℕ) → (l ≡ m → P) → ((l ≡ m → ⊥) → P) → P
by_equal {P} l m f g = go (List-discrete ℕ_discrete l m)
  where
    go : Dec (l ≡ m) → P
    go (yes e) = f e
    go (no n) = g n

-- a test has one value
pub true_false {ℓ} : {P : Type ℓ} {b : Bool} → b ≡ true → b ≡ false → P
true_false t f = let z : ◌≡◌ {A = ℕ} 0 1 = cc in absurd (omega arith)
