-- What holds of each item of a list and its number.
-- Assumes nothing.
use Rattle.std.proofs.Common.{◌≡◌, ℕ, zero, suc, ◌+◌, ◌<◌, List, [], ◌∷◌, length, get_or, subst, arith}

infixr 30 ◌also◌
-- P holds of each number and its item, from k on
pub data EachFrom (P : ℕ → ℕ → Type 0) : ℕ → List ℕ → Type 0 where
  nothing : {k : ℕ} → EachFrom P k []
  ◌also◌ : {k x : ℕ} {xs : List ℕ} → P k x → EachFrom P (suc k) xs → EachFrom P k (x ∷ xs)

each_from : (P : ℕ → ℕ → Type 0) (k : ℕ) (xs : List ℕ) → EachFrom P k xs → (t n : ℕ) → n ≡ k + t → t < length xs → P n (get_or xs t 0)
each_from P k [] nothing t n e h = absurd (omega arith)
each_from P k (x ∷ xs) (p also all) zero n e h = let same : k ≡ n = omega arith in subst (λ (i : ℕ). P i x) same p
each_from P k (x ∷ xs) (p also all) (suc t) n e h = each_from P (suc k) xs all t n (omega arith) (omega arith)

pub each : {P : ℕ → ℕ → Type 0} {xs : List ℕ} → EachFrom P 0 xs → (t : ℕ) → t < length xs → P t (get_or xs t 0)
each {P} {xs} all t h = each_from P 0 xs all t t (omega arith) h
