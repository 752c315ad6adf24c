-- An index out of range as a reason to refuse.
-- Assumes nothing.
use mathlib.Core.Bool.{false}
use mathlib.Core.Logic.{◌⊎◌, inl, inr, ⊎_elim}
use mathlib.Core.Path.{◌≡◌}
use Prim.Native.Nat.{ℕ, ◌≤◌, ◌<◌}
use native.Mathlib.Omega.{arith}
use Rattle.slate.specs.Index.{is_index}
use Rattle.slate.proofs.Cases.{by_order}
use Rattle.slate.proofs.Indexes.{index_out}
use Rattle.ringlog.proofs.Reasoned.{Reasoned}

module _ (i n : ℕ) where
  pub by_index : {E R : Type 0} → (is_index i n ≡ false → E) → (1 ≤ i → i ≤ n → R) → Reasoned ((i ≡ 0) ⊎ (n < i)) E R
  by_index {E} {R} f g =
      by_order i 1
      (λ none. out (inl (omega arith)))
      (λ first. by_order n i (λ above. out (inr above)) (λ high. inr (⊎_elim (λ z. omega arith) (λ z. omega arith), g first high)))
    where
      out : (i ≡ 0) ⊎ (n < i) → Reasoned ((i ≡ 0) ⊎ (n < i)) E R
      out w = inl (w, f (index_out i n w))
