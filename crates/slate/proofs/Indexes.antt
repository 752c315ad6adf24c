-- The test of an index.
-- Assumes nothing.
use mathlib.Core.Bool.{true, false}
use mathlib.Core.Logic.{◌⊎◌, ⊎_elim}
use mathlib.Core.Path.{◌≡◌}
use Prim.Native.Nat.{ℕ, ◌≤◌, ◌<◌}
use native.Mathlib.Omega.{arith}
use borrow.Author.Tests.{le-leb, leb-true, lt-leb}
use Rattle.slate.specs.Claims as claims
use Rattle.slate.specs.Index.{is_index}
use Rattle.slate.proofs.Cases.{by_order, true_false}

module _ (i n : ℕ) where
  pub index_none : i ≡ 0 → is_index i n ≡ false
  unfolding is_index
  index_none z = rw (lt-leb 1 i (omega arith))

  pub to_index : 1 ≤ i → i ≤ n → is_index i n ≡ true
  unfolding is_index
  to_index low high = rw (le-leb 1 i low, le-leb i n high)

  pub index_range : is_index i n ≡ true → (1 ≤ i) × (i ≤ n)
  unfolding is_index
  index_range t =
      by_order i 1
      (λ z. true_false t (index_none (omega arith)))
      (λ low. (low, leb-true i n (rw (le-leb 1 i low) at t)))

  pub index_out : (i ≡ 0) ⊎ (n < i) → is_index i n ≡ false
  unfolding is_index
  index_out = ⊎_elim index_none (λ above. rw (le-leb 1 i (omega arith), lt-leb i n above))

pub index_tested : claims.IndexRange
index_tested i n = (to_index i n, index_range i n)
