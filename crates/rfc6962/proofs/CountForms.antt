-- How many digests a consistency proof has, as code counts them.
-- Assumes nothing.
use mathlib.Core.Bool.{true, false}
use mathlib.Core.Path.{◌≡◌, ap, ◌∙◌}
use Prim.Native.Nat.{ℕ, suc, ◌+◌, ◌-◌, ◌≤◌, ◌<◌}
use native.Mathlib.Omega.{arith}
use borrow.Author.Tests.{le-leb, lt-leb, ne_eqb}
use Rattle.slate.specs.Digits.{max_height}
use Rattle.rfc6962.specs.Consistency.{digest_count, omitted, sibling_count}
use Rattle.rfc6962.specs.Rfc6962.{k}
use Rattle.rfc6962.proofs.SplitForms.{Fewer, fewer_next}

-- ---- the siblings

module _ {h m n : ℕ} (w : Fewer h m n) where
  siblings_left : m ≤ k n → sibling_count h m n ≡ suc (sibling_count (h - 1) m (k n))
  unfolding sibling_count
  siblings_left o =
      ap (λ (f : ℕ). sibling_count f m n) (fewer_next w) ∙ rw (ne_eqb m n (λ e. omega (arith, w.less)), le-leb m (k n) o)

  siblings_right : k n < m → sibling_count h m n ≡ suc (sibling_count (h - 1) (m - k n) (n - k n))
  unfolding sibling_count
  siblings_right o =
      ap (λ (f : ℕ). sibling_count f m n) (fewer_next w) ∙ rw (ne_eqb m n (λ e. omega (arith, w.less)), lt-leb m (k n) o)

  -- one more than on the side of the split on which the first m end
  module _ (s : ℕ) (e : s ≡ k n) (r : ℕ) where
    pub counted_left : m ≤ s → (r ≡ sibling_count (h - 1) m s) × (r ≤ h - 1) → (r + 1 ≡ sibling_count h m n) × (r + 1 ≤ h)
    counted_left o c =
        let q : m ≤ k n = omega arith in
        (omega (arith, siblings_left q, rw e at c.0), omega (arith, c.1, fewer_next w))

    pub counted_right : s < m → (r ≡ sibling_count (h - 1) (m - s) (n - s)) × (r ≤ h - 1) → (r + 1 ≡ sibling_count h m n) × (r + 1 ≤ h)
    counted_right o c =
        let q : k n < m = omega arith in
        (omega (arith, siblings_right q, rw e at c.0), omega (arith, c.1, fewer_next w))

-- ---- the digest of the first m values

module _ (m n : ℕ) where
  pub digests_omitted : omitted m n ≡ true → digest_count m n ≡ sibling_count max_height m n
  unfolding digest_count
  digests_omitted t = rw t (omega arith)

  pub digests_more : omitted m n ≡ false → digest_count m n ≡ sibling_count max_height m n + 1
  unfolding digest_count
  digests_more t = rw t (omega arith)
