-- How many siblings a consistency proof has: one less than the subtrees that are apart.
-- Assumes nothing.
use mathlib.Core.Path.{◌≡◌, refl, ap}
use Prim.Native.Nat.{ℕ, zero, suc, ◌-◌, ◌^◌, ◌≤◌, ◌<◌}
use native.Mathlib.Omega.{arith}
use borrow.Author.Tests.{eq-eqb}
use Rattle.slate.specs.Digits.{base, digit, left, max_height}
use Rattle.slate.specs.PartialTree.{cuts}
use Rattle.slate.proofs.Bits.{no_left, whole_base}
use Rattle.rfc6962.specs.Consistency.{sibling_count}
use Rattle.rfc6962.specs.Layouts.{apart}
use Rattle.rfc6962.proofs.Apart.{cuts_end, cuts_left, cuts_none, cuts_right}
use Rattle.rfc6962.proofs.Ends.{goes_left, goes_right, left_full, not_end, to_end, up_to_left, up_to_right}
use Rattle.rfc6962.proofs.Splits.{node_split, size, up_to}

pub count_end : (f m n : ℕ) → m ≡ n → sibling_count f m n ≡ 0
unfolding sibling_count
count_end zero m n e = refl
count_end (suc f) m n e = rw (eq-eqb m n e)

-- ---- at a node on the way: those of its child on the way, and one more

module _ (t x p f : ℕ) (low : base x (suc p) ≤ t) (less : t < x) (d : digit x p ≡ 1) where
  pub count_left : t < base x p
      → sibling_count (suc f) (up_to t x (suc p)) (size x (suc p)) ≡ suc (sibling_count f (up_to t (left x p) p) (size (left x p) p))
  unfolding sibling_count
  count_left o = rw (not_end t x p low less, node_split x p d, goes_left t x p low d o, up_to_left t x p d, left_full x p d)

  pub count_right : base x p ≤ t → sibling_count (suc f) (up_to t x (suc p)) (size x (suc p)) ≡ suc (sibling_count f (up_to t x p) (size x p))
  unfolding sibling_count
  count_right o = rw (not_end t x p low less, node_split x p d, goes_right t x p low d o, up_to_right t x p d, up_to_right x x p d)

pub count_cuts : (t x h f : ℕ) → size x h ≤ 2 ^ f → base x h ≤ t → t ≤ x → cuts (apart t) x h ≡ suc (sibling_count f (up_to t x h) (size x h))
count_cuts t =
    to_end {P = λ x h f. cuts (apart t) x h ≡ suc (sibling_count f (up_to t x h) (size x h))} t
    (λ h f. rw (cuts_end t h, count_end f (up_to t t h) (up_to t t h) refl))
    (λ x p f low q d e. rw (cuts_none t x p low q d, ← no_left x p d) e)
    (λ x p f low q d o few e. rw (cuts_left t x p low q d o, count_left t x p f low q d o) (ap suc e))
    (λ x p f low q d o few e. rw (cuts_right t x p low q d o, count_right t x p f low q d o) (ap suc e))

-- ---- from m to n values

-- the first m of all values
pub up_to_whole : (m x : ℕ) → 1 ≤ m → x < 2 ^ max_height → up_to (m - 1) x max_height ≡ m
up_to_whole m x some lt = omega (arith, whole_base x max_height lt)

-- the siblings, and D[m] itself
pub cuts_whole : (m n : ℕ) → 1 ≤ m → m ≤ n → n ≤ 2 ^ max_height → cuts (apart (m - 1)) (n - 1) max_height ≡ suc (sibling_count max_height m n)
cuts_whole m n some le few =
    let x : ℕ = n - 1 in
    let z : base x max_height ≡ 0 = whole_base x max_height (omega arith) in
    rw (up_to_whole m x some (omega arith), up_to_whole n x (omega arith) (omega arith))
    at (count_cuts (m - 1) x max_height max_height (omega arith) (omega arith) (omega arith))
