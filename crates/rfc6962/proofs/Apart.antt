-- The subtrees of a consistency proof: on the way to the end of the first t + 1 values the one that ends with t is apart, and the sibling of
-- each move. So the digests of a node are those of its child on the way, and behind them that of the other child.
-- Assumes nothing.
use mathlib.Core.Bool.{true, false}
use mathlib.Core.List.{List, ◌++◌}
use mathlib.Core.Path.{◌≡◌}
use Prim.Native.Nat.{ℕ, suc, ◌≤◌, ◌<◌}
use native.Mathlib.Omega.{arith}
use borrow.Author.Tests.{le-leb, lt-leb}
use lib.ListN.{length}
use Rattle.slate.specs.Digits.{base, digit, left}
use Rattle.slate.specs.PartialTree.{cut_digests, cuts}
use Rattle.slate.specs.Tree.{Rule, top}
use Rattle.slate.proofs.Bits.{left_pred}
use Rattle.slate.proofs.Outside.{not_outside, outside_before, outside_behind}
use Rattle.slate.proofs.PartialTree.{cuts_one, digests_length, digests_one}
use Rattle.rfc6962.specs.Layouts.{apart}
use Rattle.rfc6962.proofs.Ends.{to_end}
use Rattle.rfc6962.proofs.Splits.{below_power, size}

apart_before : (t x h : ℕ) → x ≤ t → (apart t).cut x h ≡ true
apart_before t x h l = outside_before (suc t) (suc t) x h (omega arith)

apart_behind : (t x h : ℕ) → t < base x h → (apart t).cut x h ≡ true
apart_behind t x h l = outside_behind (suc t) (suc t) x h l

not_apart : (t x h : ℕ) → base x h ≤ t → t < x → (apart t).cut x h ≡ false
not_apart t x h l m = not_outside (suc t) (suc t) x h m (omega arith)

-- ---- how many there are

pub cuts_end : (t h : ℕ) → cuts (apart t) t h ≡ 1
cuts_end t h = cuts_one (apart t) t h (apart_before t t h (omega arith))

module _ (t x p : ℕ) (low : base x (suc p) ≤ t) (less : t < x) where
  pub cuts_none : digit x p ≡ 0 → cuts (apart t) x (suc p) ≡ cuts (apart t) x p
  unfolding cuts
  cuts_none d = rw (not_apart t x (suc p) low less, d)

  pub cuts_left : digit x p ≡ 1 → t < base x p → cuts (apart t) x (suc p) ≡ suc (cuts (apart t) (left x p) p)
  unfolding cuts
  cuts_left d o = rw (not_apart t x (suc p) low less, d) (omega (arith, cuts_one (apart t) x p (apart_behind t x p o)))

  pub cuts_right : digit x p ≡ 1 → base x p ≤ t → cuts (apart t) x (suc p) ≡ suc (cuts (apart t) x p)
  unfolding cuts
  cuts_right d o =
      rw (not_apart t x (suc p) low less, d)
      (omega (arith, cuts_one (apart t) (left x p) p (apart_before t (left x p) p (omega (arith, left_pred x p d)))))

cuts_some : (t x h : ℕ) → base x h ≤ t → t ≤ x → 1 ≤ cuts (apart t) x h
cuts_some t x h =
    to_end {P = λ x h f. 1 ≤ cuts (apart t) x h} t
    (λ h f. omega (arith, cuts_end t h))
    (λ x p f low q d e. omega (arith, cuts_none t x p low q d))
    (λ x p f low q d o few e. omega (arith, cuts_left t x p low q d o))
    (λ x p f low q d o few e. omega (arith, cuts_right t x p low q d o))
    x h (size x h) (omega (arith, below_power (size x h)))

-- ---- their digests

module _ (pre : Rule) (vs : List (List ℕ)) (t : ℕ) where
  abbrev pub digests : ℕ → ℕ → List ℕ
  digests x h = cut_digests pre (apart t) vs x h

  pub digests_end : (h : ℕ) → digests t h ≡ top pre vs t h
  digests_end h = digests_one pre (apart t) vs t h (apart_before t t h (omega arith))

  pub digests_some : (x h : ℕ) → base x h ≤ t → t ≤ x → 32 ≤ length (digests x h)
  digests_some x h low high = omega (arith, digests_length pre (apart t) vs x h, cuts_some t x h low high)

  module _ (x p : ℕ) (low : base x (suc p) ≤ t) (less : t < x) where
    pub digests_none : digit x p ≡ 0 → digests x (suc p) ≡ digests x p
    unfolding cut_digests
    digests_none d = rw (not_apart t x (suc p) low less, d)

    pub digests_left : digit x p ≡ 1 → t < base x p → digests x (suc p) ≡ digests (left x p) p ++ top pre vs x p
    unfolding cut_digests
    digests_left d o =
        rw (not_apart t x (suc p) low less, d, lt-leb (base x p) t o) (rw (digests_one pre (apart t) vs x p (apart_behind t x p o)))

    pub digests_right : digit x p ≡ 1 → base x p ≤ t → digests x (suc p) ≡ digests x p ++ top pre vs (left x p) p
    unfolding cut_digests
    digests_right d o =
        rw (not_apart t x (suc p) low less, d, le-leb (base x p) t o)
        (rw (digests_one pre (apart t) vs (left x p) p (apart_before t (left x p) p (omega (arith, left_pred x p d)))))
