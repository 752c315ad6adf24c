-- The digests of the subtrees outside the positions from a to t, by case: h is p + 1.
-- Assumes nothing.
use mathlib.Core.Bool.{Bool, true, false}
use mathlib.Core.List.{List, [], ◌++◌}
use mathlib.Core.Path.{◌≡◌, sym, ◌∙◌}
use Prim.Native.Nat.{ℕ, zero, suc, ◌≤◌, ◌<◌}
use native.Mathlib.Omega.{arith}
use borrow.Author.Tests.{le-leb, le-ltb, lt-leb, lt-ltb}
use lib.Dec.{ltb}
use lib.ListN.{length, drop_of_length-le, length-append}
use lib.Seq.{drop-append-le}
use Rattle.slate.specs.Digits.{base, digit, left}
use Rattle.slate.specs.PartialTree.{cut_digests, outside}
use Rattle.slate.specs.Tree.{rfc6962, top}
use Rattle.slate.proofs.Bits.{base_zero}
use Rattle.slate.proofs.Cases.{by_bool, by_digit, by_order}
use Rattle.slate.proofs.Outside.{not_outside, outside_before, outside_behind}
use Rattle.slate.proofs.PartialTree.{digests_one}
use Rattle.slate.proofs.Tops.{top_length}
use Rattle.rfc6962.specs.Layouts.{digests_under, toward}

-- ---- what is cut off, test by test as the code makes them

pub outside_last : (a t x h : ℕ) → a ≤ x → ltb t (base x h) ≡ outside a (suc t) x h
outside_last a t x h le =
    by_order t (base x h)
    (λ o. lt-ltb t (base x h) o ∙ sym (outside_behind a (suc t) x h o))
    (λ o. le-ltb t (base x h) o ∙ sym (not_outside a (suc t) x h le (omega arith)))

-- ---- the digests of a layout

module _ (a t : ℕ) (vs : List (List ℕ)) where
  abbrev all : ℕ → ℕ → List ℕ
  all x h = cut_digests rfc6962 (toward a t) vs x h

  -- under a node that is not cut off
  module _ (x p : ℕ) (within : outside a (suc t) x (suc p) ≡ false) where
    all_none : digit x p ≡ 0 → all x (suc p) ≡ all x p
    unfolding cut_digests
    all_none d = rw (within, d)

    all_right : digit x p ≡ 1 → base x p ≤ t → all x (suc p) ≡ all x p ++ all (left x p) p
    unfolding cut_digests
    all_right d o = rw (within, d, le-leb (base x p) t o)

    all_left : digit x p ≡ 1 → t < base x p → all x (suc p) ≡ all (left x p) p ++ all x p
    unfolding cut_digests
    all_left d o = rw (within, d, lt-leb (base x p) t o)

-- where every leaf is cut off, each node has a digest
leaf_outside : (t x : ℕ) → outside (suc t) (suc t) x 0 ≡ true
leaf_outside t x =
    by_order x (suc t) (outside_before (suc t) (suc t) x 0) (λ o. outside_behind (suc t) (suc t) x 0 (omega (arith, base_zero x)))

some_digest : (t : ℕ) (vs : List (List ℕ)) (x h : ℕ) → 32 ≤ length (all (suc t) t vs x h)
some_digest t vs x zero =
    rw (digests_one rfc6962 (toward (suc t) t) vs x 0 (leaf_outside t x)) (omega (arith, top_length rfc6962 vs x 0))
some_digest t vs x (suc p) =
    by_bool (outside (suc t) (suc t) x (suc p))
    (λ c. rw (digests_one rfc6962 (toward (suc t) t) vs x (suc p) c) (omega (arith, top_length rfc6962 vs x (suc p))))
    (λ c. by_digit x p
    (λ d. rw (all_none (suc t) t vs x p c d) (some_digest t vs x p))
    (λ d. by_order t (base x p)
    (λ o. rw (all_left (suc t) t vs x p c d o, length-append) (omega (arith, some_digest t vs x p)))
    (λ o. rw (all_right (suc t) t vs x p c d o, length-append) (omega (arith, some_digest t vs x p)))))

-- ---- the digests as they are written

module _ (omit : Bool) (a t : ℕ) (vs : List (List ℕ)) where
  -- a subtree that is cut off
  pub under_cut : (x h : ℕ) → outside a (suc t) x h ≡ true → omit ≡ false → digests_under omit a t vs x h ≡ top rfc6962 vs x h
  unfolding digests_under
  under_cut x h c f = rw f (digests_one rfc6962 (toward a t) vs x h c)

  pub under_omitted : (x h : ℕ) → outside a (suc t) x h ≡ true → omit ≡ true → digests_under omit a t vs x h ≡ []
  unfolding digests_under
  under_omitted x h c f =
      rw (f, digests_one rfc6962 (toward a t) vs x h c) (drop_of_length-le (top rfc6962 vs x h) {i = 32} (omega (arith, top_length rfc6962 vs x h)))

  pub under_leaf : (x : ℕ) → outside a (suc t) x 0 ≡ false → digests_under omit a t vs x 0 ≡ []
  unfolding digests_under cut_digests
  under_leaf x c = by_bool omit (λ f. rw (f, c)) (λ f. rw (f, c))

  module _ (whole : omit ≡ true → a ≡ suc t) (x p : ℕ) (within : outside a (suc t) x (suc p) ≡ false) where
    pub under_none : digit x p ≡ 0 → digests_under omit a t vs x (suc p) ≡ digests_under omit a t vs x p
    unfolding digests_under
    under_none d = rw (all_none a t vs x p within d)

    -- without the first of two lists end to end: without the first of the first list
    split : (y z : ℕ) → all a t vs x (suc p) ≡ all a t vs y p ++ all a t vs z p
        → digests_under omit a t vs x (suc p) ≡ digests_under omit a t vs y p ++ digests_under false a t vs z p
    unfolding digests_under
    split y z e =
        by_bool omit
        (λ f. rw (f, e) (drop-append-le 32 (all a t vs y p) (all a t vs z p) (rw (whole f) (some_digest t vs y p))))
        (λ f. rw (f, e))

    pub under_right : digit x p ≡ 1 → base x p ≤ t
        → digests_under omit a t vs x (suc p) ≡ digests_under omit a t vs x p ++ digests_under false a t vs (left x p) p
    under_right d o = split x (left x p) (all_right a t vs x p within d o)

    pub under_left : digit x p ≡ 1 → t < base x p
        → digests_under omit a t vs x (suc p) ≡ digests_under omit a t vs (left x p) p ++ digests_under false a t vs x p
    under_left d o = split (left x p) x (all_left a t vs x p within d o)
