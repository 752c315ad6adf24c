-- The leaf under unequal tops to which the digests lead: it lies under them, its values differ, and none before it does, or there is a clash.
-- Assumes nothing.
use mathlib.Core.List.{List}
use mathlib.Core.Logic.{inl}
use mathlib.Core.Path.{◌≡◌, refl, sym, ap, ap₂, ◌∙◌}
use Prim.Native.Nat.{ℕ, zero, suc, ◌-◌}
use native.Mathlib.Omega.{arith}
use Rattle.sha256.specs.Fips180.{sha256}
use Rattle.slate.specs.Claims as claims
use Rattle.slate.specs.Difference.{differing_leaf}
use Rattle.slate.specs.Digits.{base, digit, left}
use Rattle.slate.specs.Tree.{Rule, leaf_input, node_input, top}
use Rattle.slate.proofs.Addresses.{left_top, to_highest}
use Rattle.slate.proofs.Bits.{base_zero, left_base, left_end, left_lt, left_pred, no_left}
use Rattle.slate.proofs.Cases.{by_digit, by_equal}
use Rattle.slate.proofs.Clashes.{same_joined, tops_values}
use Rattle.slate.proofs.Lists.{same_ne, same_refl}
use Rattle.slate.proofs.Tops.{top_set}

module _ (pre : Rule) (vs ws : List (List ℕ)) (x p : ℕ) where
  pub leaf_none : digit x p ≡ 0 → differing_leaf pre vs ws x (suc p) ≡ differing_leaf pre vs ws x p
  unfolding differing_leaf
  leaf_none d = rw d

  module _ (d : digit x p ≡ 1) where
    pub leaf_right : top pre vs (left x p) p ≡ top pre ws (left x p) p
        → differing_leaf pre vs ws x (suc p) ≡ differing_leaf pre vs ws x p
    unfolding differing_leaf
    leaf_right e = rw (d, e, same_refl (top pre ws (left x p) p))

    pub leaf_left : (top pre vs (left x p) p ≡ top pre ws (left x p) p → ⊥)
        → differing_leaf pre vs ws x (suc p) ≡ differing_leaf pre vs ws (left x p) p
    unfolding differing_leaf
    leaf_left n = rw (d, same_ne (top pre vs (left x p) p) (top pre ws (left x p) p) n)

    -- of a node whose left digests are equal, the right digests differ where its own do
    pub right_differs : top pre vs (left x p) p ≡ top pre ws (left x p) p → (top pre vs x (suc p) ≡ top pre ws x (suc p) → ⊥)
        → top pre vs x p ≡ top pre ws x p → ⊥
    right_differs e n q =
        n (top_set pre vs x p d ∙ ap₂ (λ (l r : List ℕ). sha256 (node_input pre (suc p) l r)) e q ∙ sym (top_set pre ws x p d))

pub leaf_by_digests : claims.LeafByDigests
unfolding base differing_leaf left
leaf_by_digests pre vs ws = (
  λ i. refl,
  λ m i p at.
      let l = left_top pre vs (i - 1) p at.node in
      let r = left_top pre ws (i - 1) p at.node in
      let low = to_highest (i - 1) (differing_leaf pre vs ws (i - 1)) (leaf_none pre vs ws (i - 1)) p in (
        λ n. leaf_left pre vs ws (i - 1) p at.node (λ e. n (sym l ∙ e ∙ r)),
        λ e. leaf_right pre vs ws (i - 1) p at.node (l ∙ e ∙ sym r) ∙ low,
      ),
)

pub leaf_under : claims.LeafUnder
unfolding differing_leaf
leaf_under pre vs ws x zero = (omega (arith, base_zero x), omega arith)
leaf_under pre vs ws x (suc p) =
    by_digit x p
    (λ d. let u = leaf_under pre vs ws x p in rw (leaf_none pre vs ws x p d) (omega (arith, no_left x p d, u.0), u.1))
    (λ d. by_equal (top pre vs (left x p) p) (top pre ws (left x p) p)
    (λ e. let u = leaf_under pre vs ws x p in rw (leaf_right pre vs ws x p d e) (omega (arith, left_end x p d, u.0), u.1))
    (λ n.
    let u = leaf_under pre vs ws (left x p) p in
    rw (leaf_left pre vs ws x p d n) (omega (arith, left_base x p d, u.0), omega (arith, left_lt x p d, u.1))))

pub leaf_differs : claims.LeafDiffers
unfolding differing_leaf top
leaf_differs pre vs ws x zero n = λ e. n (ap (λ (v : List ℕ). sha256 (leaf_input pre v)) e)
leaf_differs pre vs ws x (suc p) n =
    by_digit x p
    (λ d. rw (leaf_none pre vs ws x p d) (leaf_differs pre vs ws x p (rw d at n)))
    (λ d. by_equal (top pre vs (left x p) p) (top pre ws (left x p) p)
    (λ e. rw (leaf_right pre vs ws x p d e) (leaf_differs pre vs ws x p (right_differs pre vs ws x p d e n)))
    (λ m. rw (leaf_left pre vs ws x p d m) (leaf_differs pre vs ws (left x p) p m)))

pub leaf_first : claims.LeafFirst
unfolding differing_leaf
leaf_first pre vs ws x zero lv lw = inl (λ k a b. absurd (omega (arith, base_zero x)))
leaf_first pre vs ws x (suc p) lv lw =
    by_digit x p
    (λ d. rw (leaf_none pre vs ws x p d, ← no_left x p d) (leaf_first pre vs ws x p lv lw))
    (λ d. by_equal (top pre vs (left x p) p) (top pre ws (left x p) p)
    (λ e.
    let l = tops_values pre vs ws (left x p) p (omega (arith, left_lt x p d)) (omega (arith, left_lt x p d)) e in
    rw (leaf_right pre vs ws x p d e)
    (same_joined vs ws (base x (suc p)) (base x p) (differing_leaf pre vs ws x p) (rw (left_base x p d, left_pred x p d) at l)
    (leaf_first pre vs ws x p lv lw)))
    (λ n.
    rw (leaf_left pre vs ws x p d n, ← left_base x p d)
    (leaf_first pre vs ws (left x p) p (omega (arith, left_lt x p d)) (omega (arith, left_lt x p d)))))
