-- The way from a leaf up to the root is the one that the recursion on the height goes down.
-- Assumes nothing.
use mathlib.Core.List.{List, [], ◌∷◌, ◌++◌, append_assoc, append-nil}
use mathlib.Core.Path.{◌≡◌, sym, ap, ◌∙◌}
use Prim.Native.Nat.{ℕ, suc, ◌+◌, ◌*◌, ◌-◌, ◌≤◌, ◌<◌}
use native.Mathlib.Omega.{arith}
use borrow.Author.Tests.{le-ltb, lt-ltb}
use lib.ListN.{length, take, drop}
use lib.Seq.{drop-drop}
use Rattle.sha256.specs.Fips180.{sha256}
use Rattle.slate.specs.Address.{Present, highest}
use Rattle.slate.specs.Bytes.{part}
use Rattle.slate.specs.Claims as claims
use Rattle.slate.specs.Digits.{base, digit, left, max_height}
use Rattle.slate.specs.Moves.{hops_from, lefts_from}
use Rattle.slate.specs.Path.{fold_from, path_from}
use Rattle.slate.specs.Tree.{Rule, top}
use Rattle.slate.specs.Way.{Address, Way, at_top, digests, fold_up, from_left, from_right}
use Rattle.slate.proofs.Addresses.{left_highest, left_top, to_highest}
use Rattle.slate.proofs.Bits.{base_zero, left_base, left_end, left_lt, left_pred, no_left, whole_base}
use Rattle.slate.proofs.Descent.{moves_left, moves_none, moves_right, to_leaf}
use Rattle.slate.proofs.Formulas.{hops_formula, lefts_formula}
use Rattle.slate.proofs.Tops.{top_highest}

-- ---- what is under a child is under its node

module _ (x p t : ℕ) (d : digit x p ≡ 1) where
  above_left : base (left x p) p ≤ t → t ≤ left x p → (base x (suc p) ≤ t) × (t ≤ x) × (t < base x p)
  above_left low high = (omega (arith, left_base x p d), omega (arith, left_lt x p d), omega (arith, left_pred x p d))

  above_right : base x (highest x p) ≤ t → (base x (suc p) ≤ t) × (base x p ≤ t)
  above_right low =
      let e : base x p ≡ base x (highest x p) = to_highest x (base x) (λ q z. sym (no_left x q z)) p in
      (omega (arith, left_end x p d), omega arith)

-- ---- the moves

module _ (x t : ℕ) where
  hops_highest : (h : ℕ) → hops_from x h t ≡ hops_from x (highest x h) t
  hops_highest = to_highest x (λ (q : ℕ). hops_from x q t) (λ p d. moves_none x p t d)

  lefts_highest : (h : ℕ) → lefts_from x h t ≡ lefts_from x (highest x h) t
  unfolding lefts_from
  lefts_highest = to_highest x (λ (q : ℕ). lefts_from x q t) (λ p d. rw d)

module _ (x p t : ℕ) (d : digit x p ≡ 1) where
  lefts_left : t < base x p → lefts_from x (suc p) t ≡ suc (lefts_from (left x p) p t)
  unfolding lefts_from
  lefts_left o = rw (d, lt-ltb t (base x p) o)

  lefts_right : base x p ≤ t → lefts_from x (suc p) t ≡ lefts_from x p t
  unfolding lefts_from
  lefts_right o = rw (d, le-ltb t (base x p) o)

module _ (n t : ℕ) where
  way_hops : {j h l : ℕ} {s : List Address} → Way n j h l s → base (j - 1) h ≤ t → t ≤ j - 1
      → hops_from (j - 1) h t + length s ≡ hops_from (n - 1) max_height t
  unfolding base left
  way_hops at_top low high = omega (arith, hops_highest (n - 1) t max_height)
  way_hops (from_left {i} {p} at up) low high =
      let a = above_left (i - 1) p t at.node low high in
      omega (arith, way_hops up a.0 a.1, moves_left (i - 1) p t at.node a.2)
  way_hops (from_right {i} {p} at up) low high =
      let a = above_right (i - 1) p t at.node low in
      omega (arith, way_hops up a.0 high, moves_right (i - 1) p t at.node a.1, hops_highest (i - 1) t p)

  way_lefts : {j h l : ℕ} {s : List Address} → Way n j h l s → base (j - 1) h ≤ t → t ≤ j - 1
      → lefts_from (j - 1) h t + l ≡ lefts_from (n - 1) max_height t
  unfolding base left
  way_lefts at_top low high = omega (arith, lefts_highest (n - 1) t max_height)
  way_lefts (from_left {i} {p} at up) low high =
      let a = above_left (i - 1) p t at.node low high in
      omega (arith, way_lefts up a.0 a.1, lefts_left (i - 1) p t at.node a.2)
  way_lefts (from_right {i} {p} at up) low high =
      let a = above_right (i - 1) p t at.node low in
      omega (arith, way_lefts up a.0 high, lefts_right (i - 1) p t at.node a.1, lefts_highest (i - 1) t p)

-- ---- the path

module _ (pre : Rule) (vs : List (List ℕ)) (x p t : ℕ) where
  path_none : digit x p ≡ 0 → path_from pre vs x (suc p) t ≡ path_from pre vs x p t
  unfolding path_from
  path_none d = rw d

  path_left : digit x p ≡ 1 → t < base x p → path_from pre vs x (suc p) t ≡ path_from pre vs (left x p) p t ++ top pre vs x p
  unfolding path_from
  path_left d o = rw (d, lt-ltb t (base x p) o)

  path_right : digit x p ≡ 1 → base x p ≤ t → path_from pre vs x (suc p) t ≡ path_from pre vs x p t ++ top pre vs (left x p) p
  unfolding path_from
  path_right d o = rw (d, le-ltb t (base x p) o)

module _ (pre : Rule) (vs : List (List ℕ)) (n t : ℕ) where
  path_highest : (x h : ℕ) → path_from pre vs x h t ≡ path_from pre vs x (highest x h) t
  path_highest x = to_highest x (λ (q : ℕ). path_from pre vs x q t) (λ p d. path_none pre vs x p t d)

  pub way_path : {j h l : ℕ} {s : List Address} → Way n j h l s → base (j - 1) h ≤ t → t ≤ j - 1
      → path_from pre vs (j - 1) h t ++ digests pre vs s ≡ path_from pre vs (n - 1) max_height t
  unfolding base left
  way_path at_top low high = append-nil (path_from pre vs (n - 1) (highest (n - 1) max_height) t) ∙ sym (path_highest (n - 1) max_height)
  way_path (from_left {i} {p} at up) low high =
      let a = above_left (i - 1) p t at.node low high in
      rw (← top_highest pre vs (i - 1) p, ← append_assoc, ← path_left pre vs (i - 1) p t at.node a.2) (way_path up a.0 a.1)
  way_path (from_right {i} {p} at up) low high =
      let a = above_right (i - 1) p t at.node low in
      rw (← left_top pre vs (i - 1) p at.node, ← path_highest (i - 1) p, ← append_assoc)
      (rw (← path_right pre vs (i - 1) p t at.node a.1)
      (way_path up a.0 high))

pub way_moves : claims.WayMoves
unfolding hops_from lefts_from
way_moves n i l s first last small way =
    let low : base (i - 1) 0 ≤ i - 1 = omega (arith, base_zero (i - 1)) in (
      omega (arith, hops_formula n i first last small, way_hops n (i - 1) way low (omega arith)),
      omega (arith, lefts_formula n i first last small, way_lefts n (i - 1) way low (omega arith)),
    )

-- ---- the fold

module _ (pre : Rule) (x p t : ℕ) (d proof : List ℕ) where
  fold_none : digit x p ≡ 0 → fold_from pre x (suc p) t d proof ≡ fold_from pre x p t d proof
  unfolding fold_from
  fold_none z = rw z

  fold_left : digit x p ≡ 1 → t < base x p
      → fold_from pre x (suc p) t d proof
      ≡ sha256 (pre (suc p) ∷ (fold_from pre (left x p) p t d proof ++ take 32 (drop (32 * hops_from (left x p) p t) proof)))
  unfolding fold_from part
  fold_left s o = rw (s, lt-ltb t (base x p) o)

  fold_right : digit x p ≡ 1 → base x p ≤ t
      → fold_from pre x (suc p) t d proof
      ≡ sha256 (pre (suc p) ∷ (take 32 (drop (32 * hops_from x p t) proof) ++ fold_from pre x p t d proof))
  unfolding fold_from part
  fold_right s o = rw (s, le-ltb t (base x p) o)

-- the proof behind one sibling more
behind : (k m : ℕ) (proof : List ℕ) → m ≡ suc k → drop 32 (drop (32 * k) proof) ≡ drop (32 * m) proof
behind k m proof e = let r : 32 * k + 32 ≡ 32 * m = omega arith in drop-drop 32 (32 * k) proof ∙ ap (λ (q : ℕ). drop q proof) r

module _ (pre : Rule) (n t : ℕ) (d proof : List ℕ) where
  fold_highest : (x h : ℕ) → fold_from pre x h t d proof ≡ fold_from pre x (highest x h) t d proof
  fold_highest x = to_highest x (λ (q : ℕ). fold_from pre x q t d proof) (λ p z. fold_none pre x p t d proof z)

  pub way_fold : {j h l : ℕ} {s : List Address} (way : Way n j h l s) → base (j - 1) h ≤ t → t ≤ j - 1
      → fold_from pre (n - 1) max_height t d proof
      ≡ fold_up pre way (fold_from pre (j - 1) h t d proof) (drop (32 * hops_from (j - 1) h t) proof)
  unfolding base left fold_up
  way_fold at_top low high = fold_highest (n - 1) max_height
  way_fold (from_left {i} {p} at up) low high =
      let a = above_left (i - 1) p t at.node low high in
      rw (behind _ _ proof (moves_left (i - 1) p t at.node a.2), ← fold_left pre (i - 1) p t d proof at.node a.2)
      (way_fold up a.0 a.1)
  way_fold (from_right {i} {p} at up) low high =
      let a = above_right (i - 1) p t at.node low in
      rw (← hops_highest (i - 1) t p, ← fold_highest (i - 1) p)
      (rw (behind _ _ proof (moves_right (i - 1) p t at.node a.1), ← fold_right pre (i - 1) p t d proof at.node a.1)
      (way_fold up a.0 high))

-- ---- there is a way from each leaf

-- one move longer, from the node at position x
module _ (n x p l : ℕ) (s : List Address) (lt : x < n) (d : digit x p ≡ 1) (up : Way n (suc x) (suc p) l s) where
  same_position : suc x - 1 ≡ x
  same_position = omega arith

  here : Present n (suc x) (suc p)
  here = record { low = omega arith; high = lt; node = rw same_position d }

  longer_left : Way n (suc (left x p)) (highest (left x p) p) (suc l) (record { index = suc x; height = highest x p } ∷ s)
  unfolding base
  longer_left = rw (left_highest x p d, left_pred x p d) (rw same_position at (from_left here up))

  longer_right : Way n (suc x) (highest x p) l (record { index = base x p; height = p } ∷ s)
  unfolding base
  longer_right = rw same_position at (from_right here up)

-- a way from a node up is part of one from each leaf under it
abbrev Reaches : ℕ → ℕ → ℕ → ℕ → Type 0
Reaches n t x h = (l : ℕ) (s : List Address) → Way n (suc x) (highest x h) l s → (k : ℕ) × (r : List Address) × Way n (suc t) 0 k r

reaches : (n t x h : ℕ) → x < n → base x h ≤ t → t ≤ x → Reaches n t x h
unfolding highest
reaches n t x h lt low high =
    to_leaf {P = λ (y q : ℕ). y < n → Reaches n t y q} t
    (λ b l s w. (l, s, w))
    (λ y p a b d r m l s w. r m l s (rw d at w))
    (λ y p a b d o r m l s w. r (omega (arith, left_lt y p d)) _ _ (longer_left n y p l s m d (rw d at w)))
    (λ y p a b d o r m l s w. r m _ _ (longer_right n y p l s m d (rw d at w)))
    x h low high lt

pub way_there : claims.WayThere
way_there n i first last small =
    let e : suc (n - 1) ≡ n = omega arith in
    let f : suc (i - 1) ≡ i = omega arith in
    let w : Way n (suc (n - 1)) (highest (n - 1) max_height) 0 [] = rw e at_top in
    rw f at
    (reaches n (i - 1) (n - 1) max_height (omega arith) (omega (arith, whole_base (n - 1) max_height (omega arith))) (omega arith) _ _ w)
