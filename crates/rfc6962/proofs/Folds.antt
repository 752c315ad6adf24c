-- The two roots of a consistency proof, at each node on the way to the end of the first t + 1 values; and out of the digests of a tree come its
-- own roots.
-- Assumes nothing.
use mathlib.Core.List.{List, ◌++◌, append_assoc}
use mathlib.Core.Path.{◌≡◌, refl, sym, ap, ◌∙◌}
use Prim.Native.Nat.{ℕ, zero, suc, ◌+◌, ◌*◌, ◌-◌, ◌^◌, ◌≤◌, ◌<◌}
use native.Mathlib.Omega.{arith}
use borrow.Author.Tests.{eq-eqb}
use lib.Dec.{eqb, leb}
use lib.ListN.{length, take, drop}
use lib.Seq.{drop_at, drop-drop}
use Rattle.sha256.specs.Fips180.{sha256}
use Rattle.sha256.proofs.DigestBytes.{digest_length}
use Rattle.slate.specs.Bytes.{part}
use Rattle.slate.specs.Digits.{base, digit, left}
use Rattle.slate.specs.Path.{sibling}
use Rattle.slate.specs.Tree.{Rule, node_input, top}
use Rattle.slate.proofs.Bits.{base_under, block_same, no_left, under_left, under_none, under_right}
use Rattle.slate.proofs.Cases.{by_bool}
use Rattle.slate.proofs.Lists.{append_inj, part_is}
use Rattle.slate.proofs.PartialTree.{digests_length}
use Rattle.slate.proofs.Tops.{top_length, top_set, top_unset}
use Rattle.rfc6962.specs.Consistency.{new_from, old_from, sibling_count}
use Rattle.rfc6962.specs.Layouts.{apart}
use Rattle.rfc6962.specs.Rfc6962.{k, split_height}
use Rattle.rfc6962.proofs.Apart.{digests, digests_end, digests_left, digests_none, digests_right}
use Rattle.rfc6962.proofs.SiblingCounts.{count_cuts}
use Rattle.rfc6962.proofs.Ends.{goes_left, goes_right, left_full, not_end, to_end, up_to_left, up_to_right}
use Rattle.rfc6962.proofs.Splits.{node_split, size, up_to}

module _ (pre : Rule) (first s : List ℕ) where
  pub old_end : (f m : ℕ) → old_from pre f m m first s ≡ first
  unfolding old_from
  old_end zero m = refl
  old_end (suc f) m = rw (eq-eqb m m refl)

  pub new_end : (f m : ℕ) → new_from pre f m m first s ≡ first
  unfolding new_from
  new_end zero m = refl
  new_end (suc f) m = rw (eq-eqb m m refl)

  pub new_length : (f m n : ℕ) → length first ≡ 32 → length (new_from pre f m n first s) ≡ 32
  unfolding new_from
  new_length zero m n l = l
  new_length (suc f) m n l =
      by_bool (eqb m n)
      (λ e. rw e l)
      (λ e. rw e
      (by_bool (leb m (k n))
      (λ o. rw o
      (digest_length (node_input pre (suc (split_height n)) (new_from pre f m (k n) first s) (sibling s (sibling_count f m (k n))))))
      (λ o. rw o
      (digest_length
      (node_input pre (suc (split_height n)) (sibling s (sibling_count f (m - k n) (n - k n))) (new_from pre f (m - k n) (n - k n) first s))))))

  -- ---- at a node on the way

  module _ (t x p f : ℕ) (low : base x (suc p) ≤ t) (less : t < x) (d : digit x p ≡ 1) where
    pub old_left : t < base x p
        → old_from pre (suc f) (up_to t x (suc p)) (size x (suc p)) first s ≡ old_from pre f (up_to t (left x p) p) (size (left x p) p) first s
    unfolding old_from
    old_left o = rw (not_end t x p low less, node_split x p d, goes_left t x p low d o, up_to_left t x p d, left_full x p d)

    pub old_right : base x p ≤ t
        → old_from pre (suc f) (up_to t x (suc p)) (size x (suc p)) first s
        ≡ sha256 (node_input pre (suc p) (sibling s (sibling_count f (up_to t x p) (size x p))) (old_from pre f (up_to t x p) (size x p) first s))
    unfolding old_from
    old_right o = rw (not_end t x p low less, node_split x p d, goes_right t x p low d o, up_to_right t x p d, up_to_right x x p d)

    pub new_left : t < base x p
        → new_from pre (suc f) (up_to t x (suc p)) (size x (suc p)) first s
        ≡ sha256
        (node_input pre (suc p) (new_from pre f (up_to t (left x p) p) (size (left x p) p) first s)
        (sibling s (sibling_count f (up_to t (left x p) p) (size (left x p) p))))
    unfolding new_from
    new_left o = rw (not_end t x p low less, node_split x p d, goes_left t x p low d o, up_to_left t x p d, left_full x p d)

    pub new_right : base x p ≤ t
        → new_from pre (suc f) (up_to t x (suc p)) (size x (suc p)) first s
        ≡ sha256 (node_input pre (suc p) (sibling s (sibling_count f (up_to t x p) (size x p))) (new_from pre f (up_to t x p) (size x p) first s))
    unfolding new_from
    new_right o = rw (not_end t x p low less, node_split x p d, goes_right t x p low d o, up_to_right t x p d, up_to_right x x p d)

-- ---- the digests of a tree

-- behind the first digest and c siblings stands the next one
sibling_is : (first s a b r : List ℕ) (c : ℕ) → length first ≡ 32 → length a ≡ 32 * suc c → length b ≡ 32 → first ++ s ≡ a ++ (b ++ r)
    → sibling s c ≡ b
unfolding part
sibling_is first s a b r c lf la lb e =
    let q : s ≡ drop 32 (a ++ (b ++ r)) = sym (drop_at first s 32 lf) ∙ ap (drop 32) e in
    ap (λ (l : List ℕ). take 32 (drop (32 * c) l)) q ∙ ap (take 32) (drop-drop (32 * c) 32 (a ++ (b ++ r)))
    ∙ part_is a b r (32 + 32 * c) 32 (omega arith) lb

module _ (pre : Rule) (vs : List (List ℕ)) (t : ℕ) (first s : List ℕ) (digest : length first ≡ 32) where
  abbrev D : ℕ → ℕ → List ℕ
  D x h = digests pre vs t x h

  end : (h : ℕ) (r : List ℕ) → first ++ s ≡ D t h ++ r → first ≡ top pre vs t h
  end h r e = (append_inj 32 first s (top pre vs t h) r digest (top_length pre vs t h) (e ∙ rw (digests_end pre vs t h))).0

  -- the sibling of a node on the way is what stands behind its digests
  next : (x h f : ℕ) (b r : List ℕ) → size x h ≤ 2 ^ f → base x h ≤ t → t ≤ x → length b ≡ 32 → first ++ s ≡ D x h ++ (b ++ r)
      → sibling s (sibling_count f (up_to t x h) (size x h)) ≡ b
  next x h f b r few low high lb e =
      sibling_is first s (D x h) b r (sibling_count f (up_to t x h) (size x h)) digest
      (digests_length pre (apart t) vs x h ∙ ap (λ (c : ℕ). 32 * c) (count_cuts t x h f few low high)) lb e

  -- out of a proof that begins with the digests of a node comes the digest of its values up to t
  pub old_complete : (x h f : ℕ) → size x h ≤ 2 ^ f → base x h ≤ t → t ≤ x → (r : List ℕ) → first ++ s ≡ D x h ++ r
      → old_from pre f (up_to t x h) (size x h) first s ≡ top pre vs t h
  old_complete =
      to_end {P = λ x h f. (r : List ℕ) → first ++ s ≡ D x h ++ r → old_from pre f (up_to t x h) (size x h) first s ≡ top pre vs t h} t
      (λ h f r e. rw (old_end pre first s f (up_to t t h)) (end h r e))
      (λ x p f low q d c r e. rw (← no_left x p d, top_unset pre vs t p (under_none x p t d low (omega arith)))
      (c r (e ∙ rw (digests_none pre vs t x p low q d))))
      (λ x p f low q d o few c r e. rw (old_left pre first s t x p f low q d o, top_unset pre vs t p (under_left x p t d low o))
      (c (top pre vs x p ++ r) (e ∙ rw (digests_left pre vs t x p low q d o, append_assoc))))
      (λ x p f low q d o few c r e.
      let l : left t p ≡ left x p = unfold left in ap (λ (j : ℕ). j - 1) (block_same x p t o (omega arith)) in
      let m : first ++ s ≡ D x p ++ (top pre vs (left x p) p ++ r) = e ∙ rw (digests_right pre vs t x p low q d o, append_assoc) in
      rw (
        old_right pre first s t x p f low q d o,
        top_set pre vs t p (under_right x p t d o (omega arith)),
        l,
        c (top pre vs (left x p) p ++ r) m,
        next x p f (top pre vs (left x p) p) r few o (omega arith) (top_length pre vs (left x p) p) m,
      ))

  -- and that of all its values
  pub new_complete : (x h f : ℕ) → size x h ≤ 2 ^ f → base x h ≤ t → t ≤ x → (r : List ℕ) → first ++ s ≡ D x h ++ r
      → new_from pre f (up_to t x h) (size x h) first s ≡ top pre vs x h
  new_complete =
      to_end {P = λ x h f. (r : List ℕ) → first ++ s ≡ D x h ++ r → new_from pre f (up_to t x h) (size x h) first s ≡ top pre vs x h} t
      (λ h f r e. rw (new_end pre first s f (up_to t t h)) (end h r e))
      (λ x p f low q d c r e. rw (← no_left x p d, top_unset pre vs x p d) (c r (e ∙ rw (digests_none pre vs t x p low q d))))
      (λ x p f low q d o few c r e.
      let w = base_under x p t d low o in
      let m : first ++ s ≡ D (left x p) p ++ (top pre vs x p ++ r) = e ∙ rw (digests_left pre vs t x p low q d o, append_assoc) in
      rw (
        new_left pre first s t x p f low q d o,
        top_set pre vs x p d,
        c (top pre vs x p ++ r) m,
        next (left x p) p f (top pre vs x p) r few w.0 w.1 (top_length pre vs x p) m,
      ))
      (λ x p f low q d o few c r e.
      let m : first ++ s ≡ D x p ++ (top pre vs (left x p) p ++ r) = e ∙ rw (digests_right pre vs t x p low q d o, append_assoc) in
      rw (
        new_right pre first s t x p f low q d o,
        top_set pre vs x p d,
        c (top pre vs (left x p) p ++ r) m,
        next x p f (top pre vs (left x p) p) r few o (omega arith) (top_length pre vs (left x p) p) m,
      ))
