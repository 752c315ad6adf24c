-- The path of one value is a proof over part of the tree: its siblings are the digests of the subtrees cut off.
-- Assumes nothing.
use mathlib.Core.Bool.{true, false}
use mathlib.Core.List.{List, [], ◌++◌, append-nil}
use mathlib.Core.Logic.{◌⊎◌, ⊎_map}
use mathlib.Core.Path.{◌≡◌, refl, sym, ◌∙◌}
use Prim.Native.Nat.{ℕ, zero, suc, ◌*◌, ◌-◌, ◌^◌, ◌≤◌, ◌<◌}
use native.Mathlib.Omega.{arith}
use borrow.Author.Tests.{le-leb, le-ltb, lt-leb, lt-ltb}
use lib.Dec.{ltb}
use lib.ListN.{length, get_or, length-append}
use Rattle.sha256.specs.Fips180.{sha256}
use Rattle.slate.specs.Address.{HasNode}
use Rattle.slate.specs.Bytes.{part}
use Rattle.slate.specs.Claims as claims
use Rattle.slate.specs.Digits.{base, digit, left, max_height}
use Rattle.slate.specs.Moves.{hops, hops_from}
use Rattle.slate.specs.PartialTree.{cut_digests, cuts, outside, rebuilt, single}
use Rattle.slate.specs.Path.{fold, fold_from, path_from}
use Rattle.slate.specs.Tree.{Rule, leaf_input, root, top}
use Rattle.slate.proofs.Bits.{base_under, base_zero, left_pred, whole_base}
use Rattle.slate.proofs.Cases.{by_bool, by_digit}
use Rattle.slate.proofs.Descent.{to_leaf}
use Rattle.slate.proofs.Formulas.{hops_formula}
use Rattle.slate.proofs.Outside.{not_outside, outside_before, outside_behind, outside_false, outside_steady}
use Rattle.slate.proofs.PartialTree.{Forged, cuts_one, digests_one, hashes_at, rebuilt_complete, rebuilt_one, rebuilt_sound}
use Rattle.slate.proofs.Tops.{root_top, top_length}

-- ---- the path and the fold are of this layout

module _ (t : ℕ) where
  kept : (x h : ℕ) → base x h ≤ t → t ≤ x → outside t (suc t) x h ≡ false
  kept x h a b = not_outside t (suc t) x h b (omega arith)

  kept_leaf : outside t (suc t) t 0 ≡ false
  kept_leaf = kept t 0 (omega (arith, base_zero t)) (omega arith)

  right_cut : (x p : ℕ) → t < base x p → outside t (suc t) x p ≡ true
  right_cut x p o = outside_behind t (suc t) x p o

  left_cut : (x p : ℕ) → digit x p ≡ 1 → base x p ≤ t → outside t (suc t) (left x p) p ≡ true
  left_cut x p d o = outside_before t (suc t) (left x p) p (omega (arith, left_pred x p d))

  pub single_count : (x h : ℕ) → base x h ≤ t → t ≤ x → cuts (single t) x h ≡ hops_from x h t
  unfolding cuts hops_from
  single_count =
      to_leaf t
      (rw kept_leaf)
      (λ x p a b d e. rw (kept x (suc p) a b, d) e)
      (λ x p a b d o e. rw (kept x (suc p) a b, d, lt-ltb t (base x p) o) (rw (cuts_one (single t) x p (right_cut x p o)) (omega arith)))
      (λ x p a b d o e. rw (kept x (suc p) a b, d, le-ltb t (base x p) o) (rw (cuts_one (single t) (left x p) p (left_cut x p d o)) (omega arith)))

  pub single_path : (pre : Rule) (vs : List (List ℕ)) (x h : ℕ) → base x h ≤ t → t ≤ x → cut_digests pre (single t) vs x h ≡ path_from pre vs x h t
  unfolding cut_digests path_from
  single_path pre vs =
      to_leaf t
      (rw kept_leaf)
      (λ x p a b d e. rw (kept x (suc p) a b, d) e)
      (λ x p a b d o e. rw (kept x (suc p) a b, d, lt-ltb t (base x p) o, lt-leb (base x p) t o)
      (rw (digests_one pre (single t) vs x p (right_cut x p o), e)))
      (λ x p a b d o e. rw (kept x (suc p) a b, d, le-ltb t (base x p) o, le-leb (base x p) t o)
      (rw (digests_one pre (single t) vs (left x p) p (left_cut x p d o), e)))

  pub single_fold : (pre : Rule) (v proof : List ℕ) (x h : ℕ) → base x h ≤ t → t ≤ x
      → rebuilt pre (single t) (λ y. v) x h proof ≡ fold_from pre x h t (sha256 (leaf_input pre v)) proof
  unfolding rebuilt fold_from part
  single_fold pre v proof =
      to_leaf t
      (rw kept_leaf)
      (λ x p a b d e. rw (kept x (suc p) a b, d) e)
      (λ x p a b d o e. rw (kept x (suc p) a b, d, lt-ltb t (base x p) o, lt-leb (base x p) t o)
      (let w = base_under x p t d a o in
      rw (rebuilt_one pre (single t) (λ y. v) x p _ (right_cut x p o), e, single_count (left x p) p w.0 w.1)))
      (λ x p a b d o e. rw (kept x (suc p) a b, d, le-ltb t (base x p) o, le-leb (base x p) t o)
      (rw (rebuilt_one pre (single t) (λ y. v) (left x p) p _ (left_cut x p d o), e, single_count x p o b)))

  -- what is forged lies on the path: a node of the tree with t under it
  pub forged_on_path : {pre : Rule} {val : ℕ → List ℕ} {ds : List ℕ} {vs : List (List ℕ)} {x h : ℕ}
      (g : Forged pre (single t) val ds vs x h)
      → (g.position ≤ x) × HasNode g.position g.height × (base g.position g.height ≤ t) × (t ≤ g.position)
  forged_on_path {pre} {val} g =
      let at = hashes_at pre (single t) val g.on in
      let over = outside_false t (suc t) g.position g.height at.1 in
      (at.0, at.2, omega arith, over.0)

pub single_layout : claims.SinglePath
single_layout pre t x h low high = (
  single_count t x h low high,
  λ vs. single_path t pre vs x h low high,
  λ v proof. single_fold t pre v proof x h low high,
)

-- ---- length

pub path_length : (pre : Rule) (vs : List (List ℕ)) (x h t : ℕ) → length (path_from pre vs x h t) ≡ 32 * hops_from x h t
unfolding path_from hops_from
path_length pre vs x zero t = refl
path_length pre vs x (suc p) t =
    by_digit x p
    (λ d. rw d (path_length pre vs x p t))
    (λ d. rw d
    (by_bool (ltb t (base x p))
    (λ o. rw (o, length-append, top_length, path_length pre vs (left x p) p t) (omega arith))
    (λ o. rw (o, length-append, top_length, path_length pre vs x p t) (omega arith))))

-- ---- completeness and soundness

module _ (pre : Rule) (vs : List (List ℕ)) (x h t : ℕ) (low : base x h ≤ t) (high : t ≤ x) where
  -- the value folds to the digest of the tree, with any proof that begins with its path
  pub fold_begins : (r : List ℕ) → fold_from pre x h t (sha256 (leaf_input pre (get_or vs t []))) (path_from pre vs x h t ++ r) ≡ top pre vs x h
  fold_begins r =
      sym (single_fold t pre (get_or vs t []) (path_from pre vs x h t ++ r) x h low high)
      ∙ rw (← single_path t pre vs x h low high)
      (rebuilt_complete pre (single t) vs (λ y. get_or vs t []) x h r
      (λ y a b u. let e : y ≡ t = omega (arith, base_zero y, outside_false t (suc t) y 0 u) in rw e))

  pub fold_path : fold_from pre x h t (sha256 (leaf_input pre (get_or vs t []))) (path_from pre vs x h t) ≡ top pre vs x h
  fold_path = rw append-nil at (fold_begins [])

  -- what folds to the digest of the tree is the value, or an input is forged
  pub fold_sound : (v proof : List ℕ) → 32 * hops_from x h t ≤ length proof
      → fold_from pre x h t (sha256 (leaf_input pre v)) proof ≡ top pre vs x h
      → (v ≡ get_or vs t []) ⊎ Forged pre (single t) (λ y. v) proof vs x h
  fold_sound v proof f e =
      ⊎_map (λ r. r t low high (kept_leaf t)) (λ g. g)
      (rebuilt_sound pre (single t) vs (λ y. v) (outside_steady t (suc t)) x h proof (omega (arith, single_count t x h low high))
      (single_fold t pre v proof x h low high ∙ e))

-- ---- in the document's terms: value i among all the values

module _ (pre : Rule) (vs : List (List ℕ)) (i : ℕ) (first : 1 ≤ i) (last : i ≤ length vs) (small : length vs ≤ 2 ^ max_height) where
  whole : base (length vs - 1) max_height ≤ i - 1
  whole = omega (arith, whole_base (length vs - 1) max_height (omega arith))

  whole_root : root pre vs ≡ top pre vs (length vs - 1) max_height
  whole_root = root_top pre vs (length vs - 1) (omega arith)

  -- what folds to the root is value i, or an input on the path is forged
  pub inclusion_sound : (v proof : List ℕ) → length proof ≡ 32 * hops (length vs) i → fold pre (length vs) i v proof ≡ root pre vs
      → (v ≡ get_or vs (i - 1) []) ⊎ Forged pre (single (i - 1)) (λ y. v) proof vs (length vs - 1) max_height
  inclusion_sound v proof f e =
      fold_sound pre vs (length vs - 1) max_height (i - 1) whole (omega arith) v proof
      (omega (arith, hops_formula (length vs) i first last small)) (e ∙ whole_root)

pub inclusion_length : claims.PathLength
inclusion_length pre vs i first last small =
    rw (hops_formula (length vs) i first last small) (path_length pre vs (length vs - 1) max_height (i - 1))

pub inclusion_complete : claims.FoldPath
inclusion_complete pre vs i first last small =
    fold_path pre vs (length vs - 1) max_height (i - 1) (whole pre vs i first last small) (omega arith)
    ∙ sym (whole_root pre vs i first last small)
