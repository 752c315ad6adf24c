-- MTH is the digest of the tree by heights, for any prefix rule.
-- Assumes nothing.
use mathlib.Core.List.{List, [], ◌∷◌}
use mathlib.Core.Path.{◌≡◌, refl, sym, ap, ◌∙◌}
use Prim.Native.Nat.{ℕ, zero, suc, ◌-◌, ◌^◌, ◌≤◌, ◌<◌}
use native.Mathlib.Omega.{arith}
use borrow.Author.Tests.{le-leb}
use lib.ListN.{length, take}
use Rattle.slate.specs.Digits.{max_height}
use Rattle.slate.specs.Tree.{Rule, root, top}
use Rattle.slate.proofs.Bits.{base_le, base_zero, left_lt, no_left, whole_base}
use Rattle.rfc6962.specs.Claims as claims
use Rattle.rfc6962.specs.Rfc6962.{mth, mth_from}
use Rattle.rfc6962.proofs.Runs.{run, run_left, run_length, run_more, run_one, run_right, run_split, run_whole}
use Rattle.rfc6962.proofs.Splits.{below_power, size, to_splits}

module _ (pre : Rule) (vs : List (List ℕ)) where
  mth_leaf : (x f : ℕ) → x < length vs → mth_from pre f (run vs x 0) ≡ top pre vs x 0
  unfolding mth_from top
  mth_leaf x zero lt = rw (run_one vs x lt)
  mth_leaf x (suc f) lt = rw (le-leb (length (run vs x 0)) 1 (omega (arith, run_length vs x 0 lt, base_zero x)), run_one vs x lt)

  mth_from_lem : (x h f : ℕ) → size x h ≤ 2 ^ f → x < length vs → mth_from pre f (run vs x h) ≡ top pre vs x h
  unfolding mth_from top
  mth_from_lem =
      to_splits {P = λ x h f. x < length vs → mth_from pre f (run vs x h) ≡ top pre vs x h}
      mth_leaf
      (λ x p f d e lt. rw (d, ← no_left x p d) (e lt))
      (λ x p f d l r lt. rw (
        d,
        run_more vs x p lt d,
        run_split vs x p lt d,
        run_left vs x p lt d,
        run_right vs x p lt d,
        l (omega (arith, left_lt x p d)),
        r lt,
      ))

mth_some : (pre : Rule) (ds : List (List ℕ)) → 0 < length ds → mth pre ds ≡ mth_from pre (length ds - 1) ds
unfolding mth
mth_some pre [] l = absurd (omega arith)
mth_some pre (d ∷ ds) l = let e : suc (length ds) - 1 ≡ length ds = omega arith in rw e

-- MTH of the values under a node is its digest
pub mth_run : (pre : Rule) (vs : List (List ℕ)) (x h : ℕ) → x < length vs → mth pre (run vs x h) ≡ top pre vs x h
mth_run pre vs x h lt =
    let l : length (run vs x h) ≡ size x h = run_length vs x h lt in
    mth_some pre (run vs x h) (omega (arith, base_le x h))
    ∙ mth_from_lem pre vs x h (length (run vs x h) - 1) (omega (arith, below_power (length (run vs x h) - 1))) lt

-- MTH of the first m values
pub mth_first : (pre : Rule) (vs : List (List ℕ)) (m : ℕ) → 1 ≤ m → m ≤ length vs → m ≤ 2 ^ max_height
    → mth pre (take m vs) ≡ top pre vs (m - 1) max_height
mth_first pre vs m some le few =
    let e : suc (m - 1) ≡ m = omega arith in
    rw (whole_base (m - 1) max_height (omega arith), e) at (mth_run pre vs (m - 1) max_height (omega arith))

-- MTH of all values
pub mth_top : (pre : Rule) (vs : List (List ℕ)) (x : ℕ) → length vs ≡ suc x → x < 2 ^ max_height → mth pre vs ≡ top pre vs x max_height
mth_top pre vs x e lt = ap (mth pre) (sym (run_whole vs x max_height e (whole_base x max_height lt))) ∙ mth_run pre vs x max_height (omega arith)

pub mth_root : claims.MthIsRoot
unfolding mth root
mth_root pre [] few = refl
mth_root pre (v ∷ vs) few = mth_top pre (v ∷ vs) (length vs) refl (omega arith)
