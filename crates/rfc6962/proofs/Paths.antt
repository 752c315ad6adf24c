-- PATH is the path of the tree by heights, for any prefix rule.
-- Assumes nothing.
use mathlib.Core.List.{List}
use mathlib.Core.Path.{◌≡◌, refl}
use Prim.Native.Nat.{ℕ, zero, suc, ◌-◌, ◌^◌, ◌≤◌, ◌<◌}
use native.Mathlib.Omega.{arith}
use borrow.Author.Tests.{le-leb, le-ltb, lt-ltb}
use lib.ListN.{length}
use Rattle.slate.specs.Digits.{base, left, max_height}
use Rattle.slate.specs.Path as slate
use Rattle.slate.specs.Tree.{Rule}
use Rattle.slate.proofs.Bits.{base_under, base_zero, left_base, left_end, left_lt, no_left, whole_base}
use Rattle.slate.proofs.Cases.{by_order}
use Rattle.rfc6962.specs.Claims as claims
use Rattle.rfc6962.specs.Rfc6962.{path_from}
use Rattle.rfc6962.proofs.MthRoots.{mth_run}
use Rattle.rfc6962.proofs.Runs.{run, run_left, run_length, run_more, run_right, run_split, run_whole}
use Rattle.rfc6962.proofs.Splits.{below_power, size, to_splits}

module _ (pre : Rule) (vs : List (List ℕ)) (t : ℕ) where
  abbrev Agrees : ℕ → ℕ → ℕ → Type 0
  Agrees x h f = x < length vs → base x h ≤ t → t ≤ x → path_from pre f (t - base x h) (run vs x h) ≡ slate.path_from pre vs x h t

  path_leaf : (x f : ℕ) → Agrees x 0 f
  unfolding path_from slate.path_from
  path_leaf x zero lt low high = refl
  path_leaf x (suc f) lt low high = rw (le-leb (length (run vs x 0)) 1 (omega (arith, run_length vs x 0 lt, base_zero x)))

  path_from_lem : (x h f : ℕ) → size x h ≤ 2 ^ f → Agrees x h f
  unfolding path_from slate.path_from
  path_from_lem =
      to_splits {P = Agrees}
      path_leaf
      (λ x p f d e lt low high. rw (d, ← no_left x p d) (e lt (omega (arith, no_left x p d)) high))
      (λ x p f d l r lt low high. rw (d, run_more vs x p lt d, run_split vs x p lt d, run_left vs x p lt d, run_right vs x p lt d)
      (by_order t (base x p)
      (λ o.
      let w = base_under x p t d low o in
      rw (
        lt-ltb t (base x p) o,
        lt-ltb (t - base x (suc p)) (2 ^ p) (omega (arith, left_end x p d)),
        mth_run pre vs x p lt,
        ← left_base x p d,
        l (omega (arith, left_lt x p d)) w.0 w.1,
      ))
      (λ o.
      let e : t - base x (suc p) - 2 ^ p ≡ t - base x p = omega (arith, left_end x p d) in
      rw (
        le-ltb t (base x p) o,
        le-ltb (t - base x (suc p)) (2 ^ p) (omega (arith, left_end x p d)),
        mth_run pre vs (left x p) p (omega (arith, left_lt x p d)),
        e,
        r lt o high,
      ))))

pub path_is : claims.PathIsPath
path_is pre vs i first last few =
    let x : ℕ = length vs - 1 in
    let z : base x max_height ≡ 0 = whole_base x max_height (omega arith) in
    let m : i - 1 - base x max_height ≡ i - 1 = omega arith in
    rw (m, run_whole vs x max_height (omega arith) z)
    at (path_from_lem pre vs (i - 1) x max_height (length vs) (omega (arith, below_power (length vs))) (omega arith) (omega arith) (omega arith))

pub path_layout : claims.PathLayout
path_layout t = refl
