-- SUBPROOF(m, D[n], b) is the digests of the subtrees that are apart, without the first where b is true and it is omitted; for any prefix rule.
-- Assumes nothing.
use mathlib.Core.Bool.{Bool, true, false}
use mathlib.Core.List.{List, [], ◌++◌}
use mathlib.Core.Path.{◌≡◌, refl, ap, ◌∙◌}
use Prim.Native.Nat.{ℕ, zero, suc, ◌+◌, ◌*◌, ◌-◌, ◌^◌, ◌≤◌, ◌<◌}
use native.Mathlib.Omega.{arith}
use borrow.Author.Tests.{eq-eqb}
use lib.ListN.{length, drop, drop_of_length-le, length-drop}
use lib.Seq.{drop-append-le}
use Rattle.sha256.specs.Pick.{pick}
use Rattle.slate.specs.Digits.{base, digit, left, max_height}
use Rattle.slate.specs.Tree.{Rule, top}
use Rattle.slate.proofs.Bits.{base_under, left_lt, no_left, whole_base}
use Rattle.slate.proofs.PartialTree.{digests_length}
use Rattle.slate.proofs.Tops.{top_length}
use Rattle.rfc6962.specs.Claims as claims
use Rattle.rfc6962.specs.Consistency.{digest_count, omitted, sibling_count}
use Rattle.rfc6962.specs.Layouts.{apart}
use Rattle.rfc6962.specs.Rfc6962.{subproof_from}
use Rattle.rfc6962.proofs.Apart.{digests, digests_end, digests_left, digests_none, digests_right, digests_some}
use Rattle.rfc6962.proofs.SiblingCounts.{cuts_whole, up_to_whole}
use Rattle.rfc6962.proofs.Ends.{goes_left, goes_right, not_end, to_end, up_to_left, up_to_right}
use Rattle.rfc6962.proofs.Omitted.{flag_left, flag_right, omitted_same}
use Rattle.rfc6962.proofs.MthRoots.{mth_run}
use Rattle.rfc6962.proofs.Runs.{run, run_left, run_length, run_right, run_split, run_whole}
use Rattle.rfc6962.proofs.Splits.{below_power, size, up_to}

-- without the first digest, where c
abbrev pub without : Bool → List ℕ → List ℕ
without c ds = pick c (drop 32 ds) ds

without_append : (c : Bool) (a b : List ℕ) → 32 ≤ length a → without c (a ++ b) ≡ without c a ++ b
without_append true a b l = drop-append-le 32 a b l
without_append false a b l = refl

module _ (pre : Rule) (vs : List (List ℕ)) (t : ℕ) where
  -- ---- the RFC's cases, on the values under a node

  sub_end : (h f : ℕ) → t < length vs → (b : Bool) → subproof_from pre f (up_to t t h) (run vs t h) b ≡ pick b [] (top pre vs t h)
  unfolding subproof_from
  sub_end h zero lt b = rw (mth_run pre vs t h lt)
  sub_end h (suc f) lt b = rw (eq-eqb (up_to t t h) (length (run vs t h)) (omega (arith, run_length vs t h lt)), mth_run pre vs t h lt)

  module _ (x p f : ℕ) (lt : x < length vs) (b : Bool) (low : base x (suc p) ≤ t) (less : t < x) (d : digit x p ≡ 1) where
    sub_left : t < base x p
        → subproof_from pre (suc f) (up_to t x (suc p)) (run vs x (suc p)) b
        ≡ subproof_from pre f (up_to t (left x p) p) (run vs (left x p) p) b ++ top pre vs x p
    unfolding subproof_from
    sub_left o =
        rw (
          run_split vs x p lt d,
          run_length vs x (suc p) lt,
          not_end t x p low less,
          goes_left t x p low d o,
          run_left vs x p lt d,
          run_right vs x p lt d,
          mth_run pre vs x p lt,
          up_to_left t x p d,
        )

    sub_right : base x p ≤ t
        → subproof_from pre (suc f) (up_to t x (suc p)) (run vs x (suc p)) b
        ≡ subproof_from pre f (up_to t x p) (run vs x p) false ++ top pre vs (left x p) p
    unfolding subproof_from
    sub_right o =
        rw (
          run_split vs x p lt d,
          run_length vs x (suc p) lt,
          not_end t x p low less,
          goes_right t x p low d o,
          run_left vs x p lt d,
          run_right vs x p lt d,
          mth_run pre vs (left x p) p (omega (arith, left_lt x p d)),
          up_to_right t x p d,
        )

  -- ---- against the digests

  abbrev D : ℕ → ℕ → List ℕ
  D x h = digests pre vs t x h

  end : (h : ℕ) (b : Bool) → pick b [] (top pre vs t h) ≡ without (pick b true false) (top pre vs t h)
  end h true = rw (drop_of_length-le (top pre vs t h) {i = 32} (omega (arith, top_length pre vs t h)))
  end h false = refl

  never : (b : Bool) → pick b false false ≡ false
  never true = refl
  never false = refl

  abbrev Agrees : ℕ → ℕ → ℕ → Type 0
  Agrees x h f =
      x < length vs → (b : Bool)
      → subproof_from pre f (up_to t x h) (run vs x h) b ≡ without (pick b (omitted (up_to t x h) (size x h)) false) (D x h)

  sub_is : (x h f : ℕ) → size x h ≤ 2 ^ f → base x h ≤ t → t ≤ x → Agrees x h f
  sub_is =
      to_end {P = Agrees} t
      (λ h f lt b. rw (sub_end h f lt b, digests_end pre vs t h, omitted_same (up_to t t h) (up_to t t h) refl) (end h b))
      (λ x p f low q d e lt b. rw (digests_none pre vs t x p low q d, ← no_left x p d) (e lt b))
      (λ x p f low q d o few e lt b.
      let w = base_under x p t d low o in
      let flag : Bool = pick b (omitted (up_to t (left x p) p) (size (left x p) p)) false in
      rw (
        sub_left x p f lt b low q d o,
        digests_left pre vs t x p low q d o,
        flag_left t x p low q d o,
        e (omega (arith, left_lt x p d)) b,
        without_append flag (D (left x p) p) (top pre vs x p) (digests_some pre vs t (left x p) p w.0 w.1),
      ))
      (λ x p f low q d o few e lt b. rw (
        sub_right x p f lt b low q d o,
        digests_right pre vs t x p low q d o,
        flag_right t x p low q d o,
        never b,
        e lt false,
      ))

-- PROOF(m, D[n])
pub proof_is : claims.ProofIsCut
proof_is pre vs m first last few =
    let x : ℕ = length vs - 1 in
    let z : base x max_height ≡ 0 = whole_base x max_height (omega arith) in
    rw (up_to_whole m x first (omega arith), up_to_whole (length vs) x (omega arith) (omega arith), run_whole vs x max_height (omega arith) z)
    at (sub_is pre vs (m - 1) x max_height (length vs) (omega (arith, below_power (length vs))) (omega arith) (omega arith) (omega arith) true)

without_length : (c : Bool) (n : ℕ) (ds : List ℕ) → length ds ≡ 32 * suc n → length (without c ds) ≡ 32 * (pick c 0 1 + n)
without_length true n ds e = rw (length-drop 32 ds) (omega arith)
without_length false n ds e = omega arith

pub proof_length : claims.ProofLength
unfolding digest_count
proof_length pre vs m first last few =
    rw (proof_is pre vs m first last few)
    (without_length (omitted m (length vs)) (sibling_count max_height m (length vs)) (digests pre vs (m - 1) (length vs - 1) max_height)
    (digests_length pre (apart (m - 1)) vs (length vs - 1) max_height ∙ ap (λ (c : ℕ). 32 * c) (cuts_whole m (length vs) first last few)))
