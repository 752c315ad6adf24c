-- The consistency check and the trees of two lists of values: it takes PROOF(m, D[n]) with their roots, and what its yes is worth.
-- Assumes nothing.
use mathlib.Core.List.{List, [], ◌++◌, append-nil}
use mathlib.Core.Logic.{◌⊎◌, inl, inr, ⊎_elim}
use mathlib.Core.Path.{◌≡◌, sym, ap, ◌∙◌}
use Prim.Native.Nat.{ℕ, suc, ◌*◌, ◌-◌, ◌^◌, ◌≤◌, ◌<◌}
use native.Mathlib.Omega.{arith}
use lib.ListN.{length, take}
use lib.Seq.{ext_get_or, get_or-take, length-take-le, take_all}
use Rattle.slate.specs.Clash.{Clash, Same}
use Rattle.slate.specs.Digits.{base, max_height}
use Rattle.slate.specs.Hashed.{ClashAmong}
use Rattle.slate.specs.Tree.{Rule, top}
use Rattle.slate.proofs.Bits.{whole_base}
use Rattle.slate.proofs.Clashes.{tops_values}
use Rattle.slate.proofs.Tops.{top_length}
use Rattle.rfc6962.specs.Claims as claims
use Rattle.rfc6962.specs.Consistency.{new_from, new_root, old_from, old_root, sibling_count}
use Rattle.rfc6962.specs.Hashed.{inputs_from, new_inputs}
use Rattle.rfc6962.specs.Rfc6962.{mth}
use Rattle.rfc6962.proofs.Apart.{digests}
use Rattle.rfc6962.proofs.Binding.{new_binds}
use Rattle.rfc6962.proofs.Checks.{check_complete, check_sound}
use Rattle.rfc6962.proofs.SiblingCounts.{up_to_whole}
use Rattle.rfc6962.proofs.FirstDigest.{proof_read, read_length}
use Rattle.rfc6962.proofs.Folds.{new_complete, old_complete}
use Rattle.rfc6962.proofs.MthRoots.{mth_first, mth_top}
use Rattle.rfc6962.proofs.Splits.{size, up_to}
use Rattle.rfc6962.proofs.Subproofs.{proof_length}

-- ---- from the first m to all values

module _ (pre : Rule) (vs : List (List ℕ)) (m : ℕ) (some : 1 ≤ m) (le : m ≤ length vs) (few : length vs ≤ 2 ^ max_height) where
  abbrev last : ℕ
  last = length vs - 1

  whole : base last max_height ≡ 0
  whole = whole_base last max_height (omega arith)

  first_m : up_to (m - 1) last max_height ≡ m
  first_m = up_to_whole m last some (omega arith)

  all_n : size last max_height ≡ length vs
  all_n = up_to_whole (length vs) last (omega arith) (omega arith)

  module _ (first s : List ℕ) (digest : length first ≡ 32) where
    -- the digests are those of the tree
    abbrev Own : Type 0
    Own = first ++ s ≡ digests pre vs (m - 1) last max_height

    old_whole : Own → old_from pre max_height m (length vs) first s ≡ top pre vs (m - 1) max_height
    old_whole e =
        rw (first_m, all_n)
        at (old_complete pre vs (m - 1) first s digest last max_height max_height (omega (arith, whole)) (omega (arith, whole)) (omega arith) []
        (e ∙ sym (append-nil (digests pre vs (m - 1) last max_height))))

    new_whole : Own → new_from pre max_height m (length vs) first s ≡ top pre vs last max_height
    new_whole e =
        rw (first_m, all_n)
        at (new_complete pre vs (m - 1) first s digest last max_height max_height (omega (arith, whole)) (omega (arith, whole)) (omega arith) []
        (e ∙ sym (append-nil (digests pre vs (m - 1) last max_height))))

    binds_whole : length s ≡ 32 * sibling_count max_height m (length vs) → new_from pre max_height m (length vs) first s ≡ top pre vs last max_height
        → Own ⊎ ClashAmong pre vs (inputs_from pre max_height 0 m (length vs) first s)
    binds_whole l e =
        let b = rw (first_m, all_n, whole)
        at (new_binds pre vs (m - 1) first s digest last max_height max_height (omega (arith, whole)) (omega (arith, whole)) (omega arith)) in
        ⊎_elim
        (λ g. inl (ap (λ (r : List ℕ). first ++ r) (sym (take_all (32 * sibling_count max_height m (length vs)) s (omega arith))) ∙ g))
        inr
        (b (omega arith) (omega arith) e)

pub proof_consistent : claims.ProofConsistent
unfolding old_root new_root
proof_consistent pre vs m some le few =
    let x : ℕ = length vs - 1 in
    let r = proof_read pre vs m some le few in
    rw (mth_first pre vs m some le (omega arith), mth_top pre vs x (omega arith) (omega arith))
    (check_complete pre m (length vs) _ _ _
    (record {
      first = some;
      last = le;
      few = few;
      old_digest = top_length pre vs (m - 1) max_height;
      new_digest = top_length pre vs x max_height;
      whole = proof_length pre vs m some le few;
      old_folds = old_whole pre vs m some le few _ _ r.0 r.1;
      new_folds = new_whole pre vs m some le few _ _ r.0 r.1;
    }))

-- ---- what a yes is worth

-- the same values from the first on
first_values : (vs ws : List (List ℕ)) → length ws ≤ length vs → Same 0 (length ws) ws vs → take (length ws) vs ≡ ws
first_values vs ws le s =
    let l : length (take (length ws) vs) ≡ length ws = length-take-le (length ws) vs le in
    ext_get_or [] (take (length ws) vs) ws l (λ i b. get_or-take (length ws) vs i [] (omega arith) ∙ sym (s i (omega arith) (omega arith)))

-- one root of all values of ws and of the first of vs
roots_values : (pre : Rule) (vs ws : List (List ℕ)) (t : ℕ) → length ws ≡ suc t → length ws ≤ length vs → t < 2 ^ max_height
    → top pre ws t max_height ≡ top pre vs t max_height → (take (length ws) vs ≡ ws) ⊎ Clash pre ws vs
roots_values pre vs ws t n le few e =
    let z : base t max_height ≡ 0 = whole_base t max_height few in
    ⊎_elim
    (λ s. inl (first_values vs ws le (λ i a b. s i (omega arith) (omega arith))))
    inr
    (tops_values pre ws vs t max_height (omega arith) (omega arith) e)

pub consistency_worth : claims.ConsistencyWorth
unfolding old_root new_root new_inputs
consistency_worth pre vs ws ds h =
    let w = check_sound pre (length ws) (length vs) ds (mth pre ws) (mth pre vs) h in
    let some : 1 ≤ length ws = w.first in
    let le : length ws ≤ length vs = w.last in
    let few : length vs ≤ 2 ^ max_height = w.few in
    let r = read_length (length ws) (length vs) ds (mth pre ws) w.old_digest w.whole in
    let t : ℕ = length ws - 1 in
    let e : mth pre ws ≡ top pre ws t max_height = mth_top pre ws t (omega arith) (omega arith) in
    ⊎_elim
    (λ g. ⊎_elim inl (λ c. inr (inl c))
    (roots_values pre vs ws t (omega arith) le (omega arith)
    (sym e ∙ sym w.old_folds ∙ old_whole pre vs (length ws) some le few _ _ r.0 g)))
    (λ c. inr (inr c))
    (binds_whole pre vs (length ws) some le few _ _ r.0 r.1 (w.new_folds ∙ mth_top pre vs (length vs - 1) (omega arith) (omega arith)))
