-- The consistency check says yes exactly where both roots come out of the proof; from n to n values the proof is empty, and a yes means equal
-- roots.
-- Assumes nothing.
use mathlib.Core.List.{List, []}
use mathlib.Core.Path.{◌≡◌, refl, sym, ◌∙◌}
use Prim.Native.Nat.{ℕ, ◌*◌, ◌^◌}
use native.Mathlib.Omega.{arith}
use borrow.Author.Tests.{eq-eqb, eqb-true, le-leb, leb-true}
use lib.ListN.{length}
use Rattle.slate.specs.Digits.{max_height}
use Rattle.slate.specs.Tree.{Rule}
use Rattle.slate.proofs.Lists.{same_refl, same_true}
use Rattle.entry.proofs.Tests.{all_at}
use Rattle.slate.proofs.Indexes.{index_range, to_index}
use Rattle.rfc6962.specs.Claims as claims
use Rattle.rfc6962.specs.Consistency.{consistency_holds, consistency_tests, digest_count, new_root, old_root}
use Rattle.rfc6962.proofs.SiblingCounts.{count_end}
use Rattle.rfc6962.proofs.Folds.{new_end, old_end}
use Rattle.rfc6962.proofs.Omitted.{omitted_same}
use Rattle.rfc6962.proofs.Runs.{none_left}

pub check_sound : claims.ConsistencySound
unfolding consistency_holds consistency_tests
check_sound pre m n ds old new h =
    let ts = consistency_tests pre m n ds old new in
    let range = index_range m n (all_at ts 0 h) in
    record {
      first = range.0;
      last = range.1;
      few = leb-true _ _ (all_at ts 1 h);
      old_digest = eqb-true _ _ (all_at ts 2 h);
      new_digest = eqb-true _ _ (all_at ts 3 h);
      whole = eqb-true _ _ (all_at ts 4 h);
      old_folds = same_true _ _ (all_at ts 5 h);
      new_folds = same_true _ _ (all_at ts 6 h);
    }

pub check_complete : claims.ConsistencyComplete
unfolding consistency_holds consistency_tests
check_complete pre m n ds old new w =
    rw (
      to_index m n w.first w.last,
      le-leb n (2 ^ max_height) w.few,
      eq-eqb (length old) 32 w.old_digest,
      eq-eqb (length new) 32 w.new_digest,
      eq-eqb (length ds) (32 * digest_count m n) w.whole,
      w.old_folds,
      w.new_folds,
      same_refl old,
      same_refl new,
    )

-- ---- from n to n values

same_count : (n : ℕ) → digest_count n n ≡ 0
unfolding digest_count
same_count n = rw (omitted_same n n refl, count_end max_height n n refl)

module _ (pre : Rule) (n : ℕ) (ds old : List ℕ) where
  same_old : old_root pre n n ds old ≡ old
  unfolding old_root
  same_old = rw (omitted_same n n refl) (old_end pre old ds max_height n)

  same_new : new_root pre n n ds old ≡ old
  unfolding new_root
  same_new = rw (omitted_same n n refl) (new_end pre old ds max_height n)

pub same_size : claims.SameSize
same_size pre n ds old new = (
  λ h. let w = check_sound pre n n ds old new h in
      (none_left ds (omega (arith, w.whole, same_count n)), sym (same_new pre n ds old) ∙ w.new_folds),
  λ some few l. check_complete pre n n [] old old
      (record {
        first = some;
        last = omega arith;
        few = few;
        old_digest = l;
        new_digest = l;
        whole = omega (arith, same_count n);
        old_folds = same_old pre n [] old;
        new_folds = same_new pre n [] old;
      }),
)
