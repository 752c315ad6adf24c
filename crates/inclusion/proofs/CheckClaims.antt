-- The proof check says yes exactly where the value is included.
-- Assumes nothing.
use mathlib.Core.Path.{◌∙◌}
use borrow.Author.Tests.{eqb-true, leb-true}
use Rattle.inclusion.specs.Check.{proof_holds, proof_tests}
use Rattle.inclusion.specs.Claims as claims
use Rattle.slate.proofs.Indexes.{index_range, to_index}
use Rattle.slate.proofs.Lists.{same_refl, same_true}
use Rattle.entry.proofs.Tests.{all_at}
use Rattle.inclusion.proofs.CheckForms.{holds_last}

pub check_sound : claims.CheckSound
unfolding proof_holds proof_tests
check_sound pre n i v proof r h =
    let ts = proof_tests pre n i v proof r in
    let range = index_range i n (all_at ts 0 h) in
    record {
      first = range.0;
      last = range.1;
      few = leb-true _ _ (all_at ts 1 h);
      item = all_at ts 2 h;
      whole = eqb-true _ _ (all_at ts 3 h);
      digest = eqb-true _ _ (all_at ts 4 h);
      folds = same_true _ _ (all_at ts 5 h);
    }

pub check_complete : claims.CheckComplete
check_complete pre n i v proof r w =
    holds_last pre n i v proof r (to_index i n w.first w.last) w.few w.item w.whole w.digest
    ∙ rw w.folds (same_refl r)
