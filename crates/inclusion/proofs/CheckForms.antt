-- The proof check, test by test as the code makes them.
-- Assumes nothing.
use mathlib.Core.Bool.{Bool, true, false}
use mathlib.Core.List.{List}
use mathlib.Core.Path.{◌≡◌, sym, ◌∙◌}
use Prim.Native.Nat.{ℕ, ◌*◌, ◌-◌, ◌^◌, ◌≤◌}
use borrow.Author.Tests.{eq-eqb, le-leb}
use lib.ListN.{length, get_or}
use Rattle.sha256.specs.Fips180.{sha256}
use Rattle.slate.specs.Bytes.{same}
use Rattle.slate.specs.Digits.{max_height}
use Rattle.slate.specs.Index.{is_index}
use Rattle.slate.specs.Moves.{hops}
use Rattle.slate.specs.Path.{fold, fold_from}
use Rattle.slate.specs.Tree.{Rule, leaf_input}
use Rattle.entry.specs.Kind.{is_item}
use Rattle.inclusion.specs.Check.{proof_holds, proof_tests}
use Rattle.entry.proofs.Tests.{all_fails, last_test}

module _ (pre : Rule) (n i : ℕ) (v proof root : List ℕ) where
  -- one test fails
  pub not_holds : (k : ℕ) → get_or (proof_tests pre n i v proof root) k true ≡ false → proof_holds pre n i v proof root ≡ false
  unfolding proof_holds
  not_holds k h = all_fails (proof_tests pre n i v proof root) k h

  -- all tests but the last one hold
  pub holds_last : is_index i n ≡ true → n ≤ 2 ^ max_height → is_item v ≡ true → length proof ≡ 32 * hops n i → length root ≡ 32
      → proof_holds pre n i v proof root ≡ same (fold pre n i v proof) root
  unfolding proof_holds proof_tests
  holds_last index few item whole digest =
      rw (index, le-leb _ _ few, item, eq-eqb _ _ whole, eq-eqb _ _ digest) (last_test (same (fold pre n i v proof) root))

  -- t is whether the fold d of the leaf's digest is the root
  pub holds_fold : is_index i n ≡ true → n ≤ 2 ^ max_height → is_item v ≡ true → length proof ≡ 32 * hops n i → length root ≡ 32
      → (leaf d : List ℕ) → leaf ≡ sha256 (leaf_input pre v) → d ≡ fold_from pre (n - 1) max_height (i - 1) leaf proof
      → (t : Bool) → t ≡ same d root → t ≡ proof_holds pre n i v proof root
  holds_fold index few item whole digest leaf d el ed t et =
      et ∙ rw (ed, el) (sym (holds_last index few item whole digest))
