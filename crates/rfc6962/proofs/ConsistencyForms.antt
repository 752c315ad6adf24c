-- The consistency check, test by test as the code makes them.
-- Assumes nothing.
use mathlib.Core.Bool.{Bool, true, false}
use mathlib.Core.List.{List}
use mathlib.Core.Path.{◌≡◌, sym, ap, ◌∙◌}
use Prim.Native.Nat.{ℕ, ◌*◌, ◌^◌, ◌≤◌}
use borrow.Author.Tests.{eq-eqb, le-leb}
use lib.ListN.{length, get_or}
use Rattle.slate.specs.Bytes.{same}
use Rattle.slate.specs.Digits.{max_height}
use Rattle.slate.specs.Tree.{rfc6962}
use Rattle.slate.specs.Index.{is_index}
use Rattle.entry.proofs.Tests.{all_fails, last_test}
use Rattle.rfc6962.specs.Consistency.{consistency_holds, consistency_tests, digest_count, new_root, old_root}

module _ (m n : ℕ) (proof old new : List ℕ) where
  -- one test fails
  pub not_consistent : (i : ℕ) → get_or (consistency_tests rfc6962 m n proof old new) i true ≡ false → false ≡ consistency_holds rfc6962 m n proof old new
  unfolding consistency_holds
  not_consistent i t = sym (all_fails (consistency_tests rfc6962 m n proof old new) i t)

  -- the old root r that comes out is another one
  pub old_other : (r : List ℕ) (t : Bool) → r ≡ old_root rfc6962 m n proof old → t ≡ same r old → t ≡ false
      → false ≡ consistency_holds rfc6962 m n proof old new
  unfolding consistency_tests
  old_other r t er et f = not_consistent 5 (ap (λ (q : List ℕ). same q old) (sym er) ∙ sym et ∙ f)

  -- it is the lent one, and so the new root q decides
  pub new_decides : is_index m n ≡ true → n ≤ 2 ^ max_height → length old ≡ 32 → length new ≡ 32 → length proof ≡ 32 * digest_count m n
      → (r q : List ℕ) (s t : Bool) → r ≡ old_root rfc6962 m n proof old → q ≡ new_root rfc6962 m n proof old
      → s ≡ same r old → s ≡ true → t ≡ same q new → t ≡ consistency_holds rfc6962 m n proof old new
  unfolding consistency_holds consistency_tests
  new_decides index few old_long new_long whole r q s t er eq es held et =
      let h : same (old_root rfc6962 m n proof old) old ≡ true = ap (λ (l : List ℕ). same l old) (sym er) ∙ sym es ∙ held in
      et ∙ ap (λ (l : List ℕ). same l new) eq
      ∙ sym (rw (index, le-leb _ _ few, eq-eqb _ _ old_long, eq-eqb _ _ new_long, eq-eqb _ _ whole, h) (last_test _))
