-- The root of a log, as the code makes it.
-- Assumes nothing.
use Rattle.std.proofs.Common.{None}
use mathlib.Core.List.{List}
use mathlib.Core.Path.{◌≡◌, sym, ap, ◌∙◌}
use Prim.Native.Nat.{ℕ, ◌-◌}
use native.Mathlib.Omega.{arith}
use lib.ListN.{replicate}
use Rattle.slate.specs.Bytes.{Bytes}
use Rattle.slate.specs.Digits.{max_height}
use Rattle.slate.specs.Tree.{empty_root, rfc6962, top}
use Rattle.entry.specs.Opening.{opening_at}
use Rattle.ringlog.specs.Values.{values_of}
use Rattle.ringlog.specs.Answer.{RootAnswer}
use Rattle.rfc6962.specs.Rfc6962.{mth}
use Rattle.rfc6962.specs.Root.{root_answer}
use Rattle.rfc6962.specs.Whole.{whole_log}
use Rattle.slate.proofs.Tops.{root_top}
use Rattle.rfc6962.proofs.MthRoots.{mth_root}
use Rattle.rfc6962.proofs.Runs.{none_left}
use Rattle.rfc6962.proofs.WholeForms.{unformed, whole_count, whole_few, whole_log_lem}

abbrev answered : List ℕ → RootAnswer
answered d = record { number = 0; digest = d }

module _ (b : List ℕ) where
  pub root_unformed : whole_log b ≡ None → record { number = 6; digest = replicate 32 0 } ≡ root_answer b
  unfolding root_answer
  root_unformed e = rw (unformed b e)

  module _ (o n : ℕ) (e : whole_log b ≡ opening_at o n) where
    root_is : root_answer b ≡ answered (mth rfc6962 (values_of b))
    unfolding root_answer
    root_is = rw (whole_log_lem b o n e)

    -- the root of no values
    pub root_none : n ≡ 0 → (d : List ℕ) → d ≡ empty_root → answered d ≡ root_answer b
    unfolding mth
    root_none z d h = ap answered h ∙ rw (none_left (values_of b) (omega (arith, whole_count b o n e))) at (sym root_is)

    -- and of some: the top of the last entry
    pub root_some : Bytes b → (n ≡ 0 → ⊥) → (d : List ℕ) → d ≡ top rfc6962 (values_of b) (n - 1) max_height → answered d ≡ root_answer b
    root_some bytes some d h =
        let count = whole_count b o n e in
        rw (h, root_is, mth_root rfc6962 (values_of b) (omega (arith, whole_few b o n e bytes)))
        (ap answered (sym (root_top rfc6962 (values_of b) (n - 1) (omega arith))))
