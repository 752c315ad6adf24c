-- The path and the consistency proof, as the code makes them of a log that is opened whole.
-- Assumes nothing.
use Rattle.std.proofs.Common.{None}
use mathlib.Core.Bool.{Bool, true, false}
use mathlib.Core.List.{List}
use mathlib.Core.Path.{◌≡◌, sym, ap, ◌∙◌}
use Prim.Native.Nat.{ℕ, suc, ◌+◌, ◌*◌, ◌-◌, ◌^◌, ◌≤◌, ◌<◌}
use native.Mathlib.Omega.{arith}
use lib.ListN.{length}
use Rattle.slate.specs.Bytes.{Bytes}
use Rattle.slate.specs.Digits.{max_height}
use Rattle.slate.specs.Index.{is_index}
use Rattle.slate.specs.Moves.{hops}
use Rattle.slate.specs.Tree.{rfc6962}
use Rattle.entry.specs.Write.{write_at}
use Rattle.entry.specs.Opening.{opening_at}
use Rattle.ringlog.specs.Answer.{Count, Outcome, counted, refusal, written}
use Rattle.ringlog.specs.Values.{values_of}
use Rattle.rfc6962.specs.Consistency.{digest_count, omitted}
use Rattle.rfc6962.specs.Layouts.{digests_under}
use Rattle.rfc6962.specs.Prove.{made}
use Rattle.rfc6962.specs.Rfc6962.{path, proof}
use Rattle.rfc6962.specs.Whole.{whole_log}
use Rattle.slate.proofs.Bits.{whole_base}
use Rattle.slate.proofs.Inclusion.{inclusion_length, single_path}
use Rattle.slate.proofs.Indexes.{index_range}
use Rattle.ringlog.proofs.Outcomes.{Answers, outcome_refused}
use Rattle.rfc6962.proofs.Makers.{made_out, made_room, made_unformed, made_written}
use Rattle.rfc6962.proofs.Subproofs.{proof_is, proof_length}
use Rattle.rfc6962.proofs.Paths.{path_is}
use Rattle.rfc6962.proofs.WholeForms.{unformed, whole_count, whole_few, whole_log_lem}

-- b is a log of n values that is opened whole, and i is an index of it
pub record There (b : List ℕ) (o n i : ℕ) : Type 0 where
  pub bytes : Bytes b
  pub opens : whole_log b ≡ opening_at o n
  pub within : is_index i n ≡ true

-- by the code's opening and its test of the index
pub there : {b : List ℕ} {o n i : ℕ} {t : Bool} → Bytes b → opening_at o n ≡ whole_log b → t ≡ is_index i n → t ≡ true → There b o n i
there bytes opens is good = record { bytes = bytes; opens = sym opens; within = sym is ∙ good }

-- r bytes d are written
answers_written : (out : List ℕ) (made : Outcome) (d e : List ℕ) (r : ℕ) → made ≡ written d → r ≡ 0 + length d → e ≡ write_at out 0 d
    → Answers 0 out made (counted r) e
answers_written out made d e r m er ee = rw m (ap counted er, ee)

module _ (b : List ℕ) (i : ℕ) (out : List ℕ) (digests_of : List (List ℕ) → List ℕ) where
  abbrev Made : Count → List ℕ → Type 0
  Made = Answers 0 out (made b i (length out) digests_of)

  -- the log is not well formed
  pub made_6 : whole_log b ≡ None → Made (refusal 6) out
  made_6 e = outcome_refused 0 out _ 6 (made_unformed b i (length out) digests_of (unformed b e))

  -- the index is out of range
  pub made_2 : (o n : ℕ) → whole_log b ≡ opening_at o n → is_index i n ≡ false → Made (refusal 2) out
  made_2 o n e f =
      outcome_refused 0 out _ 2
      (made_out b i (length out) digests_of (whole_log_lem b o n e) (rw (whole_count b o n e) at f))

  module _ (o n : ℕ) (w : There b o n i) where
    inside : is_index i (length (values_of b)) ≡ true
    inside = rw (whole_count b o n w.opens) at w.within

    -- the digests do not fit into the output
    pub made_8 : (k : ℕ) → length (digests_of (values_of b)) ≡ k → length out < k → Made (refusal 8) out
    made_8 k size lt =
        outcome_refused 0 out _ 8 (made_room b i (length out) digests_of (whole_log_lem b o n w.opens) inside (omega arith))

    -- they do, and d, which they are, is written
    pub made_done : (k : ℕ) → length (digests_of (values_of b)) ≡ k → k ≤ length out → (d : List ℕ) → d ≡ digests_of (values_of b)
        → (r : ℕ) → r ≡ 0 + length d → (f : List ℕ) → f ≡ write_at out 0 d → Made (counted r) f
    made_done k size le d same r er f ef =
        answers_written out _ d f r
        (made_written b i (length out) digests_of (whole_log_lem b o n w.opens) inside (omega arith) ∙ ap written (sym same)) er ef

-- ---- which digests they are

module _ {b : List ℕ} {o n i : ℕ} (w : There b o n i) where
  count : n ≡ length (values_of b)
  count = whole_count b o n w.opens

  pub few : n ≤ 2 ^ max_height
  few = whole_few b o n w.opens w.bytes

  pub first : 1 ≤ i
  first = (index_range i n w.within).0

  pub high : i ≤ n
  high = (index_range i n w.within).1

  few_values : length (values_of b) ≤ 2 ^ max_height
  few_values = omega (arith, count, few)

  last : i ≤ length (values_of b)
  last = omega (arith, count, high)

  pub path_size : length (path rfc6962 (i - 1) (values_of b)) ≡ 32 * hops n i
  path_size = rw (count, path_is rfc6962 (values_of b) i first last few_values) (inclusion_length rfc6962 (values_of b) i first last few_values)

  pub path_digests : digests_under false (i - 1) (i - 1) (values_of b) (n - 1) max_height ≡ path rfc6962 (i - 1) (values_of b)
  unfolding digests_under
  path_digests =
      single_path (i - 1) rfc6962 (values_of b) (n - 1) max_height
      (omega (arith, whole_base (n - 1) max_height (omega (arith, first, high, few)))) (omega (arith, first, high))
      ∙ rw count (sym (path_is rfc6962 (values_of b) i first last few_values))

  pub proof_size : length (proof rfc6962 i (values_of b)) ≡ 32 * digest_count i n
  proof_size = rw count (proof_length rfc6962 (values_of b) i first last few_values)

  pub proof_digests : digests_under (omitted i n) i (i - 1) (values_of b) (n - 1) max_height ≡ proof rfc6962 i (values_of b)
  unfolding digests_under
  proof_digests =
      let next : i ≡ suc (i - 1) = omega (arith, first) in
      ap (λ (a : ℕ). digests_under (omitted i n) a (i - 1) (values_of b) (n - 1) max_height) next
      ∙ rw count (sym (proof_is rfc6962 (values_of b) i first last few_values))
