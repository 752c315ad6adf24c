-- The search's answers as numbers, and what the code's types stand for.
use Rattle.std.specs.Prelude.{Err, None, Ok, Option, Result, Some, ℕ, length}
use Rattle.slate.specs.Comparison as comparison
use Rattle.entry.specs.Refusal.{cause_number}
use Rattle.split.specs.Search as search
use Rattle.split.specs.declared.SearchAnswer.{SearchAnswer}
use Rattle.split.specs.declared.SearchRefusal.{SearchRefusal}
use Rattle.split.specs.declared.Side.{Side}
use Rattle.split.specs.declared.Side.TheVariants as side
use Rattle.split.specs.declared.Verdict.{Verdict}
use Rattle.split.specs.declared.Verdict.TheVariants as verdict

-- which log: first, second or both
abbrev pub side_number : Side → ℕ
side_number side.First = 1
side_number side.Second = 2
side_number side.Both = 3

-- same, first shorter, second shorter, or differ at i
abbrev pub verdict_number : comparison.Verdict → ℕ
verdict_number comparison.equal = 0
verdict_number comparison.first_shorter = 1
verdict_number comparison.second_shorter = 2
verdict_number (comparison.differ_at i) = 3

-- the i where they differ, 0 where they do not
abbrev pub difference_place : comparison.Verdict → ℕ
difference_place comparison.equal = 0
difference_place comparison.first_shorter = 0
difference_place comparison.second_shorter = 0
difference_place (comparison.differ_at i) = i

-- the i where they differ, if they do
abbrev pub difference : comparison.Verdict → Option ℕ
difference comparison.equal = None
difference comparison.first_shorter = None
difference comparison.second_shorter = None
difference (comparison.differ_at i) = Some i

-- number 0 and the answer, or the number of a refusal, its side, and zero for all else
pub record Split : Type 0 where
  pub number : ℕ
  pub side : ℕ
  pub common : ℕ
  pub verdict : ℕ
  pub place : ℕ
  pub first_reads : ℕ
  pub second_reads : ℕ

abbrev pub found : ℕ → comparison.Verdict → ℕ → ℕ → Split
found n v r s =
    record { number = 0; side = 0; common = n; verdict = verdict_number v; place = difference_place v; first_reads = r; second_reads = s }

abbrev pub refusal : ℕ → ℕ → Split
refusal k s = record { number = k; side = s; common = 0; verdict = 0; place = 0; first_reads = 0; second_reads = 0 }

-- of the search: each count of reads is that of the entries read
abbrev pub split_of : search.Search → Split
split_of (search.answered f a d) = found f.common f.verdict (length a.reads) (length d.reads)
split_of (search.refused s k) = refusal (cause_number k) (side_number s)

-- what the types of the code stand for
abbrev pub verdict_of : Verdict → comparison.Verdict
verdict_of verdict.Same = comparison.equal
verdict_of verdict.FirstShorter = comparison.first_shorter
verdict_of verdict.SecondShorter = comparison.second_shorter
verdict_of (verdict.DifferAt i) = comparison.differ_at i

abbrev pub answer_of : Result SearchAnswer SearchRefusal → Split
answer_of (Ok a) = found a.common (verdict_of a.verdict) a.first_reads a.second_reads
answer_of (Err r) = refusal (cause_number r.cause) (side_number r.side)
