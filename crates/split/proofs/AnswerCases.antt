-- The numbers of the search's answer, case by case, and the case from its numbers.
-- Assumes nothing.
use mathlib.Core.Path.{◌≡◌, refl, sym, ap, ◌∙◌}
use Prim.Native.Nat.{ℕ, zero, suc}
use borrow.Author.Tests.{ne_eqb}
use lib.Dec.{eqb}
use Rattle.std.specs.Prelude.{Err, Ok, Result}
use Rattle.sha256.specs.Pick.{pick}
use Rattle.entry.specs.Refusal.{cause_number}
use Rattle.split.specs.Answer.{Split, answer_of, difference_place, side_number, verdict_number, verdict_of}
use Rattle.split.specs.Claims as claims
use Rattle.split.specs.declared.SearchAnswer.{SearchAnswer}
use Rattle.split.specs.declared.SearchRefusal.{SearchRefusal}
use Rattle.split.specs.declared.Side.{Side}
use Rattle.split.specs.declared.Side.TheVariants as side
use Rattle.split.specs.declared.Verdict.{Verdict}
use Rattle.split.specs.declared.Verdict.TheVariants as verdict
use Rattle.entry.proofs.Refusals.{cause_some, cause_told, cause_of}

pub cases_numbered : claims.CasesNumbered
cases_numbered = (λ n r s. (refl, refl, refl, λ i. refl), λ k. (refl, refl, refl))

-- ---- the case

told_side : ℕ → Side
told_side zero = side.First
told_side (suc zero) = side.First
told_side (suc (suc zero)) = side.Second
told_side (suc (suc (suc n))) = side.Both

told_side_lem : (s : Side) → told_side (side_number s) ≡ s
unfolding told_side
told_side_lem side.First = refl
told_side_lem side.Second = refl
told_side_lem side.Both = refl

told_verdict : ℕ → ℕ → Verdict
told_verdict zero i = verdict.Same
told_verdict (suc zero) i = verdict.FirstShorter
told_verdict (suc (suc zero)) i = verdict.SecondShorter
told_verdict (suc (suc (suc n))) i = verdict.DifferAt i

told_verdict_lem : (v : Verdict) → told_verdict (verdict_number (verdict_of v)) (difference_place (verdict_of v)) ≡ v
unfolding told_verdict
told_verdict_lem verdict.Same = refl
told_verdict_lem verdict.FirstShorter = refl
told_verdict_lem verdict.SecondShorter = refl
told_verdict_lem (verdict.DifferAt i) = refl

told : Split → Result SearchAnswer SearchRefusal
told s =
    pick (eqb s.number 0)
    (claims.answer s.common (told_verdict s.verdict s.place) s.first_reads s.second_reads)
    (claims.no_answer (told_side s.side) (cause_of s.number))

told_case : (r : Result SearchAnswer SearchRefusal) → told (answer_of r) ≡ r
unfolding told
told_case (Ok a) = rw (told_verdict_lem a.verdict)
told_case (Err r) = rw (ne_eqb (cause_number r.cause) 0 (cause_some r.cause), told_side_lem r.side, cause_told r.cause)

pub one_answer : claims.OneAnswer
one_answer r s e = sym (told_case r) ∙ ap told e ∙ told_case s
