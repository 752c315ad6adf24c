-- A word of the block, whose words are kept until word 16 is made; or the word that is made.
-- Assumes nothing.
use Rattle.std.proofs.Common.{ℕ, List, get_or, sym, ap, ◌∙◌, arith}
use Rattle.sha256.specs.Window.{made, rolled}
use Rattle.sha256.proofs.MessageSchedule.{W-early, kept_early, made_next, rolled_next}
use Rattle.sha256.proofs.schedule.next_word.Goals as goal

pub returns-then-t-lt16 : goal.returns-then-t-lt16
returns-then-t-lt16 c = λ M block e.
    let t = c.args.t in
    let loaded = e ∙ kept_early M _ (omega arith) in
    (ap (λ (w : List ℕ). get_or w t 0) loaded ∙ sym (W-early M t c.if-t-lt16.true), loaded ∙ sym (kept_early M _ (omega arith)))

pub returns : goal.returns
returns c = λ M block e.
    let t = c.args.t in
    let roll = c.roll.ensures in (
      roll.value ∙ ap (λ (w : List ℕ). made w t) e ∙ made_next M _ t block (omega arith),
      roll.w_after ∙ ap (λ (w : List ℕ). rolled w t) e ∙ rolled_next M _ _ t (omega arith) (omega arith),
    )
