-- The round is the standard's for word t.
-- Assumes nothing.
use Rattle.std.proofs.Common.{ap, ◌∙◌, arith}
use Rattle.sha256.specs.Window.{rolled_by}
use Rattle.sha256.proofs.RoundRuns.{round_step}
use Rattle.sha256.proofs.rounds.step.Goals as goal

pub returns : goal.returns
returns c =
    let a = c.args in
    λ e. record {
      ran = λ M i block ew es.
          let word = c.next_word.ensures M block ew in
          (round_step M i a.s _ a.t a.k _ e es word.0 c.one_round.ensures, word.1 ∙ ap (rolled_by M) (omega arith));
    }
