-- Four runs of sixteen rounds; the constants of each are the standard's by computation.
-- Assumes nothing.
use Rattle.std.proofs.Common.{refl, rules}
use Rattle.sha256.specs.Fips180.{constants, rounds}
use Rattle.sha256.specs.Window.{rolled_by}
use Rattle.sha256.proofs.RoundRuns.{◌then◌}
use Rattle.sha256.proofs.rounds.all_rounds.Goals as goal

pub returns : goal.returns
unfolding rolled_by rounds constants
returns c =
    let a = c.args in
    let run = c.sixteen_rounds-v.ensures refl then c.sixteen_rounds-v-2.ensures refl then c.sixteen_rounds-v-3.ensures refl
    then c.sixteen_rounds.ensures refl in
    run.ran a.w.now a.s (search rules) refl refl
