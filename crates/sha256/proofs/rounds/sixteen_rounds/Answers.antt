-- Sixteen rounds, one behind the other, each with its constant.
-- Assumes nothing.
use Rattle.std.proofs.Common.{arith}
use Rattle.sha256.proofs.RoundRuns.{constant_of, one, ◌next◌}
use Rattle.sha256.proofs.rounds.sixteen_rounds.Goals as goal

pub returns : goal.returns
returns c = λ e.
    let k = constant_of _ _ e in
    let done = one (c.step-v.ensures (k 0 _ (omega arith) (omega arith))) next c.step-v-2.ensures (k 1 _ (omega arith) (omega arith))
    next c.step-v-3.ensures (k 2 _ (omega arith) (omega arith)) next c.step-v-4.ensures (k 3 _ (omega arith) (omega arith))
    next c.step-v-5.ensures (k 4 _ (omega arith) (omega arith)) next c.step-v-6.ensures (k 5 _ (omega arith) (omega arith))
    next c.step-v-7.ensures (k 6 _ (omega arith) (omega arith)) next c.step-v-8.ensures (k 7 _ (omega arith) (omega arith))
    next c.step-v-9.ensures (k 8 _ (omega arith) (omega arith)) next c.step-v-10.ensures (k 9 _ (omega arith) (omega arith))
    next c.step-v-11.ensures (k 10 _ (omega arith) (omega arith)) next c.step-v-12.ensures (k 11 _ (omega arith) (omega arith))
    next c.step-v-13.ensures (k 12 _ (omega arith) (omega arith)) next c.step-v-14.ensures (k 13 _ (omega arith) (omega arith))
    next c.step-v-15.ensures (k 14 _ (omega arith) (omega arith)) next c.step-v-16.ensures (k 15 _ (omega arith) (omega arith)) in
    done.all
