-- Each item is what one call gave.
-- Assumes nothing.
use Rattle.sha256.proofs.Counted.{each, nothing, ◌also◌}
use Rattle.sha256.proofs.message.sixteen.Goals as goal

pub returns-clause-each : goal.returns-clause-each
returns-clause-each g c =
    each {P = goal.F-post g c.args.word}
    (c.word.ensures also c.word-2.ensures also c.word-3.ensures also c.word-4.ensures
    also c.word-5.ensures also c.word-6.ensures also c.word-7.ensures also c.word-8.ensures
    also c.word-9.ensures also c.word-10.ensures also c.word-11.ensures also c.word-12.ensures
    also c.word-13.ensures also c.word-14.ensures also c.word-15.ensures also c.word-16.ensures also nothing)
