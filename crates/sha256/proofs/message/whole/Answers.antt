-- Each word is one of the message.
-- Assumes nothing.
use Rattle.std.proofs.Common.{rules}
use Rattle.sha256.proofs.Words.{words_are}
use Rattle.sha256.proofs.message.whole.Goals as goal

pub returns : goal.returns
returns c =
    let a = c.args in
    let words = c.sixteen.ensures in
    words_are 16 a.m.now a.at _ words.long (λ u below. let called = words.each u below in search rules)
