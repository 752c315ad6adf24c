-- Zeros behind the message's end; or each word is one of the message, 0x80 and zeros.
-- Assumes nothing.
use Rattle.std.proofs.Common.{[], ◌∷◌, ◌++◌, arith, length-append, rules}
use Rattle.sha256.proofs.Words.{words_are, words_behind}
use Rattle.sha256.proofs.message.ended.Goals as goal

pub returns-then-n-at : goal.returns-then-n-at
returns-then-n-at c =
    let a = c.args in
    words_behind 16 (a.m.now ++ (128 ∷ [])) a.at (simp length-append (omega arith))

pub returns : goal.returns
returns c =
    let a = c.args in
    let words = c.sixteen.ensures in
    words_are 16 (a.m.now ++ (128 ∷ [])) a.at _ words.long (λ u below. let called = words.each u below in search rules)
