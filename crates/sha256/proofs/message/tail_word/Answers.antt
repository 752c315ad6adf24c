-- A word of the message, the one in which it ends, or a zero behind it.
-- Assumes nothing.
use Rattle.std.proofs.Common.{ℕ, ◌+◌, ◌*◌, [], ◌∷◌, ◌++◌, sym, ap, ◌∙◌, arith, length-append}
use Rattle.sha256.specs.Fips180.{word_at}
use Rattle.sha256.proofs.Words.{word_behind, word_front}
use Rattle.sha256.proofs.message.tail_word.Goals as goal

pub returns-then-t-q : goal.returns-then-t-q
returns-then-t-q c =
    let a = c.args in
    c.word.ensures ∙ sym (word_front a.m.now (128 ∷ []) (a.at + 4 * a.t) (omega (arith, c.requires.before)))

pub returns-then-t-q-2 : goal.returns-then-t-q-2
returns-then-t-q-2 c =
    let a = c.args in
    c.requires.last ∙ ap (λ (n : ℕ). word_at (a.m.now ++ (128 ∷ [])) (a.at + 4 * n)) (sym c.if-t-q-2.true)

pub returns : goal.returns
returns c =
    let a = c.args in
    sym (word_behind (a.m.now ++ (128 ∷ [])) (a.at + 4 * a.t) (simp length-append (omega (arith, c.requires.within))))
