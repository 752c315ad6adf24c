-- The three kinds of block, by the laws of Padding.antt.
-- Assumes nothing.
use Rattle.std.proofs.Common.{ℕ, ◌*◌, List, length, set, ap, ◌∙◌, arith, rules}
use Rattle.sha256.proofs.Padding.{block_whole, block_ended, block_last}
use Rattle.sha256.proofs.message.block.Goals as goal

pub returns-then-at-n : goal.returns-then-at-n
returns-then-at-n c = c.whole.ensures ∙ block_whole c.args.m.now c.args.i c.if-at-n.true

pub returns-then-i-n : goal.returns-then-i-n
returns-then-i-n c =
    let a = c.args in
    ap (λ (w : List ℕ). set w 15 (length a.m.now * 8)) c.ended-w.ensures ∙ block_last a.m.now a.i (search rules) c.if-i-n.true

pub returns-else-i-n : goal.returns-else-i-n
returns-else-i-n c =
    let a = c.args in
    c.ended-w.ensures ∙ block_ended a.m.now a.i (search rules) (omega arith)
