-- The sixteen words, written out as the code has them.
-- Assumes nothing.
use Rattle.std.proofs.Common.{◌∷◌, ◌++◌, ◌≡◌, length, sym, refl, ◌∙◌, arith, rules}
use Rattle.sha256.proofs.Nodes.{node_first, node_head, node_middle, node_second, node_whole}
use Rattle.sha256.proofs.Words.{◌∷≡◌, sixteen_words}
use Rattle.sha256.proofs.node.first_block.Goals as goal

pub returns : goal.returns
returns c =
    let a = c.args in
    let t = a.tag in let x = a.first.now in let y = a.second.now in
    let ex : length x ≡ 32 = search rules in
    let ey : length y ≡ 32 = search rules in
    ((c.join.ensures ∙ node_head t x y ex ey)
    ∷≡ (c.word.ensures ∙ node_first t x y ex ey 3 (omega arith))
    ∷≡ (c.word-2.ensures ∙ node_first t x y ex ey 7 (omega arith))
    ∷≡ (c.word-3.ensures ∙ node_first t x y ex ey 11 (omega arith))
    ∷≡ (c.word-4.ensures ∙ node_first t x y ex ey 15 (omega arith))
    ∷≡ (c.word-5.ensures ∙ node_first t x y ex ey 19 (omega arith))
    ∷≡ (c.word-6.ensures ∙ node_first t x y ex ey 23 (omega arith))
    ∷≡ (c.word-7.ensures ∙ node_first t x y ex ey 27 (omega arith))
    ∷≡ (c.join-2.ensures ∙ node_middle t x y ex ey)
    ∷≡ (c.word-8.ensures ∙ node_second t x y ex ey 3)
    ∷≡ (c.word-9.ensures ∙ node_second t x y ex ey 7)
    ∷≡ (c.word-10.ensures ∙ node_second t x y ex ey 11)
    ∷≡ (c.word-11.ensures ∙ node_second t x y ex ey 15)
    ∷≡ (c.word-12.ensures ∙ node_second t x y ex ey 19)
    ∷≡ (c.word-13.ensures ∙ node_second t x y ex ey 23)
    ∷≡ (c.word-14.ensures ∙ node_second t x y ex ey 27)
    ∷≡ refl)
    ∙ sym (sixteen_words (t ∷ (x ++ y)) 0)
    ∙ node_whole t x y ex ey
