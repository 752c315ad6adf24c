-- The two blocks of a node's input, a tag byte and two digests.
-- Assumes nothing.
use Rattle.std.proofs.Common.{◌≡◌, ℕ, suc, ◌+◌, ◌<◌, ◌≤◌, List, [], ◌∷◌, ◌++◌, length, get_or, set, replicate, sym, ap, ◌∙◌, ap₂, suc-add, arith, length-append, get_or-append-add}
use lib.ListN.{get_or-append, get_or-eq_default}
use Rattle.sha256.specs.Fips180.{join, padded, word_at, words_at, block}
use Rattle.sha256.proofs.Padding.{ended, block_whole, block_last}
use Rattle.sha256.proofs.Words.{word_front, words_behind}

-- a word behind the first byte
word_tail : (t : ℕ) (l : List ℕ) (j : ℕ) → word_at (t ∷ l) (suc j) ≡ word_at l j
unfolding word_at
word_tail t l j = rw (suc-add j 1, suc-add j 2, suc-add j 3)

module _ (t : ℕ) (x y : List ℕ) (ex : length x ≡ 32) (ey : length y ≡ 32) where
  abbrev m : List ℕ
  m = t ∷ (x ++ y)

  size : length m ≡ 65
  size = omega (arith, length-append x y)

  byte_first : (k : ℕ) → k < 32 → get_or (x ++ y) k 0 ≡ get_or x k 0
  byte_first k h = get_or-append x y 0 k (omega arith)

  byte_second : (k : ℕ) → get_or (x ++ y) (32 + k) 0 ≡ get_or y k 0
  byte_second k = ap (λ (n : ℕ). get_or (x ++ y) (n + k) 0) (sym ex) ∙ get_or-append-add x y k 0

  -- a word in the first part, and one in the second
  pub node_first : (j : ℕ) → j + 4 ≤ 32 → word_at x j ≡ word_at m (suc j)
  node_first j h = sym (word_tail t (x ++ y) j ∙ word_front x y j (omega arith))

  second_word : (j : ℕ) → word_at (x ++ y) (32 + j) ≡ word_at y j
  unfolding word_at
  second_word j =
      let b : (k : ℕ) → get_or (x ++ y) (32 + j + k) 0 ≡ get_or y (j + k) 0 =
      λ k. ap (λ (n : ℕ). get_or (x ++ y) n 0) (omega arith) ∙ byte_second (j + k) in
      rw (byte_second j, b 1, b 2, b 3)

  pub node_second : (j : ℕ) → word_at y j ≡ word_at m (suc (32 + j))
  node_second j = sym (word_tail t (x ++ y) (32 + j) ∙ second_word j)

  -- the word of the tag, and the one in which the parts meet
  pub node_head : join t (get_or x 0 0) (get_or x 1 0) (get_or x 2 0) ≡ word_at m 0
  unfolding word_at
  node_head = rw (byte_first 0 (omega arith), byte_first 1 (omega arith), byte_first 2 (omega arith))

  pub node_middle : join (get_or x 31 0) (get_or y 0 0) (get_or y 1 0) (get_or y 2 0) ≡ word_at m 32
  unfolding word_at
  node_middle = rw (byte_first 31 (omega arith), byte_second 0, byte_second 1, byte_second 2)

  -- the first block is sixteen words of the input
  pub node_whole : words_at 16 m 0 ≡ block (padded m) 0
  node_whole = block_whole m 0 (omega (arith, size))

  -- the word of the last byte, 0x80 and zeros
  tail_word : join (get_or y 31 0) 128 0 0 ≡ word_at (ended m) 64
  unfolding word_at
  tail_word =
      let last : get_or (ended m) 64 0 ≡ get_or y 31 0 = get_or-append m (128 ∷ []) 0 64 (omega (arith, size)) ∙ byte_second 31 in
      let end : get_or (ended m) 65 0 ≡ 128 = rw size at (get_or-append-add m (128 ∷ []) 0 0) in
      let behind : (k : ℕ) → 66 ≤ k → get_or (ended m) k 0 ≡ 0 =
      λ k h. get_or-eq_default (ended m) 0 {n = k} (omega (arith, size, length-append m (128 ∷ []))) in
      rw (last, end, behind 66 (omega arith), behind 67 (omega arith))

  -- the second block
  pub node_last : set (set (replicate 16 0) 0 (join (get_or y 31 0) 128 0 0)) 15 520 ≡ block (padded m) 1
  unfolding words_at
  node_last =
      let words : set (replicate 16 0) 0 (join (get_or y 31 0) 128 0 0) ≡ words_at 16 (ended m) 64 =
      ap₂ ◌∷◌ tail_word (words_behind 15 (ended m) 68 (omega (arith, size, length-append m (128 ∷ [])))) in
      ap (λ (w : List ℕ). set w 15 520) words ∙ (rw size at (block_last m 1 (omega (arith, size)) (omega (arith, size))))
