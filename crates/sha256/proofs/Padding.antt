-- The padded message: its length, its least padding, and its blocks as they are made from the message.
-- Assumes nothing.
use Rattle.std.proofs.Common.{◌≡◌, ℕ, ◌+◌, ◌-◌, ◌*◌, ◌/◌, ◌%◌, ◌^◌, ◌<◌, ◌≤◌, List, [], ◌∷◌, ◌++◌, length, get_or, set, replicate, sym, ap, ◌∙◌, ⊎_elim, append_assoc, add-zero, eq-or-lt_of_le, arith, length-append, length-set, get_or-set_other, get_or-set_same, get_or-append-add}
use lib.ListN.{length-replicate, get_or-replicate, get_or-append, get_or-eq_default, replicate-append-replicate}
use Rattle.sha256.specs.Claims as claims
use Rattle.sha256.specs.Fips180.{zero_bytes, padded, word_at, word_bytes, words_at, block}
use Rattle.sha256.proofs.Words.{lt_or_le, word_same, words_same, words_length, words_at_lem, words_are}

pub padding_fits : claims.PaddingFits
unfolding zero_bytes
padding_fits n = omega arith

pub padding_least : claims.PaddingLeast
unfolding zero_bytes
padding_least n k e = omega arith

pub padded_bytes : claims.PaddedBytes
unfolding padded
padded_bytes m u v n e low k =
    let high : 8 * length m / 2 ^ 32 ≡ u = omega arith in
    let rest : 8 * length m % 2 ^ 32 ≡ v = omega arith in
    let zeros : zero_bytes (length m) ≡ n = omega arith in
    rw (high, rest, zeros) (append_assoc m (0x80 ∷ []) _)

-- the message and the byte behind it
abbrev pub ended : List ℕ → List ℕ
ended m = m ++ (128 ∷ [])

pub padded_length : (m : List ℕ) → length (padded m) ≡ (length m + 72) / 64 * 64
unfolding padded zero_bytes
padded_length m = simp (length-append, length-replicate) (omega arith)

pub whole_blocks : claims.WholeBlocks
whole_blocks m = omega (arith, padded_length m)

-- how many bytes stand before the last word of the padded message
abbrev front : ℕ → ℕ
front n = n + 5 + zero_bytes n

-- the length in bits fits one word, so zeros stand up to it
padded_short : (m : List ℕ) → length m ≤ 65535 → padded m ≡ ended m ++ (replicate (zero_bytes (length m) + 4) 0 ++ word_bytes (8 * length m))
unfolding padded
padded_short m h =
    let high : 8 * length m / 2 ^ 32 ≡ 0 = omega arith in
    let low : 8 * length m % 2 ^ 32 ≡ 8 * length m = omega arith in
    rw (high, low, ← append_assoc zeros four_zeros (word_bytes (8 * length m)), replicate-append-replicate)
  where
    zeros : List ℕ
    zeros = replicate (zero_bytes (length m)) 0

    four_zeros : List ℕ
    four_zeros = replicate 4 0

-- up to its last word the padded message is the message, the byte 0x80 and zeros
padded_front : (m : List ℕ) (k : ℕ) → length m ≤ 65535 → k < front (length m) → get_or (ended m) k 0 ≡ get_or (padded m) k 0
padded_front m k h below =
    rw (padded_short m h)
    (⊎_elim
    (λ l. sym (get_or-append (ended m) rest 0 k l))
    (λ g. get_or-eq_default (ended m) 0 g ∙ sym (behind g))
    (lt_or_le k (length (ended m))))
  where
    zeros : List ℕ
    zeros = replicate (zero_bytes (length m) + 4) 0

    rest : List ℕ
    rest = zeros ++ word_bytes (8 * length m)

    past : ℕ
    past = k - length (ended m)

    within : past < zero_bytes (length m) + 4
    within = omega (arith, length-append m (128 ∷ []))

    split : length (ended m) ≤ k → k ≡ length (ended m) + past
    split g = omega arith

    behind : length (ended m) ≤ k → get_or (ended m ++ rest) k 0 ≡ 0
    behind g =
        ap (λ (n : ℕ). get_or (ended m ++ rest) n 0) (split g)
        ∙ get_or-append-add (ended m) rest past 0
        ∙ get_or-append zeros (word_bytes (8 * length m)) 0 past (simp length-replicate within)
        ∙ get_or-replicate (zero_bytes (length m) + 4) past 0 0 within

-- the last word of the padded message is the length in bits
padded_last : (m : List ℕ) → length m ≤ 65535 → word_at (padded m) (front (length m)) ≡ length m * 8
unfolding word_at
padded_last m h =
    rw (padded_short m h, ← append_assoc (ended m) zeros length_bytes)
    (omega (arith, rw add-zero at (byte 0), byte 1, byte 2, byte 3))
  where
    zeros : List ℕ
    zeros = replicate (zero_bytes (length m) + 4) 0

    length_bytes : List ℕ
    length_bytes = word_bytes (8 * length m)

    at : length (ended m ++ zeros) ≡ front (length m)
    at = simp (length-append, length-replicate) (omega arith)

    byte : (k : ℕ) → get_or (ended m ++ zeros ++ length_bytes) (front (length m) + k) 0 ≡ get_or length_bytes k 0
    byte k = ap (λ (n : ℕ). get_or (ended m ++ zeros ++ length_bytes) (n + k) 0) (sym at) ∙ get_or-append-add (ended m ++ zeros) length_bytes k 0

-- the message stands first
padded_message : (m : List ℕ) (k : ℕ) → k < length m → get_or m k 0 ≡ get_or (padded m) k 0
unfolding padded
padded_message m k h =
    sym (get_or-append (ended m) _ 0 k (omega (arith, length-append m (128 ∷ []))) ∙ get_or-append m (128 ∷ []) 0 k h)

module _ (m : List ℕ) (i : ℕ) where
  -- a block that lies in the message
  pub block_whole : 64 * i + 64 ≤ length m → words_at 16 m (64 * i) ≡ block (padded m) i
  unfolding block
  block_whole h = words_same 16 m (padded m) (64 * i) (λ k above below. padded_message m k (omega arith))

  -- a block behind that, and before the last
  pub block_ended : length m ≤ 65535 → i < (length m + 8) / 64 → words_at 16 (ended m) (64 * i) ≡ block (padded m) i
  unfolding block zero_bytes
  block_ended h before =
      words_same 16 (ended m) (padded m) (64 * i) (λ k above below. padded_front m k h (omega arith))

  -- the last block
  pub block_last : length m ≤ 65535 → i ≡ (length m + 8) / 64 → set (words_at 16 (ended m) (64 * i)) 15 (length m * 8) ≡ block (padded m) i
  unfolding block zero_bytes
  block_last h last =
      words_are 16 (padded m) (64 * i) _ (simp length-set (words_length 16 (ended m) (64 * i)))
      (λ u below.
      ⊎_elim
      (λ same.
      rw same
      (get_or-set_same (words_at 16 (ended m) (64 * i)) 15 (length m * 8) 0 (omega (arith, words_length 16 (ended m) (64 * i)))
      ∙ sym (padded_last m h)
      ∙ ap (word_at (padded m)) (omega arith)))
      (λ l.
      get_or-set_other (words_at 16 (ended m) (64 * i)) 15 u (length m * 8) 0 (λ same. omega arith)
      ∙ words_at_lem 16 (ended m) (64 * i) u below
      ∙ word_same (ended m) (padded m) (64 * i + 4 * u) (λ k above under. padded_front m k h (omega arith)))
      (eq-or-lt_of_le {n = u} {m = 15} (omega arith)))
