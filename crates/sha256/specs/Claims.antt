-- What is claimed of the definition of SHA-256: each claim is a type, and proofs/ has its proof.
use Rattle.std.specs.Prelude.{◌≡◌, ℕ, ◌+◌, ◌-◌, ◌*◌, ◌/◌, ◌%◌, ◌^◌, ◌<◌, ◌≤◌, List, [], ◌∷◌, ◌++◌, Result, length, replicate, slice_index}
use Rattle.sha256.specs.Answer.{hashed, hashed_of, tagged}
use Rattle.sha256.specs.Fips180.{W, add32, bytes_of, join, not32, padded, rotr, sha256, shl, shr, word_bytes, zero_bits, σ0, σ1}
use Rattle.sha256.specs.Reasons.{Decided}
use Rattle.sha256.specs.Window.{kept}
use Rattle.sha256.specs.declared.TooLong.{TooLong}

-- a digest has 32 bytes
abbrev pub DigestLength : Type 0
DigestLength = (m : List ℕ) → length (sha256 m) ≡ 32

-- and each is below 256
abbrev pub DigestBytes : Type 0
DigestBytes = (m : List ℕ) (i : ℕ) → slice_index (sha256 m) i < 256

-- 2.2.2: of words, numbers below 2^32, the operations make words
abbrev pub WordsMade : Type 0
WordsMade =
    (n x y : ℕ) → x < 2 ^ 32 → y < 2 ^ 32
    → (add32 x y < 2 ^ 32) × (shl n x < 2 ^ 32) × (shr n x < 2 ^ 32) × (rotr n x < 2 ^ 32) × (not32 x < 2 ^ 32)

-- 3.1: four bytes are a word, most significant first, and a word is its four bytes
abbrev pub WordBytes : Type 0
WordBytes =
    (a b c d : ℕ) → a < 256 → b < 256 → c < 256 → d < 256
    → (join a b c d ≡ ((a * 256 + b) * 256 + c) * 256 + d) × (word_bytes (join a b c d) ≡ a ∷ b ∷ c ∷ d ∷ [])

-- a word and its complement add up to 32 ones
abbrev pub Complement : Type 0
Complement = (x : ℕ) → x < 2 ^ 32 → x + not32 x ≡ 0xffffffff

-- a rotation by n takes the last n digits of a word to its front
abbrev pub Rotation : Type 0
Rotation = (n x : ℕ) → n ≤ 32 → x < 2 ^ 32 → rotr n x ≡ x % 2 ^ n * 2 ^ (32 - n) + x / 2 ^ n

-- 6.2.2, step 1, as the standard writes it: W_t = M_t for 0 ≤ t ≤ 15
abbrev pub FirstWords : Type 0
FirstWords = (M : List ℕ) (t : ℕ) → t < 16 → W M t ≡ slice_index M t

-- and W_t = σ1(W_{t−2}) + W_{t−7} + σ0(W_{t−15}) + W_{t−16} for 16 ≤ t ≤ 63
abbrev pub LaterWords : Type 0
LaterWords =
    (M : List ℕ) (t : ℕ) → 16 ≤ t
    → W M t ≡ add32 (add32 (add32 (σ1 (W M (t - 2))) (W M (t - 7))) (σ0 (W M (t - 15)))) (W M (t - 16))

-- request 4: once word t is made, from word 15 (the block as it is loaded) to word 63, exactly the words t − 15 to t are kept: there are
-- sixteen places, each of these words u stands at place u modulo 16, and place p has word t − (t − p) modulo 16, one of these and no other
abbrev pub WordsKept : Type 0
WordsKept =
    (M : List ℕ) (t : ℕ) → length M ≡ 16 → 15 ≤ t → t ≤ 63
    → (length (kept M t) ≡ 16)
    × ((u : ℕ) → t - 15 ≤ u → u ≤ t → slice_index (kept M t) (u % 16) ≡ W M u)
    × ((p : ℕ) → p < 16 → slice_index (kept M t) p ≡ W M (t - (t - p) % 16))

-- 5.1.1: the k of a message of n bytes, l = 8n bits, solves l + 1 + k = 448 modulo 512
abbrev pub PaddingFits : Type 0
PaddingFits = (n : ℕ) → (8 * n + 1 + zero_bits n) % 512 ≡ 448

-- and is the smallest that does
abbrev pub PaddingLeast : Type 0
PaddingLeast = (n k : ℕ) → (8 * n + 1 + k) % 512 ≡ 448 → zero_bits n ≤ k

-- behind the message stand the bit 1, those k zero bits, and l in 64 bits: its high word u, and its low word v
abbrev pub PaddedBytes : Type 0
PaddedBytes =
    (m : List ℕ) (u v n : ℕ) → 8 * length m ≡ u * 2 ^ 32 + v → v < 2 ^ 32 → 7 + 8 * n ≡ zero_bits (length m)
    → padded m ≡ m ++ (0x80 ∷ (replicate n 0 ++ bytes_of (u ∷ v ∷ [])))

-- 5.2.1: the padded message is a number of whole blocks
abbrev pub WholeBlocks : Type 0
WholeBlocks = (m : List ℕ) → length (padded m) % 64 ≡ 0

-- "abcdbcdecdefdefgefghfghighijhijkijkljklmklmnlmnomnopnopq"
abbrev pub abcdbcde : List ℕ
abcdbcde =
    0x61 ∷ 0x62 ∷ 0x63 ∷ 0x64 ∷ 0x62 ∷ 0x63 ∷ 0x64 ∷ 0x65 ∷ 0x63 ∷ 0x64 ∷ 0x65 ∷ 0x66 ∷ 0x64 ∷ 0x65
    ∷ 0x66 ∷ 0x67 ∷ 0x65 ∷ 0x66 ∷ 0x67 ∷ 0x68 ∷ 0x66 ∷ 0x67 ∷ 0x68 ∷ 0x69 ∷ 0x67 ∷ 0x68 ∷ 0x69 ∷ 0x6a
    ∷ 0x68 ∷ 0x69 ∷ 0x6a ∷ 0x6b ∷ 0x69 ∷ 0x6a ∷ 0x6b ∷ 0x6c ∷ 0x6a ∷ 0x6b ∷ 0x6c ∷ 0x6d ∷ 0x6b ∷ 0x6c
    ∷ 0x6d ∷ 0x6e ∷ 0x6c ∷ 0x6d ∷ 0x6e ∷ 0x6f ∷ 0x6d ∷ 0x6e ∷ 0x6f ∷ 0x70 ∷ 0x6e ∷ 0x6f ∷ 0x70 ∷ 0x71 ∷ []

-- the standard's examples, byte by byte: one block, no byte, and two blocks (448 bits)
abbrev pub Vectors : Type 0
Vectors =
    (sha256 (0x61 ∷ 0x62 ∷ 0x63 ∷ [])
    ≡ 0xba ∷ 0x78 ∷ 0x16 ∷ 0xbf ∷ 0x8f ∷ 0x01 ∷ 0xcf ∷ 0xea ∷ 0x41 ∷ 0x41 ∷ 0x40 ∷ 0xde ∷ 0x5d ∷ 0xae ∷ 0x22 ∷ 0x23
    ∷ 0xb0 ∷ 0x03 ∷ 0x61 ∷ 0xa3 ∷ 0x96 ∷ 0x17 ∷ 0x7a ∷ 0x9c ∷ 0xb4 ∷ 0x10 ∷ 0xff ∷ 0x61 ∷ 0xf2 ∷ 0x00 ∷ 0x15 ∷ 0xad ∷ [])
    × (sha256 []
    ≡ 0xe3 ∷ 0xb0 ∷ 0xc4 ∷ 0x42 ∷ 0x98 ∷ 0xfc ∷ 0x1c ∷ 0x14 ∷ 0x9a ∷ 0xfb ∷ 0xf4 ∷ 0xc8 ∷ 0x99 ∷ 0x6f ∷ 0xb9 ∷ 0x24
    ∷ 0x27 ∷ 0xae ∷ 0x41 ∷ 0xe4 ∷ 0x64 ∷ 0x9b ∷ 0x93 ∷ 0x4c ∷ 0xa4 ∷ 0x95 ∷ 0x99 ∷ 0x1b ∷ 0x78 ∷ 0x52 ∷ 0xb8 ∷ 0x55 ∷ [])
    × (sha256 abcdbcde
    ≡ 0x24 ∷ 0x8d ∷ 0x6a ∷ 0x61 ∷ 0xd2 ∷ 0x06 ∷ 0x38 ∷ 0xb8 ∷ 0xe5 ∷ 0xc0 ∷ 0x26 ∷ 0x93 ∷ 0x0c ∷ 0x3e ∷ 0x60 ∷ 0x39
    ∷ 0xa3 ∷ 0x3c ∷ 0xe4 ∷ 0x59 ∷ 0x64 ∷ 0xff ∷ 0x21 ∷ 0x67 ∷ 0xf6 ∷ 0xec ∷ 0xed ∷ 0xd4 ∷ 0x19 ∷ 0xdb ∷ 0x06 ∷ 0xc1 ∷ [])

-- ---- what the calls answer

-- over 65,535 bytes number 1 and 32 zero bytes, else number 0 and the digest
abbrev pub HashedDecided : Type 0
HashedDecided =
    (m : List ℕ)
    → Decided (record { answer = record { number = 1; digest = replicate 32 0 }; when = 65535 < length m } ∷ [])
    (λ a. a ≡ record { number = 0; digest = sha256 m })
    (hashed m)

-- an answer's number and digest tell its case, so that the promise decides the answer
abbrev pub OneHashed : Type 0
OneHashed = (r s : Result (List ℕ) TooLong) → hashed_of r ≡ hashed_of s → r ≡ s

-- the tag byte is hashed before the two parts
abbrev pub TaggedHash : Type 0
TaggedHash = (tag : ℕ) (x y : List ℕ) → tagged tag x y ≡ sha256 ((tag ∷ x) ++ y)
