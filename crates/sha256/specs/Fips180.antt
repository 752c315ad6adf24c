-- SHA-256 as FIPS 180-4 defines it, in the standard's order; each definition names its section.
-- A word is a number below 2^32, a byte a number below 256, a message a list of bytes.
use Rattle.std.specs.Prelude.{ℕ, zero, suc, ◌+◌, ◌-◌, ◌*◌, ◌/◌, ◌%◌, ◌^◌, List, [], ◌∷◌, ◌++◌, length, replicate, bit_and, bit_or, bit_xor, nat_lt, slice_index}
use Rattle.sha256.specs.Pick.{pick}
use Rattle.sha256.specs.declared.State.{State}

-- 2.2.2 and 3.2: operations on words

-- x + y, modulo 2^32
abbrev pub add32 : ℕ → ℕ → ℕ
add32 x y = (x + y) % 2 ^ 32

-- x << n: the digits that leave the word are dropped
abbrev pub shl : ℕ → ℕ → ℕ
shl n x = x * 2 ^ n % 2 ^ 32

-- SHR^n(x) = x >> n
abbrev pub shr : ℕ → ℕ → ℕ
shr n x = x / 2 ^ n

-- ROTR^n(x) = (x >> n) ∨ (x << 32 − n)
abbrev pub rotr : ℕ → ℕ → ℕ
rotr n x = bit_or (shr n x) (shl (32 - n) x)

-- ¬x
abbrev pub not32 : ℕ → ℕ
not32 x = (2 ^ 32 - 1) - x

-- 4.1.2: functions

-- Ch(x, y, z) = (x ∧ y) ⊕ (¬x ∧ z)
abbrev pub Ch : ℕ → ℕ → ℕ → ℕ
Ch x y z = bit_xor (bit_and x y) (bit_and (not32 x) z)

-- Maj(x, y, z) = (x ∧ y) ⊕ (x ∧ z) ⊕ (y ∧ z)
abbrev pub Maj : ℕ → ℕ → ℕ → ℕ
Maj x y z = bit_xor (bit_xor (bit_and x y) (bit_and x z)) (bit_and y z)

-- Σ0(x) = ROTR^2(x) ⊕ ROTR^13(x) ⊕ ROTR^22(x)
abbrev pub Σ0 : ℕ → ℕ
Σ0 x = bit_xor (bit_xor (rotr 2 x) (rotr 13 x)) (rotr 22 x)

-- Σ1(x) = ROTR^6(x) ⊕ ROTR^11(x) ⊕ ROTR^25(x)
abbrev pub Σ1 : ℕ → ℕ
Σ1 x = bit_xor (bit_xor (rotr 6 x) (rotr 11 x)) (rotr 25 x)

-- σ0(x) = ROTR^7(x) ⊕ ROTR^18(x) ⊕ SHR^3(x)
abbrev pub σ0 : ℕ → ℕ
σ0 x = bit_xor (bit_xor (rotr 7 x) (rotr 18 x)) (shr 3 x)

-- σ1(x) = ROTR^17(x) ⊕ ROTR^19(x) ⊕ SHR^10(x)
abbrev pub σ1 : ℕ → ℕ
σ1 x = bit_xor (bit_xor (rotr 17 x) (rotr 19 x)) (shr 10 x)

-- 4.2.2: the constants K_0 to K_63
unfoldable pub constants : List ℕ
constants =
    0x428a2f98 ∷ 0x71374491 ∷ 0xb5c0fbcf ∷ 0xe9b5dba5
    ∷ 0x3956c25b ∷ 0x59f111f1 ∷ 0x923f82a4 ∷ 0xab1c5ed5
    ∷ 0xd807aa98 ∷ 0x12835b01 ∷ 0x243185be ∷ 0x550c7dc3
    ∷ 0x72be5d74 ∷ 0x80deb1fe ∷ 0x9bdc06a7 ∷ 0xc19bf174
    ∷ 0xe49b69c1 ∷ 0xefbe4786 ∷ 0x0fc19dc6 ∷ 0x240ca1cc
    ∷ 0x2de92c6f ∷ 0x4a7484aa ∷ 0x5cb0a9dc ∷ 0x76f988da
    ∷ 0x983e5152 ∷ 0xa831c66d ∷ 0xb00327c8 ∷ 0xbf597fc7
    ∷ 0xc6e00bf3 ∷ 0xd5a79147 ∷ 0x06ca6351 ∷ 0x14292967
    ∷ 0x27b70a85 ∷ 0x2e1b2138 ∷ 0x4d2c6dfc ∷ 0x53380d13
    ∷ 0x650a7354 ∷ 0x766a0abb ∷ 0x81c2c92e ∷ 0x92722c85
    ∷ 0xa2bfe8a1 ∷ 0xa81a664b ∷ 0xc24b8b70 ∷ 0xc76c51a3
    ∷ 0xd192e819 ∷ 0xd6990624 ∷ 0xf40e3585 ∷ 0x106aa070
    ∷ 0x19a4c116 ∷ 0x1e376c08 ∷ 0x2748774c ∷ 0x34b0bcb5
    ∷ 0x391c0cb3 ∷ 0x4ed8aa4a ∷ 0x5b9cca4f ∷ 0x682e6ff3
    ∷ 0x748f82ee ∷ 0x78a5636f ∷ 0x84c87814 ∷ 0x8cc70208
    ∷ 0x90befffa ∷ 0xa4506ceb ∷ 0xbef9a3f7 ∷ 0xc67178f2 ∷ []

-- K_t
unfoldable pub K : ℕ → ℕ
K t = slice_index constants t

-- 5.1.1: padding. The standard counts bits: the bit 1, then k zero bits with k the smallest such that l + 1 + k = 448 modulo 512,
-- then l in 64 bits, where l is the length of the message in bits. In bytes: 0x80, then zero bytes up to 56 modulo 64, then l in 8 bytes.

-- 3.1: a word as its four bytes, most significant first
abbrev pub word_bytes : ℕ → List ℕ
word_bytes x = x / 2 ^ 24 % 256 ∷ x / 2 ^ 16 % 256 ∷ x / 2 ^ 8 % 256 ∷ x % 256 ∷ []

-- how many zero bytes stand between 0x80 and the length of a message of n bytes
unfoldable pub zero_bytes : ℕ → ℕ
zero_bytes n = (119 - n % 64) % 64

-- k, the number of zero bits: seven in the byte 0x80, and those zero bytes
abbrev pub zero_bits : ℕ → ℕ
zero_bits n = 7 + 8 * zero_bytes n

unfoldable pub padded : List ℕ → List ℕ
padded m =
    (m ++ (0x80 ∷ []))
    ++ (replicate (zero_bytes (length m)) 0 ++ (word_bytes (8 * length m / 2 ^ 32) ++ word_bytes (8 * length m % 2 ^ 32)))

-- 5.2.1: parsing into blocks of sixteen words

-- 3.1: the word of four bytes, most significant first
abbrev pub join : ℕ → ℕ → ℕ → ℕ → ℕ
join b0 b1 b2 b3 = b0 * 2 ^ 24 + b1 * 2 ^ 16 + b2 * 2 ^ 8 + b3

-- the word whose four bytes stand at j
unfoldable pub word_at : List ℕ → ℕ → ℕ
word_at p j = join (slice_index p j) (slice_index p (j + 1)) (slice_index p (j + 2)) (slice_index p (j + 3))

-- n words, from byte j on
unfoldable pub words_at : ℕ → List ℕ → ℕ → List ℕ
words_at zero p j = []
words_at (suc n) p j = word_at p j ∷ words_at n p (j + 4)

-- M^(i + 1), the block that i blocks stand before
unfoldable pub block : List ℕ → ℕ → List ℕ
block p i = words_at 16 p (64 * i)

-- 5.3.3: the initial hash value H^(0). A hash value H_0 .. H_7 has the fields of the working variables a .. h.
abbrev pub initial : State
initial = record {
  a = 0x6a09e667;
  b = 0xbb67ae85;
  c = 0x3c6ef372;
  d = 0xa54ff53a;
  e = 0x510e527f;
  f = 0x9b05688c;
  g = 0x1f83d9ab;
  h = 0x5be0cd19;
}

-- 6.2.2: hash computation

-- step 1: the message schedule. W_t = M_t for t below 16, and σ1(W_{t−2}) + W_{t−7} + σ0(W_{t−15}) + W_{t−16} from there on.
unfoldable pub extend : ℕ → ℕ → ℕ → ℕ → ℕ
extend w2 w7 w15 w16 = add32 (add32 (add32 (σ1 w2) w7) (σ0 w15)) w16

-- W_t, from the list w of the words before it
unfoldable pub next : List ℕ → List ℕ → ℕ → ℕ
next M w t =
    pick (nat_lt t 16)
    (slice_index M t)
    (extend (slice_index w (t - 2)) (slice_index w (t - 7)) (slice_index w (t - 15)) (slice_index w (t - 16)))

-- W_0 .. W_{t−1}
unfoldable pub schedule : List ℕ → ℕ → List ℕ
schedule M zero = []
schedule M (suc t) = schedule M t ++ (next M (schedule M t) t ∷ [])

unfoldable pub W : List ℕ → ℕ → ℕ
W M t = next M (schedule M t) t

-- step 3: T_1 = h + Σ1(e) + Ch(e, f, g) + K_t + W_t
unfoldable pub T1 : State → ℕ → ℕ → ℕ
T1 s k w = add32 (add32 (add32 (add32 s.h (Σ1 s.e)) (Ch s.e s.f s.g)) k) w

-- T_2 = Σ0(a) + Maj(a, b, c)
unfoldable pub T2 : State → ℕ
T2 s = add32 (Σ0 s.a) (Maj s.a s.b s.c)

-- h = g, g = f, f = e, e = d + T_1, d = c, c = b, b = a, a = T_1 + T_2
unfoldable pub round : State → ℕ → ℕ → State
round s k w = record {
  a = add32 (T1 s k w) (T2 s);
  b = s.a;
  c = s.b;
  d = s.c;
  e = add32 s.d (T1 s k w);
  f = s.e;
  g = s.f;
  h = s.g;
}

-- the working variables after the rounds 0 .. t − 1; step 2 begins with those of the hash value s
unfoldable pub rounds : List ℕ → State → ℕ → State
rounds M s zero = s
rounds M s (suc t) = round (rounds M s t) (K t) (W M t)

-- step 4: each word of the hash value plus its working variable
unfoldable pub plus : State → State → State
plus s v = record {
  a = add32 s.a v.a;
  b = add32 s.b v.b;
  c = add32 s.c v.c;
  d = add32 s.d v.d;
  e = add32 s.e v.e;
  f = add32 s.f v.f;
  g = add32 s.g v.g;
  h = add32 s.h v.h;
}

-- H^(i) from H^(i−1) and M^(i)
unfoldable pub compressed : State → List ℕ → State
compressed s M = plus s (rounds M s 64)

-- H^(i) of the padded message p
unfoldable pub H : List ℕ → ℕ → State
H p zero = initial
H p (suc i) = compressed (H p i) (block p i)

-- H_0 ‖ H_1 ‖ .. ‖ H_7
abbrev pub hash_words : State → List ℕ
hash_words s = s.a ∷ s.b ∷ s.c ∷ s.d ∷ s.e ∷ s.f ∷ s.g ∷ s.h ∷ []

-- words as bytes, end to end
abbrev pub bytes_of : List ℕ → List ℕ
bytes_of [] = []
bytes_of (w ∷ ws) = word_bytes w ++ bytes_of ws

-- the message digest: H^(N), N the number of blocks of the padded message
unfoldable pub sha256 : List ℕ → List ℕ
sha256 m = bytes_of (hash_words (H (padded m) (length (padded m) / 64)))
