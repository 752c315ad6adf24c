-- What is claimed of the text: each claim is a type, and proofs/ has its proof.
use Rattle.std.specs.Prelude.{List, [], ◌∷◌, ◌++◌, ◌≡◌, ℕ, ◌+◌, ◌*◌, ◌<◌, get_or}
use Rattle.digest_text.specs.Hex.{hex_of}

-- "0123456789abcdef"
abbrev pub sixteen : List ℕ
sixteen = 48 ∷ 49 ∷ 50 ∷ 51 ∷ 52 ∷ 53 ∷ 54 ∷ 55 ∷ 56 ∷ 57 ∷ 97 ∷ 98 ∷ 99 ∷ 100 ∷ 101 ∷ 102 ∷ []

-- the eight bytes 01 23 45 67 89 ab cd ef are the text "0123456789abcdef"
abbrev pub EightBytes : Type 0
EightBytes = hex_of (0x01 ∷ 0x23 ∷ 0x45 ∷ 0x67 ∷ 0x89 ∷ 0xab ∷ 0xcd ∷ 0xef ∷ []) ≡ sixteen

-- a byte is two digits, the high one first
abbrev pub TwoDigits : Type 0
TwoDigits = (h l : ℕ) → h < 16 → l < 16 → hex_of ((16 * h + l) ∷ []) ≡ get_or sixteen h 0 ∷ get_or sixteen l 0 ∷ []

-- and the text of bytes one behind another is their texts one behind another
abbrev pub ByteByByte : Type 0
ByteByByte = (a b : List ℕ) → hex_of (a ++ b) ≡ hex_of a ++ hex_of b
