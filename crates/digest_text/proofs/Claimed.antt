-- The text byte by byte, and its digits one by one.
-- Assumes nothing.
use mathlib.Core.List.{[], ◌∷◌}
use mathlib.Core.Path.{◌≡◌, refl}
use Prim.Native.Nat.{ℕ, zero, suc, ◌+◌, ◌*◌, ◌/◌, ◌%◌, ◌<◌}
use native.Mathlib.Omega.{arith}
use lib.ListN.{get_or}
use Rattle.digest_text.specs.Claims as claims
use Rattle.digest_text.specs.Claims.{sixteen}
use Rattle.digest_text.specs.Hex.{hex_digit_ascii, hex_of}

pub eight_bytes : claims.EightBytes
unfolding hex_of
eight_bytes = refl

digit_text : (d : ℕ) → d < 16 → hex_digit_ascii d ≡ get_or sixteen d 0
digit_text zero lt = refl
digit_text (suc zero) lt = refl
digit_text (suc (suc zero)) lt = refl
digit_text (suc (suc (suc zero))) lt = refl
digit_text (suc (suc (suc (suc zero)))) lt = refl
digit_text (suc (suc (suc (suc (suc zero))))) lt = refl
digit_text (suc (suc (suc (suc (suc (suc zero)))))) lt = refl
digit_text (suc (suc (suc (suc (suc (suc (suc zero))))))) lt = refl
digit_text (suc (suc (suc (suc (suc (suc (suc (suc zero)))))))) lt = refl
digit_text (suc (suc (suc (suc (suc (suc (suc (suc (suc zero))))))))) lt = refl
digit_text (suc (suc (suc (suc (suc (suc (suc (suc (suc (suc zero)))))))))) lt = refl
digit_text (suc (suc (suc (suc (suc (suc (suc (suc (suc (suc (suc zero))))))))))) lt = refl
digit_text (suc (suc (suc (suc (suc (suc (suc (suc (suc (suc (suc (suc zero)))))))))))) lt = refl
digit_text (suc (suc (suc (suc (suc (suc (suc (suc (suc (suc (suc (suc (suc zero))))))))))))) lt = refl
digit_text (suc (suc (suc (suc (suc (suc (suc (suc (suc (suc (suc (suc (suc (suc zero)))))))))))))) lt = refl
digit_text (suc (suc (suc (suc (suc (suc (suc (suc (suc (suc (suc (suc (suc (suc (suc zero))))))))))))))) lt = refl
digit_text (suc (suc (suc (suc (suc (suc (suc (suc (suc (suc (suc (suc (suc (suc (suc (suc h)))))))))))))))) lt = absurd (omega arith)

pub two_digits : claims.TwoDigits
unfolding hex_of
two_digits h l high low =
    let e : (16 * h + l) / 16 ≡ h = omega arith in
    let f : (16 * h + l) % 16 ≡ l = omega arith in
    rw (e, f, digit_text h high, digit_text l low)

pub byte_by_byte : claims.ByteByByte
unfolding hex_of
byte_by_byte [] b = refl
byte_by_byte (x ∷ a) b = rw (byte_by_byte a b)
