-- A digest is 32 bytes.
-- Assumes nothing.
use Rattle.std.proofs.Common.{ℕ, zero, suc, ◌/◌, ◌<◌, List, [], ◌∷◌, length, get_or, refl, arith}
use Rattle.sha256.specs.Claims as claims
use Rattle.sha256.specs.Fips180.{H, bytes_of, hash_words, padded, sha256}

pub digest_length : claims.DigestLength
unfolding sha256
digest_length m = refl

words_are_bytes : (ws : List ℕ) (i : ℕ) → get_or (bytes_of ws) i 0 < 256
words_are_bytes [] i = omega arith
words_are_bytes (w ∷ ws) zero = omega arith
words_are_bytes (w ∷ ws) (suc zero) = omega arith
words_are_bytes (w ∷ ws) (suc (suc zero)) = omega arith
words_are_bytes (w ∷ ws) (suc (suc (suc zero))) = omega arith
words_are_bytes (w ∷ ws) (suc (suc (suc (suc i)))) = words_are_bytes ws i

pub digest_bytes : claims.DigestBytes
unfolding sha256
digest_bytes m i = words_are_bytes (hash_words (H (padded m) (length (padded m) / 64))) i
