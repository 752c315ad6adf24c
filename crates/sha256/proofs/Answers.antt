-- What the calls answer, by cases.
-- Assumes nothing.
use Rattle.std.proofs.Common.{length, refl, ap, inl, inr, ⊎_elim, arith, le-ltb, lt-ltb, Ok, Err}
use Rattle.sha256.specs.Answer.{Hashed, hashed, tagged}
use Rattle.sha256.specs.Claims as claims
use Rattle.sha256.proofs.Words.{lt_or_le}

pub hashed_decided : claims.HashedDecided
unfolding hashed
hashed_decided m =
    ⊎_elim
    (λ lt. inl (lt, rw (lt-ltb 65535 (length m) lt)))
    (λ le. inr (λ lt. omega arith, rw (le-ltb 65535 (length m) le)))
    (lt_or_le 65535 (length m))

pub one_hashed : claims.OneHashed
one_hashed (Ok x) (Ok y) e = ap (λ (a : Hashed). Ok a.digest) e
one_hashed (Err c) (Err d) e = refl
one_hashed (Ok x) (Err d) e = absurd (omega (arith, ap (λ (a : Hashed). a.number) e))
one_hashed (Err c) (Ok y) e = absurd (omega (arith, ap (λ (a : Hashed). a.number) e))

pub tagged_hash : claims.TaggedHash
unfolding tagged
tagged_hash tag x y = refl
