-- What the calls of this crate answer.
use Rattle.std.specs.Prelude.{ℕ, List, ◌∷◌, ◌++◌, Result, Ok, Err, length, replicate, nat_lt}
use Rattle.sha256.specs.Fips180.{sha256}
use Rattle.sha256.specs.Pick.{pick}
use Rattle.sha256.specs.declared.TooLong.{TooLong}

-- the answer to a message by its number: 0, or that of the refusal
pub record Hashed : Type 0 where
  pub number : ℕ
  pub digest : List ℕ

-- number 0 and the digest; over 65,535 bytes number 1 and 32 zero bytes
unfoldable pub hashed : List ℕ → Hashed
hashed m =
    pick (nat_lt 65535 (length m))
    (record { number = 1; digest = replicate 32 0 })
    (record { number = 0; digest = sha256 m })

-- number 0 and the digest, or the refusal 1 and 32 zero bytes
abbrev pub hashed_of : Result (List ℕ) TooLong → Hashed
hashed_of (Ok d) = record { number = 0; digest = d }
hashed_of (Err c) = record { number = 1; digest = replicate 32 0 }

-- the digest of a tag byte and what follows it
unfoldable pub tagged : ℕ → List ℕ → List ℕ → List ℕ
tagged tag x y = sha256 (tag ∷ (x ++ y))
