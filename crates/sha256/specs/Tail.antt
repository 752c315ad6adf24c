-- Where a message ends among the words from a byte on.
use Rattle.std.specs.Prelude.{◌≡◌, ℕ, ◌+◌, ◌*◌, ◌<◌, ◌≤◌, List, [], ◌∷◌, ◌++◌, length}
use Rattle.sha256.specs.Fips180.{word_at}

-- Word q of those from byte j on is the one in which the message m ends: the words before it lie in m, and `end` is this word of m with the
-- byte 0x80 and zeros behind it.
pub record Ends (m : List ℕ) (j q end : ℕ) : Type 0 where
  pub before : j + 4 * q ≤ length m
  pub within : length m < j + 4 * q + 4
  pub last : end ≡ word_at (m ++ (128 ∷ [])) (j + 4 * q)
