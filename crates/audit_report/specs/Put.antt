-- What the functions that write a text piece by piece promise.
use Rattle.std.specs.Prelude.{List, ◌≡◌, ℕ, ◌+◌, length}
use Rattle.entry.specs.Write.{write_at}

-- the buffer d became e by the bytes s from `at` on, and r is where they end
pub record Put (d : List ℕ) (at : ℕ) (s e : List ℕ) (r : ℕ) : Type 0 where
  pub written : e ≡ write_at d at s
  pub ends : r ≡ at + length s
