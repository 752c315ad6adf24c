-- The index of a value.
use Rattle.std.specs.Prelude.{Bool, false, ℕ, leb}
use Rattle.sha256.specs.Pick.{pick}

-- 1 ≤ i ≤ n
unfoldable pub is_index : ℕ → ℕ → Bool
is_index i n = pick (leb 1 i) (leb i n) false
