-- A number as text, in decimal, with the fewest digits.
use Rattle.std.specs.Prelude.{List, [], ◌∷◌, ◌++◌, ℕ, zero, suc, ◌+◌, ◌/◌, ◌%◌, ltb}
use Rattle.sha256.specs.Pick.{pick}

-- below ten one digit, from 48, which is `0`, on; else the digits of n / 10 and the last one; in at most f steps
unfoldable pub decimal_in : ℕ → ℕ → List ℕ
decimal_in zero n = []
decimal_in (suc f) n = pick (ltb n 10) ((48 + n) ∷ []) (decimal_in f (n / 10) ++ ((48 + n % 10) ∷ []))

-- n steps and one more are enough
unfoldable pub decimal : ℕ → List ℕ
decimal n = decimal_in (suc n) n
