-- Lists of bytes.
use Rattle.std.specs.Prelude.{Bool, true, false, List, [], ◌∷◌, ℕ, ◌<◌, eqb, get_or, take, drop}
use Rattle.sha256.specs.Pick.{pick}

-- each element is a byte
abbrev pub Bytes : List ℕ → Type 0
Bytes l = (i : ℕ) → get_or l i 0 < 256

-- the test that two lists have the same bytes
unfoldable pub same : List ℕ → List ℕ → Bool
same [] [] = true
same [] (y ∷ ys) = false
same (x ∷ xs) [] = false
same (x ∷ xs) (y ∷ ys) = pick (eqb x y) (same xs ys) false

-- n bytes from o on
unfoldable pub part : List ℕ → ℕ → ℕ → List ℕ
part b o n = take n (drop o b)
