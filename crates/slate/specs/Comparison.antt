-- The value by value comparison of two lists, as document 01 writes it out. It is given nothing but the values.
use Rattle.std.specs.Prelude.{List, [], ℕ, zero, suc, min, eqb, ltb, length, get_or}
use Rattle.sha256.specs.Pick.{pick}
use Rattle.slate.specs.Bytes.{same}

pub data Verdict : Type 0 where
  equal first_shorter second_shorter : Verdict
  differ_at : ℕ → Verdict

pub record Compared : Type 0 where
  pub common : ℕ
  pub verdict : Verdict

-- no value differs: same if m1 = m2, first shorter if m1 < m2, else second shorter
unfoldable pub by_length : ℕ → ℕ → Verdict
by_length m1 m2 = pick (eqb m1 m2) equal (pick (ltb m1 m2) first_shorter second_shorter)

-- the steps from the state k, with f = n − k values to go: where none is left, stop, n in common; where value k + 1 of both differs,
-- stop, k in common, differ at k + 1; else k rises by one
unfoldable pub compared_from : List (List ℕ) → List (List ℕ) → ℕ → ℕ → Compared
compared_from vs ws zero k = record { common = k; verdict = by_length (length vs) (length ws) }
compared_from vs ws (suc f) k =
    pick (same (get_or vs k []) (get_or ws k []))
    (compared_from vs ws f (suc k))
    (record { common = k; verdict = differ_at (suc k) })

-- the state k begins with 0; n is the smaller of m1 and m2
unfoldable pub compared : List (List ℕ) → List (List ℕ) → Compared
compared vs ws = compared_from vs ws (min (length vs) (length ws)) 0
