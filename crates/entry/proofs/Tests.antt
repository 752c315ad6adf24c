-- Lists of tests: one test out of those that all hold, and one that fails.
-- Assumes nothing.
use mathlib.Core.Bool.{Bool, true, false, beq}
use mathlib.Core.List.{List, [], ◌∷◌}
use mathlib.Core.Path.{◌≡◌, refl}
use Prim.Native.Nat.{ℕ, zero, suc}
use lib.ListN.{get_or}
use Rattle.sha256.specs.Pick.{pick}
use Rattle.entry.specs.Shape.{all}
use Rattle.slate.proofs.Cases.{true_false}

-- where all tests hold, each one holds
pub all_at : (ts : List Bool) (n : ℕ) → all ts ≡ true → get_or ts n true ≡ true
all_at [] n h = refl
all_at (true ∷ ts) zero h = refl
all_at (true ∷ ts) (suc n) h = all_at ts n h
all_at (false ∷ ts) n h = true_false h refl

-- where one test fails, not all hold
pub all_fails : (ts : List Bool) (n : ℕ) → get_or ts n true ≡ false → all ts ≡ false
all_fails [] n h = true_false refl h
all_fails (true ∷ ts) zero h = true_false refl h
all_fails (true ∷ ts) (suc n) h = all_fails ts n h
all_fails (false ∷ ts) n h = refl

-- the second test is asked where the first one holds
pub both_true : (s t : Bool) → pick s t false ≡ true → (s ≡ true) × (t ≡ true)
both_true true t h = (refl, h)
both_true false t h = true_false h refl

-- a test is the same as itself
pub test_same : (s t : Bool) → s ≡ t → beq s t ≡ true
test_same true t h = rw (← h)
test_same false t h = rw (← h)

-- the last test decides
pub last_test : (t : Bool) → all (t ∷ []) ≡ t
last_test true = refl
last_test false = refl
