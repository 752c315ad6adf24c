-- What a run of rounds does to the working variables and to the kept words.
use Rattle.std.specs.Prelude.{◌≡◌, ℕ, ◌-◌, List, length}
use Rattle.sha256.specs.Fips180.{rounds}
use Rattle.sha256.specs.Window.{kept}
use Rattle.sha256.specs.declared.State.{State}

-- The rounds t to u − 1 take the working variables s and the kept words w to r and v, whatever block M and hash value i they began
-- with: what was kept once word t − 1 was made becomes what is kept once word u − 1 is made. Up to word 15 that is the block itself.
pub record Ran (t u : ℕ) (s : State) (w : List ℕ) (r : State) (v : List ℕ) : Type 0 where
  pub ran : (M : List ℕ) (i : State) → length M ≡ 16 → w ≡ kept M (t - 1) → s ≡ rounds M i t
      → (r ≡ rounds M i u) × (v ≡ kept M (u - 1))
