-- The nine lines of the bench sheet, computed from the definitions.
-- Assumes nothing.
use mathlib.Core.List.{List, []}
use mathlib.Core.Path.{◌≡◌, refl}
use Prim.Native.Nat.{ℕ, ◌<◌}
use native.Mathlib.Omega.{arith}
use lib.Count.{ones, ones_in, count_trailing_zeros}
use lib.ListN.{length, get_or}
use Rattle.slate.specs.Address.{nodes_below}
use Rattle.slate.specs.BenchSheet.{BenchSheet, SheetHolds}
use Rattle.slate.specs.Digits.{base, digit, max_height, ones_below}
use Rattle.slate.specs.Length.{entry_len, offset}
use Rattle.slate.specs.Moves.{highest_difference, hops, lefts, split_bit, turn}

module _ (Tap : List ℕ → Type 0) (nine : (v : List ℕ) → Tap v → length v ≡ 9) where
  pub sheet_holds : SheetHolds Tap
  unfolding base digit entry_len highest_difference hops lefts max_height nodes_below offset ones ones_below ones_in split_bit count_trailing_zeros turn
  sheet_holds = (
    refl,
    (
      refl,
      (
        (refl, refl),
        (
          (refl, refl),
          (
            (refl, refl),
            (
              (refl, refl),
              (
                refl,
                (
                  refl,
                  (
                    λ vs m taps.
                        let size : (k : ℕ) → k < 8 → length (get_or vs k []) ≡ 9 = λ k lt. nine (get_or vs k []) (taps k lt) in
                        rw (
                          size 0 (omega arith),
                          size 1 (omega arith),
                          size 2 (omega arith),
                          size 3 (omega arith),
                          size 4 (omega arith),
                          size 5 (omega arith),
                          size 6 (omega arith),
                          size 7 (omega arith),
                        )
                        (refl, refl),
                    tt,
                  ),
                ),
              ),
            ),
          ),
        ),
      ),
    ),
  )

pub bench_sheet : BenchSheet
bench_sheet = sheet_holds (λ v. length v ≡ 9) (λ v e. e)
