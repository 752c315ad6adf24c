-- Document 01's formula for the reads of an answered search.
use Rattle.std.specs.Prelude.{ℕ, zero, suc, ◌+◌}
use Rattle.slate.specs.Comparison.{Verdict, differ_at, equal, first_shorter, second_shorter}
use Rattle.slate.specs.Moves.{lefts}

-- lefts(n,i) where they differ at i
abbrev pub lefts_below : ℕ → Verdict → ℕ
lefts_below n equal = 0
lefts_below n first_shorter = 0
lefts_below n second_shorter = 0
lefts_below n (differ_at i) = lefts n i

-- on a log of m values, where n is the smaller length: 0 if m = 0; 1 if n = 0 < m; else 1 + lefts(m,n), plus lefts(n,i) where they differ at i
abbrev pub reads_formula : ℕ → ℕ → Verdict → ℕ
reads_formula zero n v = 0
reads_formula (suc x) zero v = 1
reads_formula (suc x) (suc t) v = 1 + lefts (suc x) (suc t) + lefts_below (suc t) v
