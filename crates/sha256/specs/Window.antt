-- The words of the message schedule that are kept: sixteen, rolled forward word by word.
use Rattle.std.specs.Prelude.{ℕ, zero, suc, ◌+◌, ◌-◌, ◌%◌, List, slice_index, slice_set}
use Rattle.sha256.specs.Fips180.{extend}

-- word t, made of kept words: word u stands at u modulo 16, and so word t − 16 where word t is to stand
unfoldable pub made : List ℕ → ℕ → ℕ
made w t = extend (slice_index w ((t - 2) % 16)) (slice_index w ((t - 7) % 16)) (slice_index w ((t - 15) % 16)) (slice_index w (t % 16))

-- the kept words with word t, which takes the place of word t − 16
unfoldable pub rolled : List ℕ → ℕ → List ℕ
rolled w t = slice_set w (t % 16) (made w t)

-- the block M as it is loaded, and n words rolled in behind its sixteen
unfoldable pub rolled_by : List ℕ → ℕ → List ℕ
rolled_by M zero = M
rolled_by M (suc n) = rolled (rolled_by M n) (16 + n)

-- what is kept of block M once word t is made, from word 15 on
abbrev pub kept : List ℕ → ℕ → List ℕ
kept M t = rolled_by M (t - 15)
