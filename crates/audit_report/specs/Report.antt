-- What the program ringaudit writes, byte by byte.
use Rattle.std.specs.Prelude.{Bool, List, [], ◌∷◌, ◌++◌, ℕ, eqb, ltb, length}
use Rattle.sha256.specs.Pick.{pick}
use Rattle.ringlog.specs.Audit.{audited}
use Rattle.audit_report.specs.Decimal.{decimal}

-- "entries "
abbrev pub entries_word : List ℕ
entries_word = 101 ∷ 110 ∷ 116 ∷ 114 ∷ 105 ∷ 101 ∷ 115 ∷ 32 ∷ []

-- "bytes "
abbrev pub bytes_word : List ℕ
bytes_word = 98 ∷ 121 ∷ 116 ∷ 101 ∷ 115 ∷ 32 ∷ []

-- " of "
abbrev pub of_word : List ℕ
of_word = 32 ∷ 111 ∷ 102 ∷ 32 ∷ []

-- "state "
abbrev pub state_word : List ℕ
state_word = 115 ∷ 116 ∷ 97 ∷ 116 ∷ 101 ∷ 32 ∷ []

-- "whole"
abbrev pub whole_word : List ℕ
whole_word = 119 ∷ 104 ∷ 111 ∷ 108 ∷ 101 ∷ []

-- "torn"
abbrev pub torn_word : List ℕ
torn_word = 116 ∷ 111 ∷ 114 ∷ 110 ∷ []

-- every line ends with one newline byte
abbrev pub line : List ℕ → List ℕ
line s = s ++ (10 ∷ [])

-- "state whole" if all bytes count
abbrev pub state_line : Bool → List ℕ
state_line all = line (state_word ++ pick all whole_word torn_word)

-- of e entries, and n of m bytes that count: "entries 1", "bytes 52 of 55", "state torn"
unfoldable pub lines_text : ℕ → ℕ → ℕ → List ℕ
lines_text e n m =
    line (entries_word ++ decimal e)
    ++ (line ((bytes_word ++ decimal n) ++ (of_word ++ decimal m))
    ++ state_line (eqb n m))

-- "input over 65536 bytes"
abbrev pub over_words : List ℕ
over_words = 105 ∷ 110 ∷ 112 ∷ 117 ∷ 116 ∷ 32 ∷ 111 ∷ 118 ∷ 101 ∷ 114 ∷ 32 ∷ 54 ∷ 53 ∷ 53 ∷ 51 ∷ 54 ∷ 32 ∷ 98 ∷ 121 ∷ 116 ∷ 101 ∷ 115 ∷ []

-- of an input b
unfoldable pub report_text : List ℕ → List ℕ
report_text b = pick (ltb 65536 (length b)) (line over_words) (lines_text (audited b).entries (audited b).bytes (length b))
