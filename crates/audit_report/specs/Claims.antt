-- What is claimed of the text, in document 01's terms, byte by byte: each claim is a type, and proofs/ has its proof.
use Rattle.std.specs.Prelude.{List, [], ◌∷◌, ◌++◌, ◌≡◌, ℕ, ◌+◌, ◌*◌, ◌≤◌, ◌<◌, length, get_or, drop}
use Rattle.slate.specs.Bytes.{Bytes}
use Rattle.entry.specs.Kind.{Item}
use Rattle.entry.specs.Log.{log}
use Rattle.ringlog.specs.Audit.{audited}
use Rattle.audit_report.specs.Decimal.{decimal}
use Rattle.audit_report.specs.Put.{Put}
use Rattle.audit_report.specs.Report.{report_text}

-- ---- the lines: each ends with one newline byte, 10

-- over 65,536 bytes only "input over 65536 bytes"
abbrev pub InputOver : Type 0
InputOver =
    (b : List ℕ) → 65536 < length b
    → report_text b
    ≡ 105 ∷ 110 ∷ 112 ∷ 117 ∷ 116 ∷ 32 ∷ 111 ∷ 118 ∷ 101 ∷ 114 ∷ 32 ∷ 54 ∷ 53 ∷ 53 ∷ 51 ∷ 54 ∷ 32 ∷ 98 ∷ 121 ∷ 116 ∷ 101 ∷ 115 ∷ 10 ∷ []

-- "entries e", "bytes n of m", "state s"
abbrev pub lines : ℕ → ℕ → ℕ → List ℕ → List ℕ
lines e n m s =
    (((101 ∷ 110 ∷ 116 ∷ 114 ∷ 105 ∷ 101 ∷ 115 ∷ 32 ∷ []) ++ decimal e) ++ (10 ∷ []))
    ++ (((((98 ∷ 121 ∷ 116 ∷ 101 ∷ 115 ∷ 32 ∷ []) ++ decimal n) ++ ((32 ∷ 111 ∷ 102 ∷ 32 ∷ []) ++ decimal m)) ++ (10 ∷ []))
    ++ (((115 ∷ 116 ∷ 97 ∷ 116 ∷ 101 ∷ 32 ∷ []) ++ s) ++ (10 ∷ [])))

-- else the entries and bytes that the audit answers, of all bytes: "whole" if all bytes count
abbrev pub StateWhole : Type 0
StateWhole =
    (b : List ℕ) → length b ≤ 65536 → (audited b).bytes ≡ length b
    → report_text b ≡ lines (audited b).entries (audited b).bytes (length b) (119 ∷ 104 ∷ 111 ∷ 108 ∷ 101 ∷ [])

-- and "torn" if not
abbrev pub StateTorn : Type 0
StateTorn =
    (b : List ℕ) → length b ≤ 65536 → ((audited b).bytes ≡ length b → ⊥)
    → report_text b ≡ lines (audited b).entries (audited b).bytes (length b) (116 ∷ 111 ∷ 114 ∷ 110 ∷ [])

-- of one 0x10 entry and three stray bytes: "entries 1", "bytes 52 of 55", "state torn"
abbrev pub TornTap : Type 0
TornTap =
    (v s : List ℕ) → Item v → get_or v 0 0 ≡ 0x10 → Bytes s → length s ≡ 3
    → report_text (log (v ∷ []) ++ s)
    ≡ (101 ∷ 110 ∷ 116 ∷ 114 ∷ 105 ∷ 101 ∷ 115 ∷ 32 ∷ 49 ∷ 10 ∷ [])
    ++ ((98 ∷ 121 ∷ 116 ∷ 101 ∷ 115 ∷ 32 ∷ 53 ∷ 50 ∷ 32 ∷ 111 ∷ 102 ∷ 32 ∷ 53 ∷ 53 ∷ 10 ∷ [])
    ++ (115 ∷ 116 ∷ 97 ∷ 116 ∷ 101 ∷ 32 ∷ 116 ∷ 111 ∷ 114 ∷ 110 ∷ 10 ∷ []))

-- of no input: "entries 0", "bytes 0 of 0", "state whole"
abbrev pub NoInput : Type 0
NoInput =
    report_text []
    ≡ (101 ∷ 110 ∷ 116 ∷ 114 ∷ 105 ∷ 101 ∷ 115 ∷ 32 ∷ 48 ∷ 10 ∷ [])
    ++ ((98 ∷ 121 ∷ 116 ∷ 101 ∷ 115 ∷ 32 ∷ 48 ∷ 32 ∷ 111 ∷ 102 ∷ 32 ∷ 48 ∷ 10 ∷ [])
    ++ (115 ∷ 116 ∷ 97 ∷ 116 ∷ 101 ∷ 32 ∷ 119 ∷ 104 ∷ 111 ∷ 108 ∷ 101 ∷ 10 ∷ []))

-- ---- a number in decimal

-- one digit below ten
abbrev pub OneDigit : Type 0
OneDigit = (n : ℕ) → n < 10 → decimal n ≡ (48 + n) ∷ []

-- else the digits of the tens, and then the last one
abbrev pub MoreDigits : Type 0
MoreDigits = (q r : ℕ) → 1 ≤ q → r < 10 → decimal (10 * q + r) ≡ decimal q ++ ((48 + r) ∷ [])

-- ---- a text in a buffer

-- written at the start of the buffer d, it is as long as r says, and the bytes behind it stay
abbrev pub PutFirst : Type 0
PutFirst = (d s e : List ℕ) (r : ℕ) → Put d 0 s e r → (r ≡ length s) × (e ≡ s ++ drop r d)
