-- What the program ringaudit does with its input and its output.
use Rattle.std.specs.Prelude.{Option, List, ℕ, ◌<◌, ◌≤◌, length}
use Rattle.std.specs.Io.KnownBytes.{Appends, Consumes, IsAtEnd}
use Rattle.audit_report.specs.Report.{report_text}

-- of an input with the bytes a to come and b afterwards, and an output with the bytes c and d afterwards, where those are known: the report
-- of what was read is written, and fewer than 65,537 bytes are read only where the input ends
pub record Reported (a b c d : Option (List ℕ)) : Type 0 where
  pub bytes : List ℕ
  pub few : length bytes ≤ 65537
  pub taken : Consumes a b bytes
  pub ended : length bytes < 65537 → IsAtEnd b
  pub written : Appends c d (report_text bytes)
