-- What is written of an input's findings.
use Rattle.std.specs.Prelude.{List, ℕ}
use Rattle.audit_report.specs.Report.{line, lines_text, over_words}
use Rattle.audit_report.specs.declared.Findings.{Findings}
use Rattle.audit_report.specs.declared.Findings.TheVariants.{TooLong, Audited}

-- the line for a long input, or the lines of what the audit found
unfoldable pub text_of : Findings → List ℕ
text_of TooLong = line over_words
text_of (Audited entries bytes total) = lines_text entries bytes total
