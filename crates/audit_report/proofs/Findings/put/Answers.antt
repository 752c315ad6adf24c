-- The line for a long input, or the three lines: at the start of the buffer, and counted there.
-- Assumes nothing.
use Rattle.audit_report.specs.Findings.{text_of}
use Rattle.audit_report.proofs.Pieces.{put_counts}
use Rattle.audit_report.proofs.Findings.put.Goals as goal

pub returns-in-TooLong-clause-put : goal.returns-in-TooLong-clause-put
unfolding text_of
returns-in-TooLong-clause-put c = rw c.in-TooLong.is c.put_text.ensures

pub returns-in-Audited-clause-put : goal.returns-in-Audited-clause-put
unfolding text_of
returns-in-Audited-clause-put c = rw c.in-Audited.is c.put_lines.ensures

pub returns-in-Audited-clause-prefix_len : goal.returns-in-Audited-clause-prefix_len
returns-in-Audited-clause-prefix_len c = put_counts c.put_lines.ensures
