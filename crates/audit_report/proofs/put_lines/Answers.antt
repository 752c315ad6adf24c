-- Three numbers behind their words, and the state right behind them.
use Rattle.std.proofs.Common.{arith}
use Rattle.audit_report.specs.Report.{lines_text}
use Rattle.audit_report.proofs.Pieces.{three_lines}
use Rattle.audit_report.proofs.put_lines.Goals as goal

pub returns : goal.returns
unfolding lines_text
returns c =
    three_lines c.put_number-entries_end.ensures.put c.put_number-bytes_end.ensures.put c.put_number-total_end.ensures.put c.put_state.ensures.put
    (omega (arith, c.put_state.ensures.upper_bound, c.put_number-total_end.ensures.upper_bound, c.put_number-bytes_end.ensures.upper_bound, c.put_number-entries_end.ensures.upper_bound))
