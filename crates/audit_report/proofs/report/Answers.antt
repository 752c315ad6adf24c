-- The line for a long input, or the lines of what the audit answers.
use Rattle.std.proofs.Common.{rules, ◌≤◌, ◌<◌, ◌^◌, ℕ, Bool, true, false, length, eqb, arith}
use lib.ListN.{length-append}
use borrow.Author.Tests.{le-ltb, lt-ltb}
use Rattle.sha256.specs.Pick.{pick}
use Rattle.audit_report.specs.Findings.{text_of}
use Rattle.audit_report.specs.Report.{lines_text, report_text, torn_word, whole_word}
use Rattle.audit_report.proofs.Decimals.{decimal_short}
use Rattle.audit_report.proofs.report.Goals as goal

state_short : (all : Bool) → length (pick all whole_word torn_word) ≤ 5
state_short true = omega arith
state_short false = omega arith

lines_short : (e n m : ℕ) → e < 2 ^ 64 → n < 2 ^ 64 → m < 2 ^ 64 → length (lines_text e n m) ≤ 92
unfolding lines_text
lines_short e n m a b c = simp length-append (omega (arith, decimal_short e a, decimal_short n b, decimal_short m c, state_short (eqb n m)))

pub returns-then-input-gt-MOST-clause-text : goal.returns-then-input-gt-MOST-clause-text
unfolding report_text text_of
returns-then-input-gt-MOST-clause-text c = rw (lt-ltb _ _ c.if-input-gt-MOST.true)

pub returns-then-input-gt-MOST-clause-room : goal.returns-then-input-gt-MOST-clause-room
unfolding text_of
returns-then-input-gt-MOST-clause-room c = omega arith

pub returns-clause-text : goal.returns-clause-text
unfolding report_text text_of
returns-clause-text c = rw (le-ltb _ _ c.if-input-gt-MOST.false, c.audit-audited.ensures.value)

pub returns-clause-room : goal.returns-clause-room
unfolding text_of
returns-clause-room c = lines_short _ _ _ (search rules) (search rules) (search rules)
