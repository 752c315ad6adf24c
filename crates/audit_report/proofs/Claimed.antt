-- The claims on the text: long input, the state, document 01's example, and no input.
-- Assumes nothing.
use mathlib.Core.List.{List, [], ◌∷◌, ◌++◌}
use mathlib.Core.Path.{◌≡◌, ◌∙◌}
use Prim.Native.Nat.{ℕ}
use native.Mathlib.Omega.{arith}
use borrow.Author.Tests.{eq-eqb, le-ltb, lt-ltb, ne_eqb}
use lib.ListN.{length, get_or, length-append}
use Rattle.slate.specs.Digits.{digit, max_height, ones_below}
use Rattle.slate.specs.Length.{entry_len, offset}
use Rattle.entry.specs.Kind.{Item, body_len, is_value, payload_len}
use Rattle.entry.specs.Log.{Values, entries, log}
use Rattle.entry.proofs.Items.{item_whole}
use Rattle.entry.proofs.Lengths.{log_length}
use Rattle.entry.proofs.NextEntry.{values_none, values_snoc}
use Rattle.ringlog.proofs.AuditClaims.{audit_stray, audit_whole}
use Rattle.ringlog.specs.Audit.{audited}
use Rattle.audit_report.specs.Claims as claims
use Rattle.audit_report.specs.Decimal.{decimal, decimal_in}
use Rattle.audit_report.specs.Report.{lines_text, report_text}

-- ---- any input

pub input_over : claims.InputOver
unfolding report_text
input_over b over = rw (lt-ltb 65536 (length b) over)

pub state_whole : claims.StateWhole
unfolding report_text lines_text
state_whole b few all = rw (le-ltb 65536 (length b) few, eq-eqb (audited b).bytes (length b) all)

pub state_torn : claims.StateTorn
unfolding report_text lines_text
state_torn b few stray = rw (le-ltb 65536 (length b) few, ne_eqb (audited b).bytes (length b) stray)

-- ---- no input

pub no_input : claims.NoInput
unfolding report_text lines_text decimal decimal_in log entries
no_input = rw (audit_whole [] values_none)

-- ---- one tap

one_value : (v : List ℕ) → Item v → Values (v ∷ [])
unfolding max_height
one_value v i = values_snoc [] v values_none i (omega arith)

tap_length : (v : List ℕ) → Item v → get_or v 0 0 ≡ 0x10 → length (log (v ∷ [])) ≡ 52
unfolding offset entry_len ones_below digit max_height payload_len is_value body_len
tap_length v i tap = log_length (v ∷ []) ∙ rw (item_whole v i.valid, tap)

pub torn_tap : claims.TornTap
unfolding report_text lines_text decimal decimal_in
torn_tap v s i tap bytes three =
    let size : length (log (v ∷ []) ++ s) ≡ 55 = simp length-append (omega (arith, tap_length v i tap)) in
    rw (audit_stray (v ∷ []) s (one_value v i) bytes (omega arith), size, tap_length v i tap)
