-- What is used is a number of the buffer's bytes.
use Rattle.std.proofs.Common.{◌≡◌, length}
use Rattle.input.specs.Counts.{IsPrefixLen}
use Rattle.bench_sheet.proofs.appended.Given as goal

abbrev pub invariant-loop-i : goal.invariant-loop-i
invariant-loop-i l = (length l.buffer ≡ length l.initial.buffer) × IsPrefixLen l.used l.buffer
