-- The bytes that were read are those that the report is of, and its bytes are those that are written.
use Rattle.std.proofs.Common.{take, subst, ◌∙◌, arith}
use Rattle.std.proofs.lemmas.Result.{on_ok_weaker}
use Rattle.std.specs.Io.KnownBytes.{Appends}
use Rattle.audit_report.proofs.Pieces.{put_taken}
use Rattle.audit_report.specs.Run.{Reported}
use Rattle.audit_report.proofs.run.Goals as goal

pub returns : goal.returns
returns g c =
    let read = c.in_ok-got.ensures in
    on_ok_weaker {Q = Reported _ _ _ _} _ (λ w. record {
      bytes = take c.in_ok-got.got c.read_full.new.buf;
      few = omega (arith, read.in_bounds.0, read.in_bounds.1, c.read_full.auto.buf);
      taken = read.bytes;
      ended = λ h. read.end (omega (arith, read.in_bounds.1));
      written = subst (Appends _ _) (put_taken c.put-count.ensures.put ∙ c.report.ensures.text) w;
    }) c.write_all.ensures.bytes
