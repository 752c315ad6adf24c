-- The digits of the tens, and the last digit right behind them.
use Rattle.std.proofs.Common.{◌≡◌, ◌+◌, ◌/◌, length, ap, arith, rules}
use lib.ListN.{length-append}
use Rattle.audit_report.specs.Decimal.{decimal}
use Rattle.audit_report.proofs.Decimals.{last_digit, one_digit}
use Rattle.audit_report.proofs.Pieces.{put_both}
use Rattle.audit_report.proofs.put.+put_decimal.Goals as goal

pub put_text-requires : goal.put_text-requires
put_text-requires t c = omega (arith, ap length (one_digit c.args.n c.if-n-lt10.true))

pub returns-then-n-lt10 : goal.returns-then-n-lt10
returns-then-n-lt10 t c = rw (one_digit c.args.n c.if-n-lt10.true) c.put_text.ensures

pub put_decimal-tens_end-requires : goal.put_decimal-tens_end-requires
put_decimal-tens_end-requires t c =
    let size : length (decimal c.args.n) ≡ length (decimal (c.args.n / 10)) + 1 = rw (last_digit c.args.n c.if-n-lt10.false) (simp length-append) in
    (search rules, omega (arith, size, c.requires))

pub put_text-requires-2 : goal.put_text-requires-2
put_text-requires-2 t c =
    let size : length (decimal c.args.n) ≡ length (decimal (c.args.n / 10)) + 1 = rw (last_digit c.args.n c.if-n-lt10.false) (simp length-append) in
    omega (arith, size, c.requires, c.put_decimal-tens_end.ensures.ends)

pub returns : goal.returns
returns t c =
    let size : length (decimal c.args.n) ≡ length (decimal (c.args.n / 10)) + 1 = rw (last_digit c.args.n c.if-n-lt10.false) (simp length-append) in
    rw (last_digit c.args.n c.if-n-lt10.false)
    (put_both c.put_decimal-tens_end.ensures c.put_text-2.ensures (omega (arith, size, c.requires, c.put_decimal-tens_end.ensures.ends, c.put_text-2.ensures.ends)))
