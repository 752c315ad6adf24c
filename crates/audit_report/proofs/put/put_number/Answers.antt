-- The text, and the digits right behind it.
use Rattle.std.proofs.Common.{arith, rules}
use Rattle.audit_report.proofs.Decimals.{decimal_short}
use Rattle.audit_report.proofs.Pieces.{put_both}
use Rattle.audit_report.proofs.put.put_number.Goals as goal

pub put_decimal-requires : goal.put_decimal-requires
put_decimal-requires c =
    let few = decimal_short c.args.n (search rules) in
    omega (arith, few, c.put_text-behind.ensures.ends)

pub returns-clause-put : goal.returns-clause-put
returns-clause-put c =
    let few = decimal_short c.args.n (search rules) in
    put_both c.put_text-behind.ensures c.put_decimal.ensures (omega (arith, few, c.put_text-behind.ensures.ends, c.put_decimal.ensures.ends))

pub returns-clause-upper_bound : goal.returns-clause-upper_bound
returns-clause-upper_bound c =
    let few = decimal_short c.args.n (search rules) in
    omega (arith, few, c.put_text-behind.ensures.ends, c.put_decimal.ensures.ends)
