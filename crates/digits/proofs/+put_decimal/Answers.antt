use mathlib.Core.Path.{ap, sym}
use native.Mathlib.Omega.{arith}
use lib.ListN.{length}
use Rattle.digits.proofs.Put.{decimal_one, put_digit, put_last, one_more_lem, twenty_digits}
use Rattle.digits.proofs.+put_decimal.Goals as goal

pub returns-then-n-lt10 : goal.returns-then-n-lt10
returns-then-n-lt10 t c =
    let n = c.args.n in
    let l = c.if-n-lt10.true in
    (put_digit _ _ n l c.put_byte.ensures, ap length (sym (decimal_one n l)), omega arith)

pub returns : goal.returns
returns t c =
    let n = c.args.n in
    let l = c.if-n-lt10.false in
    let tenth = c.put_decimal-k.ensures in
    let k = one_more_lem _ c.args.at n l tenth.0 tenth.1 in
    (put_last _ _ n l tenth.0 tenth.1 c.put_byte-2.ensures, k, twenty_digits n (omega (arith, c.well_formed)) k)
