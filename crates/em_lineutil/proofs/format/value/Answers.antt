use Rattle.std.proofs.Common.{◌≡◌, ◌∙◌, ◌+◌, ◌-◌, ◌*◌, ap, sym, get_or, take, arith}
use Rattle.std.specs.Str.Parse.{digits_value}
use Rattle.em_lineutil.proofs.Digits.{one_more, first_below, digit_at, digit_is}
use Rattle.em_lineutil.proofs.format.value.Goals as goal

pub loop-digit-preserved : goal.loop-digit-preserved
loop-digit-preserved c =
    let ds = c.args.digits.now in
    let i = c.loop-digit.digit-index in
    let d = get_or ds i 0 in
    let low = c.loop-digit-test.true in
    let digit : c.from.result ≡ d - 48 = c.from.ensures in
    let is : c.loop-digit.value * 10 + c.from.result ≡ digits_value 10 (take (i + 1) ds) = omega (arith, one_more ds i low, digit_is d (digit_at ds i c.requires.digits low), digit, c.loop-digit.invariant.0) in
    (is, rw is (first_below ds (i + 1) c.requires.digits c.requires.short))
