use Rattle.std.proofs.Common.{◌≡◌, sym, ◌∙◌}
use Rattle.std.specs.Str.{IsUtf8}
use Rattle.em_base.proofs.Numerals.{ok_holds, not_text, not_read}
use Rattle.em_base.proofs.numbers.number.Goals as goal

pub returns-in_err-ok : goal.returns-in_err-ok
returns-in_err-ok c =
    rw c.from_residual.ensures
    (not_text c.args.limit c.args.text.now c.from_utf8.result _ _ (sym c.are_digits.ensures ∙ c.if-not-are_digits.false) c.from_utf8.ensures.cases (sym c.in_err-ok.was ∙ c.ok.ensures.value))

pub returns-in_err-value : goal.returns-in_err-value
returns-in_err-value c =
    let same = (ok_holds c.from_utf8.result c.in_ok-ok.field-0 (λ s. (s.now ≡ c.args.text.now) × IsUtf8 c.args.text.now) _ c.from_utf8.ensures.cases c.in_ok-ok.ensures.value).0 in
    rw c.from_residual-in_err-value.ensures
    (not_read c.args.limit c.args.text.now c.parse.result c.ranges.limit.fits (sym c.has_no_leading_zero.ensures ∙ c.if-not-has_no_leading_zero.false) (sym c.are_digits.ensures ∙ c.if-not-are_digits.false) (rw same at c.parse.ensures.value.0) (sym c.in_err-value.was ∙ c.ok-2.ensures.value))
