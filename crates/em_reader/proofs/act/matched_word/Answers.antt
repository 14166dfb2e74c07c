use Rattle.std.proofs.Common.{◌∙◌, refl, sym}
use Rattle.em_view.proofs.Doing.{finish_s, out_s}
use Rattle.em_reader.proofs.act.matched_word.Goals as goal

pub returns-in_err-glyphs : goal.returns-in_err-glyphs
returns-in_err-glyphs g c = out_s _ refl c.from_residual.ensures.1

pub returns-then-is_pattern : goal.returns-then-is_pattern
returns-then-is_pattern g c =
    let is = sym (rw (c.deref.ensures.value, c.in_ok-glyphs.ensures, c.bytes.ensures) at c.is_pattern.ensures) ∙ c.if-is_pattern.true in
    rw is c.matches_of.ensures

pub returns-in_err-alone : goal.returns-in_err-alone
returns-in_err-alone g c = out_s _ refl c.from_residual-in_err-alone.ensures.1

pub returns : goal.returns
returns g c =
    let is = sym (rw (c.deref.ensures.value, c.in_ok-glyphs.ensures, c.bytes.ensures) at c.is_pattern.ensures) ∙ c.if-is_pattern.false in
    rw (is, c.in_ok-alone.ensures) finish_s
