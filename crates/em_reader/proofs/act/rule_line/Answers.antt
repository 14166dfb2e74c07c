use Rattle.std.proofs.Common.{◌∙◌, refl, sym}
use Rattle.em_view.proofs.Doing.{out_s, refused_s}
use Rattle.em_reader.proofs.act.rule_line.Goals as goal

pub returns-in_default : goal.returns-in_default
returns-in_default g c = rw c.in_default.is (rw c.bytes-text.ensures at c.rule_by.ensures)

pub returns-in_err-name : goal.returns-in_err-name
returns-in_err-name g c = out_s _ refl c.from_residual.ensures.1

pub returns-in-Some-2 : goal.returns-in-Some-2
returns-in-Some-2 g c =
    let name = rw c.bytes-text.ensures at c.in_ok-name.ensures in
    rw (c.in-Some.is, sym name ∙ c.in-Some-2.is) (refused_s _ (rw c.bytes.ensures at c.refused.ensures))

pub returns : goal.returns
returns g c =
    let name = rw c.bytes-text.ensures at c.in_ok-name.ensures in
    rw (c.in-Some.is, sym name ∙ c.in_default-2.is) (refused_s _ (rw c.bytes-2.ensures at c.refused-2.ensures))
