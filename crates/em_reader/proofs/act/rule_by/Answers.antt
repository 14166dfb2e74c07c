use Rattle.std.proofs.Common.{◌∙◌, refl, sym}
use Rattle.em_view.proofs.Doing.{finish_s, out_s, refused_s}
use Rattle.em_reader.proofs.Plain.{nothing_refused}
use Rattle.em_reader.proofs.act.rule_by.Goals as goal

pub returns-in_err-head : goal.returns-in_err-head
returns-in_err-head g c = out_s _ refl c.from_residual.ensures.1

pub returns-then-is_nothing : goal.returns-then-is_nothing
returns-then-is_nothing g c =
    let none = sym c.in_ok-head.ensures.value ∙ c.in_default.is in
    rw (nothing_refused c.args.line.now.assigns c.args.text.now none, none, sym c.is_nothing.ensures ∙ c.if-is_nothing.true) finish_s

pub returns-in_default : goal.returns-in_default
returns-in_default g c =
    let none = sym c.in_ok-head.ensures.value ∙ c.in_default.is in
    rw (nothing_refused c.args.line.now.assigns c.args.text.now none, none, sym c.is_nothing.ensures ∙ c.if-is_nothing.false) (refused_s _ c.at.ensures)

pub refused_in_read-requires : goal.refused_in_read-requires
refused_in_read-requires g c = sym c.in_ok-head.ensures.value ∙ c.in-Some.is

pub returns-in-Some-refused_in_read : goal.returns-in-Some-refused_in_read
returns-in-Some-refused_in_read g c = rw (sym (rw c.in-Some-refused_in_read.is at c.refused_in_read.ensures)) (refused_s _ c.refused.ensures)

pub returns : goal.returns
returns g c = rw (sym (rw c.in_default-refused_in_read.is at c.refused_in_read.ensures), sym c.in_ok-head.ensures.value ∙ c.in-Some.is) c.rule_with.ensures
