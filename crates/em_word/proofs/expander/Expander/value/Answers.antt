use Rattle.std.proofs.Common.{◌∙◌, false, None, sym, ap}
use Rattle.em_fields.specs.Forms.{form_of, early_value, late_value, told}
use Rattle.em_word.specs.Talk.{and_then}
use Rattle.em_word.specs.Values.{value_piece, argument, close, text_of}
use Rattle.em_word.proofs.Stepping.{bad, failed, fails, paid, unpaid, on}
use Rattle.em_word.proofs.Landing.{led, looked_value}
use Rattle.em_word.proofs.expander.Expander.value.Goals as goal

pub returns-in_err-charge_unit-clause-steps : goal.returns-in_err-charge_unit-clause-steps
unfolding value_piece
returns-in_err-charge_unit-clause-steps g c = bad _ _ c.from_residual.ensures.1 (unpaid _ c.in_err-charge_unit.ensures)

pub returns-in_default-clause-steps : goal.returns-in_default-clause-steps
unfolding value_piece
returns-in_default-clause-steps g c = rw ((λ i. form_of (sym c.bytes-name.ensures i) (sym c.bytes.ensures i) false) ∙ sym c.form_of.ensures ∙ c.in_default.is) (failed (paid _ c.in_ok-charge_unit.ensures) fails)

pub returns-in-Text-clause-steps : goal.returns-in-Text-clause-steps
unfolding value_piece
returns-in-Text-clause-steps g c = rw ((λ i. form_of (sym c.bytes-name.ensures i) (sym c.bytes.ensures i) false) ∙ sym c.form_of.ensures ∙ c.in-Some.is) (led _ _ (on (paid _ c.in_ok-charge_unit.ensures) (looked_value c.in-Some.form c.args.quoted c.args.value.now.name _ (ap (λ v. early_value c.in-Some.form v c.args.shell.now.status) (ap (text_of c.args.shell.now) (sym c.bytes-name.ensures) ∙ sym c.text_of.ensures) ∙ sym c.early_value.ensures ∙ ap told c.in-Text.is) (and_then (argument None) (close (late_value c.in-Some.form) c.args.quoted c.args.value.now.name)) c.args.self.now)) c.settle.result c.settle.ensures.steps)

pub returns-in-Number-clause-steps : goal.returns-in-Number-clause-steps
unfolding value_piece
returns-in-Number-clause-steps g c = rw ((λ i. form_of (sym c.bytes-name.ensures i) (sym c.bytes.ensures i) false) ∙ sym c.form_of.ensures ∙ c.in-Some.is) (led _ _ (on (paid _ c.in_ok-charge_unit.ensures) (looked_value c.in-Some.form c.args.quoted c.args.value.now.name _ (ap (λ v. early_value c.in-Some.form v c.args.shell.now.status) (ap (text_of c.args.shell.now) (sym c.bytes-name.ensures) ∙ sym c.text_of.ensures) ∙ sym c.early_value.ensures ∙ ap told c.in-Number.is) (and_then (argument None) (close (late_value c.in-Some.form) c.args.quoted c.args.value.now.name)) c.args.self.now)) c.settle-in-Number.result (rw (c.as_bytes.ensures.value, c.format.ensures.text) at c.settle-in-Number.ensures.steps))

pub returns-in-Argument-clause-steps : goal.returns-in-Argument-clause-steps
unfolding value_piece
returns-in-Argument-clause-steps g c = rw ((λ i. form_of (sym c.bytes-name.ensures i) (sym c.bytes.ensures i) false) ∙ sym c.form_of.ensures ∙ c.in-Some.is) (led _ _ (on (paid _ c.in_ok-charge_unit.ensures) (looked_value c.in-Some.form c.args.quoted c.args.value.now.name _ (ap (λ v. early_value c.in-Some.form v c.args.shell.now.status) (ap (text_of c.args.shell.now) (sym c.bytes-name.ensures) ∙ sym c.text_of.ensures) ∙ sym c.early_value.ensures ∙ ap told c.in-Argument.is) (and_then (argument None) (close (late_value c.in-Some.form) c.args.quoted c.args.value.now.name)) c.args.self.now)) c.close.result (rw (c.late_value-late.ensures, c.bytes-name.ensures, c.new-argument.ensures) at c.close.ensures.steps))
