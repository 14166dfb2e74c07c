use Rattle.std.proofs.Common.{◌∙◌, true, sym, ap}
use Rattle.em_fields.specs.Forms.{form_of, early_value, late_value, told}
use Rattle.em_word.specs.Held.{arounds, next}
use Rattle.em_word.specs.Values.{text_of}
use Rattle.em_word.proofs.Stepping.{bad, failed, fails, lost, paid, unpaid, on, is_same}
use Rattle.em_word.proofs.Landing.{led, goes_on, looked_begin, entered_plan, entered_count, entered_stage, passed_plan}
use Rattle.em_word.proofs.expander.Expander.begin.Goals as goal

pub returns-in_err-charge_unit-clause-steps : goal.returns-in_err-charge_unit-clause-steps
returns-in_err-charge_unit-clause-steps g c = bad _ _ c.from_residual.ensures.1 (unpaid _ c.in_err-charge_unit.ensures)

pub returns-in_default-clause-steps : goal.returns-in_default-clause-steps
returns-in_default-clause-steps g c = rw ((λ i. form_of (sym c.bytes-name.ensures i) (sym c.bytes.ensures i) true) ∙ sym c.form_of.ensures ∙ c.in_default.is) (failed (paid _ c.in_ok-charge_unit.ensures) fails)

pub returns-in_err-enter-in-Argument-clause-steps : goal.returns-in_err-enter-in-Argument-clause-steps
returns-in_err-enter-in-Argument-clause-steps g c = rw ((λ i. form_of (sym c.bytes-name.ensures i) (sym c.bytes.ensures i) true) ∙ sym c.form_of.ensures ∙ c.in-Some.is) (bad _ _ c.from_residual-in_err-enter-in-Argument.ensures.1 (failed (paid _ c.in_ok-charge_unit.ensures) lost))

pub returns-in_ok-enter-in-Argument-clause-steps : goal.returns-in_ok-enter-in-Argument-clause-steps
returns-in_ok-enter-in-Argument-clause-steps g c =
    rw ((λ i. form_of (sym c.bytes-name.ensures i) (sym c.bytes.ensures i) true) ∙ sym c.form_of.ensures ∙ c.in-Some.is) (goes_on _ _ (on (paid _ c.in_ok-charge_unit.ensures) (looked_begin c.in-Some.form c.args.quoted c.args.value.now.name _ (ap (λ v. early_value c.in-Some.form v c.args.shell.now.status) (ap (text_of c.args.shell.now) (sym c.bytes-name.ensures) ∙ sym c.text_of.ensures) ∙ sym c.early_value.ensures ∙ ap told c.in-Argument.is) (late_value c.in-Some.form) (arounds c.args.self.now) c.args.self.now.parts (next c.args.self.now.rest.now)))
    (record { leads = is_same (entered_plan c.args.self.now _ c.args.quoted (late_value c.in-Some.form) c.args.value.now (rw c.late_value.ensures at c.in_ok-enter-in-Argument.ensures) c.requires.runs); steady = record { runs = entered_stage c.args.self.now _ c.args.quoted (late_value c.in-Some.form) c.args.value.now (rw c.late_value.ensures at c.in_ok-enter-in-Argument.ensures) c.requires.runs; counted = entered_count c.args.self.now _ c.args.quoted (late_value c.in-Some.form) c.args.value.now (rw c.late_value.ensures at c.in_ok-enter-in-Argument.ensures) c.requires.counted } }))

pub returns-in_err-pass_over-in-Text-clause-steps : goal.returns-in_err-pass_over-in-Text-clause-steps
returns-in_err-pass_over-in-Text-clause-steps g c = rw ((λ i. form_of (sym c.bytes-name.ensures i) (sym c.bytes.ensures i) true) ∙ sym c.form_of.ensures ∙ c.in-Some.is) (bad _ _ c.from_residual-in_err-pass_over-in-Text.ensures.1 (failed (paid _ c.in_ok-charge_unit.ensures) lost))

pub returns-in_ok-pass_over-in-Text-clause-steps : goal.returns-in_ok-pass_over-in-Text-clause-steps
returns-in_ok-pass_over-in-Text-clause-steps g c =
    let p = c.in_ok-pass_over-in-Text.ensures in
    rw ((λ i. form_of (sym c.bytes-name.ensures i) (sym c.bytes.ensures i) true) ∙ sym c.form_of.ensures ∙ c.in-Some.is) (led _ _ (on (paid _ c.in_ok-charge_unit.ensures) (on (looked_begin c.in-Some.form c.args.quoted c.args.value.now.name _ (ap (λ v. early_value c.in-Some.form v c.args.shell.now.status) (ap (text_of c.args.shell.now) (sym c.bytes-name.ensures) ∙ sym c.text_of.ensures) ∙ sym c.early_value.ensures ∙ ap told c.in-Text.is) (late_value c.in-Some.form) (arounds c.args.self.now) c.args.self.now.parts (next c.args.self.now.rest.now)) (is_same (passed_plan c.args.self.now _ (late_value c.in-Some.form) c.args.quoted c.args.value.now.name _ p.new p.rest))))
    c.settle.result (rw p.same.1 at c.settle.ensures.steps))

pub returns-in_err-pass_over-in-Number-clause-steps : goal.returns-in_err-pass_over-in-Number-clause-steps
returns-in_err-pass_over-in-Number-clause-steps g c = rw ((λ i. form_of (sym c.bytes-name.ensures i) (sym c.bytes.ensures i) true) ∙ sym c.form_of.ensures ∙ c.in-Some.is) (bad _ _ c.from_residual-in_err-pass_over-in-Number.ensures.1 (failed (paid _ c.in_ok-charge_unit.ensures) lost))

pub returns-in_ok-pass_over-in-Number-clause-steps : goal.returns-in_ok-pass_over-in-Number-clause-steps
returns-in_ok-pass_over-in-Number-clause-steps g c =
    let p = c.in_ok-pass_over-in-Number.ensures in
    rw ((λ i. form_of (sym c.bytes-name.ensures i) (sym c.bytes.ensures i) true) ∙ sym c.form_of.ensures ∙ c.in-Some.is) (led _ _ (on (paid _ c.in_ok-charge_unit.ensures) (on (looked_begin c.in-Some.form c.args.quoted c.args.value.now.name _ (ap (λ v. early_value c.in-Some.form v c.args.shell.now.status) (ap (text_of c.args.shell.now) (sym c.bytes-name.ensures) ∙ sym c.text_of.ensures) ∙ sym c.early_value.ensures ∙ ap told c.in-Number.is) (late_value c.in-Some.form) (arounds c.args.self.now) c.args.self.now.parts (next c.args.self.now.rest.now)) (is_same (passed_plan c.args.self.now _ (late_value c.in-Some.form) c.args.quoted c.args.value.now.name _ p.new p.rest))))
    c.settle-in-Number.result (rw (p.same.1, c.as_bytes.ensures.value, c.format.ensures.text) at c.settle-in-Number.ensures.steps))
