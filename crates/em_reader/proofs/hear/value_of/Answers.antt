use Rattle.std.proofs.Common.{◌∙◌, refl, sym}
use Rattle.em_vars.specs.Entries.{value_of}
use Rattle.em_view.proofs.Doing.{finish_s, out_s}
use Rattle.em_reading.specs.Variables.{is_expanded}
use Rattle.em_reader.specs.Hearing.{value_by, value_of_assignment}
use Rattle.em_reader.proofs.States.{on_state}
use Rattle.em_reader.proofs.hear.value_of.Goals as goal

pub returns-then-is_expanded : goal.returns-then-is_expanded
unfolding value_of_assignment
returns-then-is_expanded g c =
    let yes = sym (rw c.bytes.ensures at c.is_expanded.ensures) ∙ c.if-is_expanded.true in
    on_state (λ r. value_by (is_expanded c.args.assignment.now.operator (value_of r.book.vars c.args.name.now.text)) c.args.name.now.refused c.args.place.now c.args.assignment.now.value)
    (rw yes (rw c.bytes-value.ensures at c.heard_after.ensures))

pub returns-in_err-from_slice : goal.returns-in_err-from_slice
unfolding value_of_assignment
returns-in_err-from_slice g c = out_s _ refl c.from_residual.ensures.1

pub returns : goal.returns
unfolding value_of_assignment
returns g c =
    let no = sym (rw c.bytes.ensures at c.is_expanded.ensures) ∙ c.if-is_expanded.false in
    on_state (λ r. value_by (is_expanded c.args.assignment.now.operator (value_of r.book.vars c.args.name.now.text)) c.args.name.now.refused c.args.place.now c.args.assignment.now.value)
    (rw (no, c.plain.ensures, c.in_ok-from_slice.ensures, c.bytes-value.ensures) finish_s)
